use Rattle.std.proofs.Common.{◌≡◌, inl, true, inr, refl, subst, sym}
use Rattle.std.proofs.lemmas.Bool.{cases_Bool, false≢true}
use Rattle.dxil_form.specs.Graphs.{Graph}
use Rattle.flow_graph.specs.Shapes.{plain}
use Rattle.region_builder.proofs.Finding.{kept_built, went_nowhere, went_true, went_by, absorber_lives}
use Rattle.region_builder.proofs.builder.Builder.join_children.Goals as goal

pub loop-j-init : goal.loop-j-init
loop-j-init c = record { went = went_nowhere c.args.self.now; live = c.requires.live; did = λ t. absurd (false≢true t) }

pub join-requires-clause-built : goal.join-requires-clause-built
join-requires-clause-built c = kept_built c.args.self.now c.loop-j.self c.loop-j.invariant.went.keeps c.requires.built

pub loop-j-preserved : goal.loop-j-preserved
loop-j-preserved c = record {
  went = went_true c.args.self.now c.loop-j.self c.join.new.self c.loop-j.joined true c.loop-j.invariant.went
      (went_by c.loop-j.self c.join.new.self c.in_ok-join.ensures.built c.in_ok-join.ensures.rings c.in_ok-join.ensures.smaller c.in_ok-join.ensures.heads c.in_ok-join.ensures.ranks) (inr refl);
  live = (let P : Graph → Type 0 = λ g. g.live c.args.a ≡ true in
      subst P (sym c.in_ok-join.ensures.graph) (absorber_lives (plain c.loop-j.self.graph) c.args.a c.in-Some.j c.in-Some.ensures.sole c.loop-j.invariant.live));
  did = λ _. elim (cases_Bool c.loop-j.joined) [
    | inl t ↦ c.loop-j.invariant.did t
    | inr f ↦ (
        let P : Graph → Type 0 = λ g. g.edge c.args.a c.in-Some.j ≡ true in (c.in-Some.j, subst P (c.loop-j.invariant.went.same f) c.in-Some.ensures.sole.edge))
  ];
}
