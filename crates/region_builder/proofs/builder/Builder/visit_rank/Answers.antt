use Rattle.std.proofs.Common.{◌≡◌, inl, inr, ℕ, List, ap, Bool, true, false, length, get_or, sym, subst, ◌∙◌, arith}
use Rattle.std.proofs.lemmas.Bool.{cases_eq}
use Rattle.flow_graph.specs.Shapes.{plain}
use Rattle.head_table.specs.Table.{over}
use Rattle.region_builder.specs.Settled.{IsSettledBy}
use Rattle.region_builder.specs.Built.{Went}
use Rattle.region_builder.specs.Bare.{BareFrom}
use Rattle.region_builder.proofs.Finding.{went_nowhere, went_on, kept_built, or_false, settled_went}
use Rattle.region_builder.proofs.builder.Builder.visit_rank.Goals as goal

pub loop-a-init : goal.loop-a-init
loop-a-init c = record { went = went_nowhere c.args.self.now; settled = λ f a l. absurd (omega arith); bare = λ p first is tree from. from }

pub visit_at-requires-clause-built : goal.visit_at-requires-clause-built
visit_at-requires-clause-built c = kept_built c.args.self.now c.loop-a.self c.loop-a.invariant.went.keeps c.requires.built

pub loop-a-preserved : goal.loop-a-preserved
loop-a-preserved c = record {
  went = (let P : Bool → Type 0 = λ d. Went c.args.self.now c.visit_at.new.self d in
      subst P (sym c.either-changed.ensures) (went_on c.args.self.now c.loop-a.self c.visit_at.new.self c.loop-a.changed c.in_ok-done.done c.loop-a.invariant.went c.in_ok-done.ensures.went));
  settled = λ f a l q live. (
      let (x, y) = or_false c.loop-a.changed c.in_ok-done.done (sym c.either-changed.ensures ∙ f) in
      let P : Bool → Type 0 = λ d. Went c.args.self.now c.loop-a.self d in
      let w : Went c.args.self.now c.loop-a.self false = subst P x c.loop-a.invariant.went in
      elim (cases_eq a c.loop-a.a) [
        | inr n ↦ c.loop-a.invariant.settled x a (omega arith) q live
        | inl e ↦ (
            let Q : ℕ → Type 0 = λ z. IsSettledBy (over c.args.self.now.heads) (plain c.args.self.now.graph) z in
            let R : ℕ → Type 0 = λ z. (plain c.args.self.now.graph).live z ≡ true in
            let S : ℕ → Type 0 = λ z. get_or c.args.self.now.ranks.items z 0 ≡ c.args.rank in
            let rank : get_or c.loop-a.self.ranks.items c.loop-a.a 0 ≡ c.args.rank = ap (λ (m : List ℕ). get_or m c.loop-a.a 0) w.ranks ∙ subst S e q in
            subst Q (sym e) (settled_went c.args.self.now c.loop-a.self w c.loop-a.a (c.in_ok-done.ensures.settled y rank) (subst R e live)))
      ]);
  bare = λ p first is tree from. c.in_ok-done.ensures.bare p first (c.loop-a.invariant.went.keeps p first is) tree (c.loop-a.invariant.bare p first is tree from);
}

pub returns-clause-settled : goal.returns-clause-settled
returns-clause-settled c f a q live =
    let (p, first, b) = c.requires.built in
    let l = b.built.formed.within a live in
    let e = b.built.count in c.loop-a.invariant.settled f a (omega (arith, c.loop-a.auto.a-end)) q live

pub returns-clause-bare : goal.returns-clause-bare
returns-clause-bare c p first is tree from =
    let e : c.loop-a.a ≡ length c.args.self.now.blocks.items = omega (arith, c.loop-a.auto.a-end) in
    let P : ℕ → Type 0 = λ n. BareFrom (plain first.graph) c.loop-a.self c.args.rank n in subst P e (c.loop-a.invariant.bare p first is tree from)
