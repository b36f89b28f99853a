use Rattle.std.proofs.Common.{ℕ, inl, inr, subst, arith}
use Rattle.flow_graph.specs.Shapes.{plain}
use Rattle.std.proofs.lemmas.Bool.{cases_eq, both_ways}
use Rattle.dxil_form.specs.Graphs.{SolePred}
use Rattle.head_table.specs.Table.{over}
use Rattle.region_builder.specs.Settled.{IsAllowed}
use Rattle.region_builder.proofs.builder.Builder.first_child.Goals as goal

pub loop-j-preserved : goal.loop-j-preserved
loop-j-preserved c = record {
  least = omega arith;
  none = λ j n l p w. elim (cases_eq j c.loop-j.j) [
    | inl q ↦ (
        let P : ℕ → Type 0 = λ z. SolePred (plain c.args.self.now.graph) c.args.a z in
        let Q : ℕ → Type 0 = λ z. IsAllowed (over c.args.self.now.heads) c.args.a z in
        both_ways _ c.if-is_child.false (c.is_child.ensures.no (subst P q p) (subst Q q w)))
    | inr o ↦ c.loop-j.invariant.none j n (omega arith) p w
  ];
}

pub returns-clause-none : goal.returns-clause-none
returns-clause-none c j n p w =
    let (q, f, b) = c.requires.built in
    let l = b.built.formed.within j (b.built.formed.to c.args.a j p.edge) in
    let e = b.built.count in
    c.loop-j.invariant.none j n (omega arith) p w
