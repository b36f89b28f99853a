use Rattle.std.proofs.Common.{◌∙◌, ◌<◌, length, ℕ, Option, Some, arith, sym, subst}
use Rattle.std.proofs.lemmas.Bool.{not-true, not-false}
use Rattle.flow_graph.specs.Links.{IsLast, first_of}
use Rattle.flow_graph.specs.Given.{edge_at, starts}
use Rattle.flow_graph.proofs.Choice.{choice_old, choice_new}
use Rattle.flow_graph.proofs.Walking.{same_is, other_is}
use Rattle.flow_graph.proofs.making.choose_from.Goals as goal
use Rattle.flow_graph.proofs.making.choose_from.Goals.{then-ne, else-ne}

pub loop-at-preserved : goal.loop-at-preserved
loop-at-preserved c =
    let edges = c.args.edges.now in
    let i = c.in-Some.i in
    let (n, _, before, state) = c.loop-at.invariant in
    let P : Option ℕ → Type 0 = λ o. IsLast (starts edges c.args.a) n o in
    let last : IsLast (starts edges c.args.a) n (Some i) = subst P c.in-Some.is before in
    let inside : i < length edges = (let l = last.0 in omega arith) in
    let fits : (edge_at edges i).to < length c.loop-at.seen = (let w = (c.requires.within i inside).1 in omega arith) in
    let place : i < length c.loop-at.chosen = omega arith in
    let seen = first_of c.loop-at.seen (edge_at edges i).to in (
      i,
      omega arith,
      c.requires.grouped.nexts c.args.a i inside last.1,
      elim c.if-ne.branch [
        | then-ne w ↦ rw (w.seen-is, w.chosen-is) (choice_new edges c.args.a c.loop-at.seen c.loop-at.chosen n i state last inside place fits
            (other_is seen c.args.a (not-true _ (sym c.ne.ensures ∙ w.if-ne.true))))
        | else-ne w ↦ rw (w.seen-is, w.chosen-is) (choice_old edges c.args.a c.loop-at.seen c.loop-at.chosen n i state last
            (same_is seen c.args.a (not-false _ (sym c.ne.ensures ∙ w.if-ne.false))))
      ],
    )
