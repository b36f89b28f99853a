use Rattle.std.proofs.Common.{ℕ, List, length, Option, Some, subst, sym, arith}
use Rattle.flow_graph.specs.Links.{cell_at, leaves, IsLast}
use Rattle.flow_graph.proofs.RowLists.{AddsFrom, adds_on, adds_targets}
use Rattle.flow_graph.proofs.rows.add_targets.Goals as goal

pub loop-at-preserved : goal.loop-at-preserved
loop-at-preserved c =
    let (n, within, last, adds) = c.loop-at.invariant in
    let P : Option ℕ → Type 0 = λ o. IsLast (leaves c.args.cells.now c.args.node) n o in
    let Q : List ℕ → Type 0 = λ l. AddsFrom (leaves c.args.cells.now c.args.node) (λ d. (cell_at c.args.cells.now d).to) c.in-Some.c (length c.args.cells.now) c.args.ends.now.items l in
    let now : IsLast (leaves c.args.cells.now c.args.node) n (Some c.in-Some.c) = subst P c.in-Some.is last in (
      c.in-Some.c,
      omega (arith, now.0),
      c.requires.lists.nexts c.args.node c.in-Some.c (omega (arith, now.0)) now.1,
      subst Q (sym c.in_ok-add.ensures) (adds_on (leaves c.args.cells.now c.args.node) (λ d. (cell_at c.args.cells.now d).to) n c.in-Some.c (length c.args.cells.now)
          c.args.ends.now.items c.loop-at.ends.items within now adds),
    )

pub returns : goal.returns
returns c =
    let (n, within, last, adds) = c.loop-at.invariant in
    let P : Option ℕ → Type 0 = λ o. IsLast (leaves c.args.cells.now c.args.node) n o in
    adds_targets c.args.cells.now c.args.node n c.args.ends.now.items c.loop-at.ends.items (subst P c.in_default.is last) adds
