use Rattle.std.proofs.Common.{ℕ, ◌≤◌, length}
use Rattle.flow_graph.specs.Links.{leaves, cell_at, IsLast, left}
use Rattle.flow_graph.proofs.RowLists.{AddsFrom}
use Rattle.flow_graph.proofs.rows.add_targets.Given as goal

abbrev pub invariant-loop-at : goal.invariant-loop-at
invariant-loop-at l =
    (n : ℕ) × (n ≤ length l.cells) × IsLast (leaves l.cells l.node) n l.at
    × AddsFrom (leaves l.cells l.node) (λ c. (cell_at l.cells c).to) n (length l.cells) l.fn.ends.items l.ends.items

abbrev pub decreases-loop-at : goal.decreases-loop-at
decreases-loop-at l = left l.at
