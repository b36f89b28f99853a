use Rattle.std.proofs.Common.{◌<◌, ◌≤◌, ℕ, length}
use Rattle.flow_graph.specs.Links.{leaves, IsLast, IsFrom, left}
use Rattle.flow_graph.proofs.cells.above_from.Given as goal

abbrev pub invariant-loop-at : goal.invariant-loop-at
invariant-loop-at l =
    (n : ℕ) × (n ≤ length l.cells) × (l.c < n) × IsLast (leaves l.cells l.from) n l.at
    × IsFrom (leaves l.cells l.from) (length l.cells) n l.best

abbrev pub decreases-loop-at : goal.decreases-loop-at
decreases-loop-at l = left l.at
