use Rattle.std.proofs.Common.{◌<◌, ◌≤◌, ℕ, length}
use Rattle.flow_graph.specs.Links.{enters, IsLast, IsFrom, left}
use Rattle.flow_graph.proofs.cells.above_to.Given as goal

abbrev pub invariant-loop-at : goal.invariant-loop-at
invariant-loop-at l =
    (n : ℕ) × (n ≤ length l.cells) × (l.c < n) × IsLast (enters l.cells l.to) n l.at
    × IsFrom (enters l.cells l.to) (length l.cells) n l.best

abbrev pub decreases-loop-at : goal.decreases-loop-at
decreases-loop-at l = left l.at
