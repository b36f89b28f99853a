use Rattle.std.proofs.Common.{ℕ, ◌≤◌, length}
use Rattle.flow_graph.specs.Links.{IsLast, left}
use Rattle.flow_graph.specs.Given.{starts, Choosing}
use Rattle.flow_graph.proofs.making.choose_from.Given as goal

abbrev pub invariant-loop-at : goal.invariant-loop-at
invariant-loop-at l =
    (n : ℕ) × (n ≤ length l.edges) × IsLast (starts l.edges l.a) n l.at × Choosing l.edges l.a n l.seen l.chosen

abbrev pub decreases-loop-at : goal.decreases-loop-at
decreases-loop-at l = left l.at
