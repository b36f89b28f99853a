use Rattle.region_leaves.specs.Edges.{AreMarked}
use Rattle.region_leaves.proofs.marked.Given as goal

abbrev pub invariant-loop-i : goal.invariant-loop-i
invariant-loop-i l = AreMarked l.marks l.i l.numbers
