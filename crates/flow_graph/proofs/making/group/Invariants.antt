use Rattle.std.proofs.Common.{length}
use Rattle.flow_graph.specs.Links.{Linked, first_of}
use Rattle.flow_graph.specs.Given.{starts}
use Rattle.flow_graph.proofs.making.group.Given as goal

abbrev pub invariant-loop-i : goal.invariant-loop-i
invariant-loop-i l = Linked l.i (length l.first) (starts l.edges) (first_of l.first) (first_of l.next)
