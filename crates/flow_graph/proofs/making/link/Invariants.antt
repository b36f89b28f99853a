use Rattle.flow_graph.specs.Given.{Placed}
use Rattle.flow_graph.proofs.making.link.Given as goal

abbrev pub invariant-loop-i : goal.invariant-loop-i
invariant-loop-i l = Placed l.edges l.chosen l.i l.cells l.first_from l.first_to
