use Rattle.flow_graph.specs.Given.{Chosen}
use Rattle.flow_graph.proofs.making.choose.Given as goal

abbrev pub invariant-loop-a : goal.invariant-loop-a
invariant-loop-a l = Chosen l.edges l.a l.seen l.chosen
