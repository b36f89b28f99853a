use Rattle.std.proofs.Common.{◌≤◌, length}
use Rattle.flow_graph.specs.declared.linked.TheConstants.{MAX_EDGES}
use Rattle.flow_graph.specs.Given.{Within}
use Rattle.machine_tests.proofs.graphs.graph_of.Given as goal

abbrev pub invariant-loop-from : goal.invariant-loop-from
invariant-loop-from g l = record { within : Within l.count l.edges.items; few : length l.edges.items ≤ MAX_EDGES }
