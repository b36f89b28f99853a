use Rattle.std.proofs.Common.{length}
use Rattle.flow_graph.specs.Shapes.{joins, edges_of}
use Rattle.flow_graph.specs.Rows.{AreRows}
use Rattle.flow_graph.proofs.rows.target_rows.Given as goal

abbrev pub invariant-loop-node : goal.invariant-loop-node
invariant-loop-node l = AreRows (joins (edges_of l.cells)) (length l.first) l.node l.starts.items l.ends.items
