use Rattle.std.proofs.Common.{length}
use Rattle.flow_graph.specs.Shapes.{edges_of}
use Rattle.flow_graph.specs.Rows.{AreRows, backward}
use Rattle.flow_graph.proofs.rows.source_rows.Given as goal

abbrev pub invariant-loop-node : goal.invariant-loop-node
invariant-loop-node l = AreRows (backward (edges_of l.cells)) (length l.first) l.node l.starts.items l.ends.items
