use Rattle.std.proofs.Common.{◌≡◌, length}
use Rattle.region_builder.specs.Nodes.{AreNodes}
use Rattle.region_builder.proofs.partial.nodes_of.Given as goal

abbrev pub invariant-loop-i : goal.invariant-loop-i
invariant-loop-i l = record { len : length l.nodes.items ≡ l.count; are : AreNodes l.blocks l.i l.nodes.items }
