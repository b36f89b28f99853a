use Rattle.std.proofs.Common.{◌≤◌}
use Rattle.region_builder.specs.Children.{AreChildrenBelow}
use Rattle.region_builder.proofs.builder.Builder.children.Given as goal

abbrev pub invariant-loop-j : goal.invariant-loop-j
invariant-loop-j l = record { least : 1 ≤ l.j; are : AreChildrenBelow l.self l.a l.j l.nodes.items }
