use Rattle.std.proofs.Common.{◌≡◌, take}
use Rattle.region_leaves.specs.Edges.{edges_on}
use Rattle.region_leaves.proofs.block_edges.Given as goal

abbrev pub invariant-loop-b : goal.invariant-loop-b
invariant-loop-b l = l.edges.items ≡ edges_on 0 (take l.b l.blocks)
