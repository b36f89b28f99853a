use Rattle.std.proofs.Common.{◌≡◌, take}
use Rattle.region_leaves.specs.Leaves.{placed_from}
use Rattle.region_leaves.proofs.leaf_roots.Given as goal

abbrev pub invariant-loop-i : goal.invariant-loop-i
invariant-loop-i l = l.roots ≡ placed_from 0 (take l.i l.blocks)
