use Rattle.std.proofs.Common.{◌≡◌, take}
use Rattle.region_leaves.specs.Leaves.{leaves_of}
use Rattle.region_leaves.proofs.leaves.Given as goal

abbrev pub invariant-loop-block : goal.invariant-loop-block
invariant-loop-block l = l.list ≡ leaves_of (take l.block-index l.blocks)
