use Rattle.std.proofs.Common.{◌≡◌, drop}
use Rattle.spirv_regions.specs.Ways.{arm_place}
use Rattle.spirv_regions.proofs.pieces.find_arm.Given as goal

abbrev pub invariant-loop-pair : goal.invariant-loop-pair
invariant-loop-pair l = arm_place l.k (drop l.pair-index l.arms) ≡ arm_place l.k l.arms
