use Rattle.std.proofs.Common.{◌≡◌, map, take}
use Rattle.spirv_code.specs.Trees.{entry_of, tree_at}
use Rattle.spirv_regions.proofs.pieces.entered.Given as goal

abbrev pub invariant-loop-arm : goal.invariant-loop-arm
invariant-loop-arm l = l.pairs ≡ map (λ a. (entry_of (tree_at l.list a), a)) (take l.arm-index l.arms)
