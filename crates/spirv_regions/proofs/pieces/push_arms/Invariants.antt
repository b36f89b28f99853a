use Rattle.std.proofs.Common.{◌≡◌, ◌++◌, drop}
use Rattle.spirv_code.specs.Rows.{arm_pairs}
use Rattle.spirv_code.specs.Trees.{arms_of, tree_at}
use Rattle.spirv_regions.proofs.pieces.push_arms.Given as goal

abbrev pub invariant-loop-arm : goal.invariant-loop-arm
invariant-loop-arm l =
    l.operands ++ arm_pairs (arms_of (tree_at l.list) (drop l.arm-index l.arms)) ≡ l.initial.operands ++ arm_pairs (arms_of (tree_at l.list) l.arms)
