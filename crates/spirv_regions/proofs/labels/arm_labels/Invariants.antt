use Rattle.std.proofs.Common.{◌≡◌, ℕ, drop, nat_eq}
use Rattle.std.specs.Option.{option_or}
use Rattle.indexmap.specs.IndexMap.{get}
use Rattle.spirv_code.specs.Trees.{arm_label, arms_of, tree_at}
use Rattle.spirv_regions.proofs.labels.arm_labels.Given as goal

abbrev pub invariant-loop-arm : goal.invariant-loop-arm
invariant-loop-arm l =
    (k : ℕ) → option_or (get nat_eq l.labels k) (arm_label (arms_of (tree_at l.list) (drop l.arm-index l.arms)) k) ≡ arm_label (arms_of (tree_at l.list) l.arms) k
