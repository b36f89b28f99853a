use Rattle.std.proofs.Common.{◌≡◌, ◌+◌, ◌*◌, ◌++◌, drop, length}
use Rattle.spirv_code.specs.Rows.{met_arms, wanted_arms}
use Rattle.spirv_code.specs.Trees.{arms_of, tree_at}
use Rattle.spirv_emit.specs.Scenes.{context_in}
use Rattle.spirv_regions.proofs.regions.+rows.Given as goal

-- a region's place goes down; at one place a region is above its leaf, that above its exit, and that above the arms
abbrev pub decreases-row : goal.decreases-row
decreases-row l = 8 * l.place + 4

abbrev pub decreases-when : goal.decreases-when
decreases-when l = 8 * l.place + 5

abbrev pub decreases-arm : goal.decreases-arm
decreases-arm l = 8 * l.place + 5

abbrev pub decreases-leaf : goal.decreases-leaf
decreases-leaf l = 8 * l.under + 2

abbrev pub decreases-exit : goal.decreases-exit
decreases-exit l = 8 * l.under + 1

abbrev pub decreases-met_arms : goal.decreases-met_arms
decreases-met_arms l = 8 * l.under

abbrev pub decreases-wanted_arms : goal.decreases-wanted_arms
decreases-wanted_arms l = 8 * l.under

abbrev pub decreases-one_arm : goal.decreases-one_arm
decreases-one_arm l = 8 * l.under

abbrev pub decreases-dispatch : goal.decreases-dispatch
decreases-dispatch l = 8 * l.place + 1

abbrev pub invariant-met_arms-loop-pair : goal.invariant-met_arms-loop-pair
invariant-met_arms-loop-pair l =
    l.code ++ met_arms (context_in l.s) l.meet (length l.code) (arms_of (tree_at l.list) (drop l.pair-index l.arms)) ≡ l.initial.code ++ met_arms (context_in l.s) l.meet (length l.initial.code) (arms_of (tree_at l.list) l.arms)

abbrev pub invariant-wanted_arms-loop-pair : goal.invariant-wanted_arms-loop-pair
invariant-wanted_arms-loop-pair l =
    l.code ++ wanted_arms (context_in l.s) (length l.code) (arms_of (tree_at l.list) (drop l.pair-index l.arms)) ≡ l.initial.code ++ wanted_arms (context_in l.s) (length l.initial.code) (arms_of (tree_at l.list) l.arms)
