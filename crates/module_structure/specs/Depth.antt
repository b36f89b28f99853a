-- How deep the selections and loops in the code of a region stand one in another.
use Rattle.std.specs.Prelude.{ℕ, zero, suc, max}
use Rattle.spirv_code.specs.Trees.{Tree, Missing, Leaf, Then, Loop, Dispatch, Arms, No_arm, Arm}

-- A leaf has a selection among its arms, range tests and the chunks of a switch, none in another; a region that runs only where its block is wanted stands in a selection; a loop's body stands in the loop, and an arm of a dispatch in its loop and its selection.
abbrev mutual
  pub depth_of : Tree → ℕ
  depth_of Missing = zero
  depth_of (Leaf place block arms) = suc (arms_depth arms)
  depth_of (Then place first second target) = max (depth_of first) (suc (depth_of second))
  depth_of (Loop place body head) = suc (depth_of body)
  depth_of (Dispatch place arms) = suc (suc (arms_depth arms))

  pub arms_depth : Arms → ℕ
  arms_depth No_arm = zero
  arms_depth (Arm target tree arms) = max (depth_of tree) (arms_depth arms)
