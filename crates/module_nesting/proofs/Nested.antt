-- A tree of regions is at most twice as deep as it has leaves.
use Rattle.std.proofs.Common.{◌≡◌, ℕ, ◌+◌, ◌*◌, ◌≤◌, Bool, true, false, List, Some, ap, arith}
use Rattle.std.specs.Prelude.{slice_get}
use Rattle.dxil_form.specs.declared.region.Region.{Region}
use Rattle.dxil_form.specs.declared.region.Region.TheVariants as region
use Rattle.spirv_code.specs.Trees.{Tree, Missing, Leaf, Then, Loop, Dispatch, Arms, No_arm, Arm}
use Rattle.module_structure.specs.Depth.{depth_of, arms_depth}

abbrev pub is_looping : Tree → Bool
is_looping Missing = false
is_looping (Leaf place block arms) = false
is_looping (Then place first second target) = false
is_looping (Loop place body head) = true
is_looping (Dispatch place arms) = false

abbrev mutual
  pub leaves : Tree → ℕ
  leaves Missing = 0
  leaves (Leaf place block arms) = 1 + arms_leaves arms
  leaves (Then place first second target) = leaves first + leaves second
  leaves (Loop place body head) = leaves body
  leaves (Dispatch place arms) = arms_leaves arms

  pub arms_leaves : Arms → ℕ
  arms_leaves No_arm = 0
  arms_leaves (Arm target tree arms) = leaves tree + arms_leaves arms

module _ (list : List Region) where
  abbrev mutual
    -- a tree without a dispatch, in which no loop's body is a loop, and each leaf is a leaf of the list
    pub IsNested : Tree → Type 0
    IsNested Missing = ⊥
    IsNested (Leaf place block arms) = (slice_get list place ≡ Some (region.Leaf block)) × AreNested arms
    IsNested (Then place first second target) = IsNested first × IsNested second
    IsNested (Loop place body head) = (is_looping body ≡ false) × IsNested body
    IsNested (Dispatch place arms) = ⊥

    pub AreNested : Arms → Type 0
    AreNested No_arm = Unit {0}
    AreNested (Arm target tree arms) = IsNested tree × AreNested arms

  -- one less where the tree is no loop
  abbrev pub spare : Bool → ℕ
  spare true = 0
  spare false = 1

  mutual
    pub low_tree : (tree : Tree) → IsNested tree → depth_of tree + spare (is_looping tree) ≤ 2 * leaves tree
    low_tree Missing h = absurd h
    low_tree (Leaf place block arms) h =
        let rest = low_arms arms h.1 in
        omega (arith, rest)
    low_tree (Then place first second target) h =
        let one = low_tree first h.0 in
        let two = low_tree second h.1 in
        let some = some_leaf first h.0 in
        let more = some_leaf second h.1 in
        omega (arith, one, two, some, more)
    low_tree (Loop place body head) h =
        let rest = low_tree body h.1 in
        let none = ap spare h.0 in
        omega (arith, rest, none)
    low_tree (Dispatch place arms) h = absurd h

    pub low_arms : (arms : Arms) → AreNested arms → arms_depth arms ≤ 2 * arms_leaves arms
    low_arms No_arm h = omega arith
    low_arms (Arm target tree arms) h =
        let one = low_tree tree h.0 in
        let rest = low_arms arms h.1 in
        omega (arith, one, rest)

    some_leaf : (tree : Tree) → IsNested tree → 1 ≤ leaves tree
    some_leaf Missing h = absurd h
    some_leaf (Leaf place block arms) h = omega arith
    some_leaf (Then place first second target) h =
        let rest = some_leaf first h.0 in
        omega (arith, rest)
    some_leaf (Loop place body head) h = some_leaf body h.1
    some_leaf (Dispatch place arms) h = absurd h
