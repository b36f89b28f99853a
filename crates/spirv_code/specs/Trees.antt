-- The regions of a program as a tree. A list of regions names its parts by places; the tree has them in it, so that what is defined and proved goes by its parts.
use Rattle.std.specs.Prelude.{ℕ, zero, suc, ◌-◌, ◌<◌, Bool, true, false, List, [], ◌∷◌, length, Option, Some, None, slice_get, nat_eq, if◌then◌else◌}
use Rattle.dxil_form.specs.declared.region.Region.{Region}
use Rattle.dxil_form.specs.declared.region.Region.TheVariants as region
use Rattle.dxil_form.specs.Wired.{IsPart}
use Rattle.spirv_code.specs.Plans.{site_label, header_label}

mutual
  -- A region with its place in the list. A leaf has the arms that stand at it; a leaf alone has none.
  pub data Tree : Type 0 where
    Missing : Tree
    Leaf : (place block : ℕ) → Arms → Tree
    Then : (place : ℕ) → (first second : Tree) → (target : ℕ) → Tree
    Loop : (place : ℕ) → (body : Tree) → (head : ℕ) → Tree
    Dispatch : (place : ℕ) → Arms → Tree

  -- regions, each with the block for which it runs
  pub data Arms : Type 0 where
    No_arm : Arms
    Arm : (target : ℕ) → Tree → Arms → Arms

-- the block that enters a region
abbrev pub entry_of : Tree → ℕ
entry_of Missing = 0
entry_of (Leaf place block arms) = block
entry_of (Then place first second target) = entry_of first
entry_of (Loop place body head) = head
entry_of (Dispatch place arms) = 0

-- the label at which a region begins
abbrev pub label_at : Tree → ℕ
label_at Missing = 0
label_at (Leaf place block arms) = site_label place
label_at (Then place first second target) = label_at first
label_at (Loop place body head) = header_label place
label_at (Dispatch place arms) = header_label place

-- the region begins with a leaf
abbrev pub begins_plainly : Tree → Bool
begins_plainly Missing = true
begins_plainly (Leaf place block arms) = true
begins_plainly (Then place first second target) = begins_plainly first
begins_plainly (Loop place body head) = false
begins_plainly (Dispatch place arms) = false

abbrev pub place_of : Tree → ℕ
place_of Missing = 0
place_of (Leaf place block arms) = place
place_of (Then place first second target) = place
place_of (Loop place body head) = place
place_of (Dispatch place arms) = place

-- the labels of arms, each under the block for which the arm runs
abbrev pub arm_label : Arms → ℕ → Option ℕ
arm_label No_arm k = None
arm_label (Arm target tree arms) k = if nat_eq k target then Some (label_at tree) else arm_label arms k

-- ---- from the list

-- the arms of a leaf
abbrev pub arms_of : (ℕ → Tree) → List (ℕ × ℕ) → Arms
arms_of part [] = No_arm
arms_of part (arm ∷ arms) = Arm arm.0 (part arm.1) (arms_of part arms)

-- the arms of a dispatch, each for the block that enters it
abbrev pub entered_arms : (ℕ → Tree) → List ℕ → Arms
entered_arms part [] = No_arm
entered_arms part (a ∷ arms) = Arm (entry_of (part a)) (part a) (entered_arms part arms)

abbrev pub with_arms : Tree → Arms → Tree
with_arms (Leaf place block old) arms = Leaf place block arms
with_arms tree arms = Missing

-- a region whose parts are given
abbrev pub node : (ℕ → Tree) → ℕ → Option Region → Tree
node part r None = Missing
node part r (Some (region.Leaf block)) = Leaf r block No_arm
node part r (Some (region.Then first second target)) = Then r (part first) (part second) target
node part r (Some (region.Loop body head)) = Loop r (part body) head
node part r (Some (region.Dispatch arms)) = Dispatch r (entered_arms part arms)
node part r (Some (region.Arms first arms)) = with_arms (part first) (arms_of part arms)

-- The region at place r, if fewer than n regions lie on each way down from it. A part stands at an earlier place, so n = r + 1 is enough.
abbrev pub tree_from : ℕ → List Region → ℕ → Tree
tree_from zero list r = Missing
tree_from (suc n) list r = node (tree_from n list) r (slice_get list r)

abbrev pub tree_at : List Region → ℕ → Tree
tree_at list r = tree_from (suc r) list r

-- the last region is the root
abbrev pub root_of : List Region → Tree
root_of list = tree_at list (length list - 1)

-- each part of a region stands at an earlier place
abbrev pub AreEarlier : List Region → Type 0
AreEarlier list = (r i s : ℕ) → IsPart list r i s → s < r
