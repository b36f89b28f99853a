-- What is said of the tree at a place, by the region that stands there.
use Rattle.std.proofs.Common.{◌≡◌, ℕ, List, Option, true, refl, ap, sym, ◌∙◌}
use Rattle.std.specs.Prelude.{slice_get}
use Rattle.dxil_form.specs.declared.region.Region.{Region}
use Rattle.spirv_code.specs.Trees.{Tree, Missing, Leaf, Then, Loop, Dispatch, Arms, AreEarlier, begins_plainly, node, tree_at, with_arms}
use Rattle.spirv_code.proofs.TreeLaws.{tree_node}

pub at_node : (list : List Region) → AreEarlier list → {A : Type 0} (F : Tree → A) (r : ℕ) (x : Option Region) → slice_get list r ≡ x → F (node (tree_at list) r x) ≡ F (tree_at list r)
at_node list earlier F r x stands =
    ap F (sym (tree_node list earlier r ∙ ap (node (tree_at list) r) stands))

-- arms in place of arms
pub with_arms_twice : (t : Tree) (old new : Arms) → with_arms (with_arms t old) new ≡ with_arms t new
with_arms_twice Missing old new = refl
with_arms_twice (Leaf place block arms) old new = refl
with_arms_twice (Then place first second target) old new = refl
with_arms_twice (Loop place body head) old new = refl
with_arms_twice (Dispatch place arms) old new = refl

-- no loop begins a leaf with arms
pub plainly_armed : (t : Tree) (arms : Arms) → begins_plainly (with_arms t arms) ≡ true
plainly_armed Missing arms = refl
plainly_armed (Leaf place block old) arms = refl
plainly_armed (Then place first second target) arms = refl
plainly_armed (Loop place body head) arms = refl
plainly_armed (Dispatch place old) arms = refl
