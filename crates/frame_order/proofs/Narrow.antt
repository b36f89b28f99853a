-- A dispatch has few arms, since different blocks enter them.
use Rattle.std.proofs.Common.{◌≡◌, ℕ, zero, suc, ◌*◌, ◌-◌, ◌≤◌, List, [], ◌∷◌, length, Option, Some, None, refl, arith}
use Rattle.std.specs.Prelude.{slice_get}
use Rattle.dxil_form.specs.declared.program.Program.{Program}
use Rattle.dxil_form.specs.declared.region.Region.{Region}
use Rattle.dxil_form.specs.declared.region.Region.TheVariants as region
use Rattle.dxil_form.specs.Sound.{Sound}
use Rattle.dxil_form.specs.Wired.{Wired}
use Rattle.spirv_code.specs.Leaves.{most_pairs}
use Rattle.spirv_code.specs.Trees.{Tree, Missing, Leaf, Then, Loop, Dispatch, Arms, No_arm, Arm, arms_of, entered_arms, with_arms, node, tree_from, root_of}
use Rattle.spirv_code.specs.Rows.{arm_pairs}
use Rattle.formed_rows.proofs.Counted.{arms_few}

abbrev mutual
  pub Narrow : Tree → Type 0
  Narrow Missing = Unit {0}
  Narrow (Leaf place block arms) = AreNarrow arms
  Narrow (Then place first second target) = Narrow first × Narrow second
  Narrow (Loop place body head) = Narrow body
  Narrow (Dispatch place arms) = (length (arm_pairs arms) ≤ 2 * most_pairs) × AreNarrow arms

  pub AreNarrow : Arms → Type 0
  AreNarrow No_arm = Unit {0}
  AreNarrow (Arm target tree arms) = Narrow tree × AreNarrow arms

entered_count : (part : ℕ → Tree) (xs : List ℕ) → length (arm_pairs (entered_arms part xs)) ≡ 2 * length xs
entered_count part [] = refl
entered_count part (a ∷ xs) = let rest = entered_count part xs in omega (arith, rest)

entered_narrow : (part : ℕ → Tree) (xs : List ℕ) → ((r : ℕ) → Narrow (part r)) → AreNarrow (entered_arms part xs)
entered_narrow part [] h = tt
entered_narrow part (a ∷ xs) h = (h a, entered_narrow part xs h)

arms_narrow : (part : ℕ → Tree) (xs : List (ℕ × ℕ)) → ((r : ℕ) → Narrow (part r)) → AreNarrow (arms_of part xs)
arms_narrow part [] h = tt
arms_narrow part (x ∷ xs) h = (h x.1, arms_narrow part xs h)

with_narrow : (tree : Tree) (arms : Arms) → AreNarrow arms → Narrow (with_arms tree arms)
with_narrow Missing arms h = tt
with_narrow (Leaf place block old) arms h = h
with_narrow (Then place first second target) arms h = tt
with_narrow (Loop place body head) arms h = tt
with_narrow (Dispatch place old) arms h = tt

module _ (p : Program) (list : List Region) (sound : Sound p) (w : Wired p list) where
  node_narrow : (part : ℕ → Tree) (r : ℕ) (o : Option Region) → slice_get list r ≡ o → ((s : ℕ) → Narrow (part s)) → Narrow (node part r o)
  node_narrow part r None e h = tt
  node_narrow part r (Some (region.Leaf b)) e h = tt
  node_narrow part r (Some (region.Then first second target)) e h = (h first, h second)
  node_narrow part r (Some (region.Loop body head)) e h = h body
  node_narrow part r (Some (region.Dispatch xs)) e h =
      let few = arms_few p list sound w r xs e in
      let count = entered_count part xs in
      (omega (arith, few, count, sound.counts.blocks), entered_narrow part xs h)
  node_narrow part r (Some (region.Arms first xs)) e h = with_narrow (part first) (arms_of part xs) (arms_narrow part xs h)

  tree_narrow : (n r : ℕ) → Narrow (tree_from n list r)
  tree_narrow zero r = tt
  tree_narrow (suc n) r = node_narrow (tree_from n list) r (slice_get list r) refl (λ s. tree_narrow n s)

  pub root_narrow : Narrow (root_of list)
  root_narrow = tree_narrow (suc (length list - 1)) (length list - 1)
