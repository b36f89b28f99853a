-- One dispatch over leaves is three deep.
use Rattle.std.proofs.Common.{◌≡◌, ℕ, zero, suc, ◌-◌, ◌<◌, ◌≤◌, Bool, true, false, cond, ltb, List, [], ◌∷◌, ◌++◌, length, Some, refl, sym, ap, ◌∙◌, subst, arith}
use Rattle.std.specs.Prelude.{slice_get, map}
use Rattle.dxil_form.specs.declared.program.Program.{Program}
use Rattle.dxil_form.specs.declared.region.Region.{Region}
use Rattle.dxil_form.specs.declared.region.Region.TheVariants as region
use Rattle.dxil_form.specs.Wired.{parts, Wired}
use Rattle.region_laws.specs.Roots.{closed}
use Rattle.region_leaves.specs.Leaves.{leaves_of, placed_from}
use Rattle.dispatch_loop.specs.Whole.{IsOneDispatch}
use Rattle.spirv_code.specs.Trees.{Tree, entered_arms, node, tree_from, root_of}
use Rattle.module_structure.specs.Depth.{depth_of, arms_depth}
use Rattle.module_nesting.proofs.Counted.{get_some, single_leaf, part_there, before_root}

-- a leaf or a dispatch
pub data IsFlat : Region → Type 0 where
  leaf : (b : ℕ) → IsFlat (region.Leaf b)
  dispatch : (xs : List ℕ) → IsFlat (region.Dispatch xs)

inj : {A : Type 0} {a b : A} → Some a ≡ Some b → a ≡ b
inj e = cc

leaf_flat : (blocks : List ℕ) (s : ℕ) (x : Region) → slice_get (leaves_of blocks) s ≡ Some x → IsFlat x
leaf_flat [] s x e = absurd (cc)
leaf_flat (b ∷ blocks) zero x e = subst IsFlat (inj e) (leaf b)
leaf_flat (b ∷ blocks) (suc s) x e = leaf_flat blocks s x e

pushed_flat : (blocks : List ℕ) (xs : List ℕ) (s : ℕ) (x : Region) → slice_get (leaves_of blocks ++ region.Dispatch xs ∷ []) s ≡ Some x → IsFlat x
pushed_flat [] xs zero x e = subst IsFlat (inj e) (dispatch xs)
pushed_flat [] xs (suc s) x e = absurd (cc)
pushed_flat (b ∷ blocks) xs zero x e = subst IsFlat (inj e) (leaf b)
pushed_flat (b ∷ blocks) xs (suc s) x e = pushed_flat blocks xs s x e

closed_flat : (blocks : List ℕ) (roots : List (ℕ × ℕ)) (s : ℕ) (x : Region) → slice_get (closed (leaves_of blocks) roots) s ≡ Some x → IsFlat x
closed_flat blocks roots s x e = by_test (ltb 1 (length roots)) e
  where
    by_test : (b : Bool) → slice_get (cond b (leaves_of blocks ++ region.Dispatch (map (λ root. root.1) roots) ∷ []) (leaves_of blocks)) s ≡ Some x → IsFlat x
    by_test true e = pushed_flat blocks (map (λ root. root.1) roots) s x e
    by_test false e = leaf_flat blocks s x e

entered_low : (part : ℕ → Tree) (xs : List ℕ) → ((i a : ℕ) → slice_get xs i ≡ Some a → depth_of (part a) ≤ 1) → arms_depth (entered_arms part xs) ≤ 1
entered_low part [] h = omega arith
entered_low part (a ∷ xs) h =
    let one = h 0 a refl in
    let rest = entered_low part xs (λ i b e. h (suc i) b e) in
    omega (arith, one, rest)

module _ (p : Program) (list : List Region) (w : Wired p list) (is : IsOneDispatch p list) where
  flat : (s : ℕ) (x : Region) → slice_get list s ≡ Some x → IsFlat x
  flat s x e =
      closed_flat is.blocks (placed_from 0 is.blocks) s x (sym (ap (λ xs. slice_get xs s) is.is) ∙ e)

  part_low : (r i s : ℕ) (x : Region) → slice_get list r ≡ Some x → slice_get (parts x) i ≡ Some s → depth_of (tree_from r list s) ≤ 1
  part_low r i s x e at =
      let there = part_there p list w r i s x e at in
      by_flat there.1.0 there.1.1 (flat s there.1.0 there.1.1) there.0
    where
      by_flat : (y : Region) → slice_get list s ≡ Some y → IsFlat y → s < r → depth_of (tree_from r list s) ≤ 1
      by_flat y there (leaf b) less =
          let one = ap depth_of (single_leaf p list w r s b less there) in
          omega (arith, one)
      by_flat y there (dispatch xs) less = absurd (before_root p list w s r x (region.Dispatch xs) less e there xs refl)

  node_low : (r : ℕ) (x : Region) → slice_get list r ≡ Some x → IsFlat x → depth_of (node (tree_from r list) r (Some x)) ≤ 3
  node_low r x e (leaf b) = omega arith
  node_low r x e (dispatch xs) =
      let low = entered_low (tree_from r list) xs (λ i a at. part_low r i a (region.Dispatch xs) e at) in
      omega (arith, low)

  pub flat_depth : depth_of (root_of list) ≤ 3
  flat_depth =
      let last = w.last in
      let r = length list - 1 in
      let x = get_some list r (omega (arith, last)) in
      subst (λ o. depth_of (node (tree_from r list) r o) ≤ 3) (sym x.1) (node_low r x.0 x.1 (flat r x.0 x.1))
