-- The tree of wired regions has at each leaf arms of different blocks.
use Rattle.std.proofs.Common.{◌≡◌, ℕ, zero, suc, ◌-◌, ◌<◌, Bool, true, false, ◌||◌, List, [], ◌∷◌, length, Some, refl, sym, subst, arith}
use Rattle.std.specs.Prelude.{slice_get, map, nat_eq}
use Rattle.dxil_form.specs.declared.program.Program.{Program}
use Rattle.dxil_form.specs.declared.region.Region.{Region}
use Rattle.dxil_form.specs.declared.region.Region.TheVariants as region
use Rattle.dxil_form.specs.Branches.{has}
use Rattle.dxil_form.specs.Wired.{parts, Wired}
use Rattle.spirv_code.specs.Plans.{Plan, Context, context_of}
use Rattle.spirv_code.specs.Trees.{Tree, Missing, Leaf, Then, Loop, Dispatch, Arms, No_arm, Arm, arms_of, entered_arms, with_arms, node, tree_from, root_of}
use Rattle.line_runs.proofs.Tests.{true_false, nat_eq-eq}
use Rattle.module_structure.proofs.Members.{IsOnce}
use Rattle.module_structure.proofs.Trees.{Fits, FitsArms, arm_keys}
use Rattle.module_structure.proofs.Wiring.{apart, root_fits}
use Rattle.module_nesting.proofs.Counted.{get_some, single_leaf, part_there}
use Rattle.module_loops.proofs.Lower.{Single, AreSingle}

abbrev mutual
  Once : Tree → Type 0
  Once Missing = Unit {0}
  Once (Leaf r b arms) = IsOnce (arm_keys arms) × AreOnce arms
  Once (Then r first second target) = Once first × Once second
  Once (Loop r body head) = Once body
  Once (Dispatch r arms) = AreOnce arms

  AreOnce : Arms → Type 0
  AreOnce No_arm = Unit {0}
  AreOnce (Arm target tree arms) = Once tree × AreOnce arms

mutual
  single_of : (c : Context) (tree : Tree) → Fits c tree → Once tree → Single c tree
  single_of c Missing h o = absurd h
  single_of c (Leaf r b arms) h o = (h.0, o.0, singles_of c arms h.1 o.1)
  single_of c (Then r first second target) h o = (single_of c first h.0 o.0, single_of c second h.1 o.1)
  single_of c (Loop r body head) h o = single_of c body h o
  single_of c (Dispatch r arms) h o = singles_of c arms h o

  singles_of : (c : Context) (arms : Arms) → FitsArms c arms → AreOnce arms → AreSingle c arms
  singles_of c No_arm h o = tt
  singles_of c (Arm target tree arms) h o = (single_of c tree h.0 o.0, singles_of c arms h.1 o.1)

-- a key of arms has a place
key_at : (part : ℕ → Tree) (xs : List (ℕ × ℕ)) (k : ℕ) → has k (arm_keys (arms_of part xs)) ≡ true → (i : ℕ) × (x : ℕ × ℕ) × (slice_get xs i ≡ Some x) × (x.0 ≡ k)
key_at part [] k e = absurd (true_false (sym e))
key_at part (x ∷ xs) k e = by_test (nat_eq k x.0) refl e (key_at part xs k)
  where
    by_test : (b : Bool) → nat_eq k x.0 ≡ b → (b || has k (arm_keys (arms_of part xs))) ≡ true → (has k (arm_keys (arms_of part xs)) ≡ true → (i : ℕ) × (y : ℕ × ℕ) × (slice_get xs i ≡ Some y) × (y.0 ≡ k)) → (i : ℕ) × (y : ℕ × ℕ) × (slice_get (x ∷ xs) i ≡ Some y) × (y.0 ≡ k)
    by_test true same e rest = (0, x, refl, sym (nat_eq-eq k x.0 same))
    by_test false same e rest =
        let r = rest e in
        (suc r.0, r.1, r.2, r.3)

keys_once : (part : ℕ → Tree) (xs : List (ℕ × ℕ)) → ((i j : ℕ) (x y : ℕ × ℕ) → slice_get xs i ≡ Some x → slice_get xs j ≡ Some y → y.0 ≡ x.0 → j ≡ i) → IsOnce (arm_keys (arms_of part xs))
keys_once part [] h = tt
keys_once part (x ∷ xs) h =
    (by_test (has x.0 (arm_keys (arms_of part xs))) refl, keys_once part xs (λ i j y z ey ez same. (let is = h (suc i) (suc j) y z ey ez same in omega (arith, is))))
  where
    by_test : (b : Bool) → has x.0 (arm_keys (arms_of part xs)) ≡ b → has x.0 (arm_keys (arms_of part xs)) ≡ false
    by_test false e = e
    by_test true e =
        let r = key_at part xs x.0 e in
        let is = h 0 (suc r.0) x r.1 refl r.2 r.3 in
        absurd (omega (arith, is))

module _ (p : Program) (list : List Region) (plan : Plan) (w : Wired p list) where
  abbrev PartsOnce : (ℕ → Tree) → Region → Type 0
  PartsOnce part x = (i s : ℕ) → slice_get (parts x) i ≡ Some s → Once (part s)

  arms_once : (part : ℕ → Tree) (xs : List (ℕ × ℕ)) → ((i s : ℕ) → slice_get (map (λ arm. arm.1) xs) i ≡ Some s → Once (part s)) → AreOnce (arms_of part xs)
  arms_once part [] h = tt
  arms_once part (x ∷ xs) h = (h 0 x.1 refl, arms_once part xs (λ i s e. h (suc i) s e))

  entered_once : (part : ℕ → Tree) (xs : List ℕ) → ((i s : ℕ) → slice_get xs i ≡ Some s → Once (part s)) → AreOnce (entered_arms part xs)
  entered_once part [] h = tt
  entered_once part (a ∷ xs) h = (h 0 a refl, entered_once part xs (λ i s e. h (suc i) s e))

  node_once : (n r : ℕ) (x : Region) → r < suc n → slice_get list r ≡ Some x → PartsOnce (tree_from n list) x → Once (node (tree_from n list) r (Some x))
  node_once n r (region.Leaf k) low e rest = (tt, tt)
  node_once n r (region.Then first second target) low e rest = (rest 0 first refl, rest 1 second refl)
  node_once n r (region.Loop body head) low e rest = rest 0 body refl
  node_once n r (region.Dispatch xs) low e rest = entered_once (tree_from n list) xs rest
  node_once n r (region.Arms first xs) low e rest =
      let part = tree_from n list in
      let source = w.source r first xs e in
      let less = w.later r 0 first (record { region = region.Arms first xs; stands = e; part = refl }) in
      let one = single_leaf p list w n first source.0 (omega (arith, low, less)) source.1 in
      subst (λ t. Once (with_arms t (arms_of part xs))) (sym one) (keys_once part xs (λ i j x y ex ey same. apart p list plan w r first xs e i j x y ex ey same), arms_once part xs (λ i s at. rest (suc i) s at))

  tree_once : (n r : ℕ) (x : Region) → r < n → slice_get list r ≡ Some x → Once (tree_from n list r)
  tree_once zero r x low e = absurd (omega (arith, low))
  tree_once (suc n) r x low e =
      subst (λ o. Once (node (tree_from n list) r o)) (sym e) (node_once n r x low e (λ i s at. (let there = part_there p list w r i s x e at in tree_once n s there.1.0 (omega (arith, there.0, low)) there.1.1)))

  pub root_single : Single (context_of p plan) (root_of list)
  root_single =
      let last = w.last in
      let x = get_some list (length list - 1) (omega (arith, last)) in
      single_of (context_of p plan) (root_of list) (root_fits p list plan w) (tree_once (suc (length list - 1)) (length list - 1) x.0 (omega arith) x.1)
