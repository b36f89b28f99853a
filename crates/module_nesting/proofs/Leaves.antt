-- The leaves of a list of regions.
use Rattle.std.proofs.Common.{◌≡◌, ℕ, zero, suc, ◌≤◌, Bool, true, false, eqb, List, [], ◌∷◌, length, Some, refl, sym, ap, ◌∙◌, arith}
use Rattle.std.specs.Prelude.{slice_get, ◌||◌}
use Rattle.std.specs.List.{list_any, AllByRecursion, IsDistinct}
use Rattle.std.proofs.lemmas.Map.Made.{length-le_from_is_member}
use Rattle.std.specs.Cmp.{nat_eq_equiv}
use Rattle.dxil_form.specs.declared.region.Region.{Region}
use Rattle.dxil_form.specs.declared.region.Region.TheVariants as region

true_false : true ≡ false → ⊥
true_false e = cc

same_eqb : (n : ℕ) → eqb n n ≡ true
same_eqb n = grind arith

eqb_same : (n m : ℕ) → eqb n m ≡ true → n ≡ m
eqb_same n m e = grind arith

-- the blocks of the leaves, in the order of the list
abbrev pub blocks_in : List Region → List ℕ
blocks_in [] = []
blocks_in (region.Leaf b ∷ xs) = b ∷ blocks_in xs
blocks_in (region.Then first second target ∷ xs) = blocks_in xs
blocks_in (region.Loop body head ∷ xs) = blocks_in xs
blocks_in (region.Dispatch arms ∷ xs) = blocks_in xs
blocks_in (region.Arms first arms ∷ xs) = blocks_in xs

-- a block of these is that of a leaf
pub found : (xs : List Region) (b : ℕ) → list_any (eqb b) (blocks_in xs) ≡ true → (r : ℕ) × (slice_get xs r ≡ Some (region.Leaf b))
found [] b e = absurd (true_false (sym e))
found (region.Leaf k ∷ xs) b e = by_test (eqb b k) refl e (found xs b)
  where
    by_test : (t : Bool) → eqb b k ≡ t → (t || list_any (eqb b) (blocks_in xs)) ≡ true → (list_any (eqb b) (blocks_in xs) ≡ true → (r : ℕ) × (slice_get xs r ≡ Some (region.Leaf b))) → (r : ℕ) × (slice_get (region.Leaf k ∷ xs) r ≡ Some (region.Leaf b))
    by_test true same e rest = (0, ap (λ n. Some (region.Leaf n)) (sym (eqb_same b k same)))
    by_test false same e rest =
        let r = rest e in
        (suc r.0, r.1)
found (region.Then first second target ∷ xs) b e =
    let r = found xs b e in
    (suc r.0, r.1)
found (region.Loop body head ∷ xs) b e =
    let r = found xs b e in
    (suc r.0, r.1)
found (region.Dispatch arms ∷ xs) b e =
    let r = found xs b e in
    (suc r.0, r.1)
found (region.Arms first arms ∷ xs) b e =
    let r = found xs b e in
    (suc r.0, r.1)

-- the block of a leaf is one of these
pub listed : (xs : List Region) (r b : ℕ) → slice_get xs r ≡ Some (region.Leaf b) → list_any (eqb b) (blocks_in xs) ≡ true
listed [] r b e = absurd (cc)
listed (region.Leaf k ∷ xs) zero b e =
    ap (λ n. eqb b n || list_any (eqb b) (blocks_in xs)) (leaf_of e) ∙ ap (λ t. t || list_any (eqb b) (blocks_in xs)) (same_eqb b)
  where
    leaf_of : {m n : ℕ} → Some (region.Leaf m) ≡ Some (region.Leaf n) → m ≡ n
    leaf_of e = cc
listed (region.Leaf k ∷ xs) (suc r) b e = more (eqb b k) (listed xs r b e)
  where
    more : (t : Bool) → list_any (eqb b) (blocks_in xs) ≡ true → (t || list_any (eqb b) (blocks_in xs)) ≡ true
    more true h = refl
    more false h = h
listed (region.Then first second target ∷ xs) zero b e = absurd (cc)
listed (region.Then first second target ∷ xs) (suc r) b e = listed xs r b e
listed (region.Loop body head ∷ xs) zero b e = absurd (cc)
listed (region.Loop body head ∷ xs) (suc r) b e = listed xs r b e
listed (region.Dispatch arms ∷ xs) zero b e = absurd (cc)
listed (region.Dispatch arms ∷ xs) (suc r) b e = listed xs r b e
listed (region.Arms first arms ∷ xs) zero b e = absurd (cc)
listed (region.Arms first arms ∷ xs) (suc r) b e = listed xs r b e

-- where no two leaves have one block, no block stands twice
abbrev pub LeafOnce : List Region → Type 0
LeafOnce xs = (r s b : ℕ) → slice_get xs r ≡ Some (region.Leaf b) → slice_get xs s ≡ Some (region.Leaf b) → r ≡ s

once_more : (x : Region) (xs : List Region) → LeafOnce (x ∷ xs) → LeafOnce xs
once_more x xs h r s b e f =
    let same = h (suc r) (suc s) b e f in
    omega (arith, same)

pub apart : (k : ℕ) (bs : List ℕ) → (list_any (eqb k) bs ≡ true → ⊥) → AllByRecursion (λ m. eqb k m ≡ false) bs
apart k [] h = tt
apart k (b ∷ bs) h = (by_test (eqb k b) refl, apart k bs (λ e. h (more (eqb k b) e)))
  where
    more : (t : Bool) → list_any (eqb k) bs ≡ true → (t || list_any (eqb k) bs) ≡ true
    more true e = refl
    more false e = e

    by_test : (t : Bool) → eqb k b ≡ t → eqb k b ≡ false
    by_test true e = absurd (h (ap (λ t. t || list_any (eqb k) bs) e))
    by_test false e = e

pub distinct : (xs : List Region) → LeafOnce xs → IsDistinct eqb (blocks_in xs)
unfolding IsDistinct
distinct [] h = tt
distinct (region.Leaf k ∷ xs) h =
    (apart k (blocks_in xs) (λ e. (let r = found xs k e in let same = h 0 (suc r.0) k refl r.1 in omega (arith, same))), distinct xs (once_more (region.Leaf k) xs h))
distinct (region.Then first second target ∷ xs) h = distinct xs (once_more (region.Then first second target) xs h)
distinct (region.Loop body head ∷ xs) h = distinct xs (once_more (region.Loop body head) xs h)
distinct (region.Dispatch arms ∷ xs) h = distinct xs (once_more (region.Dispatch arms) xs h)
distinct (region.Arms first arms ∷ xs) h = distinct xs (once_more (region.Arms first arms) xs h)

-- no more leaves than a list has numbers that has each of their blocks
pub few : (xs : List Region) (blocks : List ℕ) → LeafOnce xs → ((b : ℕ) → list_any (eqb b) (blocks_in xs) ≡ true → list_any (eqb b) blocks ≡ true) → length (blocks_in xs) ≤ length blocks
few xs blocks once all = length-le_from_is_member nat_eq_equiv (blocks_in xs) blocks (distinct xs once) all
