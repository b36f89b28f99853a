-- The reachable blocks of a program with wired regions, by rising number.
use Rattle.std.proofs.Common.{◌≡◌, inl, inr, ℕ, zero, suc, ◌+◌, ◌<◌, ◌≤◌, Bool, true, false, eqb, List, [], ◌∷◌, length, refl, sym, ap, ◌∙◌, subst, arith}
use Rattle.std.proofs.lemmas.Bool.{cases_order}
use Rattle.std.specs.Prelude.{slice_index, Contains, ◌||◌, if◌then◌else◌}
use Rattle.std.specs.List.{list_any}
use Rattle.dxil_form.specs.declared.program.Program.{Program}
use Rattle.dxil_form.specs.declared.region.Region.{Region}
use Rattle.dxil_form.specs.Wired.{Wired}
use Rattle.region_leaves.specs.Leaves.{AreReachable}
use Rattle.row_laws.proofs.Basics.{none, in_cons, first_in, next_in}
use Rattle.module_nesting.proofs.Leaves.{blocks_in, found, listed, few}

true_false : true ≡ false → ⊥
true_false e = cc

eqb_same : (n m : ℕ) → eqb n m ≡ true → n ≡ m
eqb_same n m e = grind arith

same_eqb : (n : ℕ) → eqb n n ≡ true
same_eqb n = grind arith

-- ---- members

any_contains : (xs : List ℕ) (b : ℕ) → list_any (eqb b) xs ≡ true → Contains xs b
any_contains [] b e = absurd (true_false (sym e))
any_contains (x ∷ xs) b e = by_test (eqb b x) refl e (any_contains xs b)
  where
    by_test : (t : Bool) → eqb b x ≡ t → (t || list_any (eqb b) xs) ≡ true → (list_any (eqb b) xs ≡ true → Contains xs b) → Contains (x ∷ xs) b
    by_test true same e rest = subst (Contains (x ∷ xs)) (sym (eqb_same b x same)) (first_in x xs)
    by_test false same e rest = next_in x b xs (rest e)

any_more : (x b : ℕ) (xs : List ℕ) → list_any (eqb b) xs ≡ true → list_any (eqb b) (x ∷ xs) ≡ true
any_more x b xs e = by_test (eqb b x)
  where
    by_test : (t : Bool) → (t || list_any (eqb b) xs) ≡ true
    by_test true = refl
    by_test false = e

-- no member is above the sum of all
abbrev most : List ℕ → ℕ
most [] = 0
most (x ∷ xs) = x + most xs

below_most : (xs : List ℕ) (b : ℕ) → list_any (eqb b) xs ≡ true → b ≤ most xs
below_most [] b e = absurd (true_false (sym e))
below_most (x ∷ xs) b e = by_test (eqb b x) refl e (below_most xs b)
  where
    by_test : (t : Bool) → eqb b x ≡ t → (t || list_any (eqb b) xs) ≡ true → (list_any (eqb b) xs ≡ true → b ≤ most xs) → b ≤ x + most xs
    by_test true same e rest =
        let is = eqb_same b x same in
        omega (arith, is)
    by_test false same e rest =
        let le = rest e in
        omega (arith, le)

-- ---- the numbers from k on, n of them, that pass

module _ (test : ℕ → Bool) where
  abbrev those : (k n : ℕ) → List ℕ
  those k zero = []
  those k (suc n) = if test k then k ∷ those (suc k) n else those (suc k) n

  from : (k n i : ℕ) → i < length (those k n) → k ≤ slice_index (those k n) i
  from k zero i low = absurd (omega (arith, low))
  from k (suc n) i low = by_test (test k) i low (λ j l. from (suc k) n j l)
    where
      by_test : (t : Bool) (i : ℕ) → i < length (if t then k ∷ those (suc k) n else those (suc k) n) → ((j : ℕ) → j < length (those (suc k) n) → suc k ≤ slice_index (those (suc k) n) j) → k ≤ slice_index (if t then k ∷ those (suc k) n else those (suc k) n) i
      by_test true zero low rest = omega arith
      by_test true (suc i) low rest =
          let h = rest i (omega (arith, low)) in
          omega (arith, h)
      by_test false i low rest =
          let h = rest i low in
          omega (arith, h)

  rise : (k n i j : ℕ) → i < j → j < length (those k n) → slice_index (those k n) i < slice_index (those k n) j
  rise k zero i j less low = absurd (omega (arith, low))
  rise k (suc n) i j less low = by_test (test k) i j less low (λ a b l m. rise (suc k) n a b l m)
    where
      by_test : (t : Bool) (i j : ℕ) → i < j → j < length (if t then k ∷ those (suc k) n else those (suc k) n) → ((a b : ℕ) → a < b → b < length (those (suc k) n) → slice_index (those (suc k) n) a < slice_index (those (suc k) n) b) → slice_index (if t then k ∷ those (suc k) n else those (suc k) n) i < slice_index (if t then k ∷ those (suc k) n else those (suc k) n) j
      by_test true zero zero less low rest = absurd (omega (arith, less))
      by_test true zero (suc j) less low rest =
          let h = from (suc k) n j (omega (arith, low)) in
          omega (arith, h)
      by_test true (suc i) zero less low rest = absurd (omega (arith, less))
      by_test true (suc i) (suc j) less low rest = rest i j (omega (arith, less)) (omega (arith, low))
      by_test false i j less low rest = rest i j less low

  holds : (k n b : ℕ) → k ≤ b → b < k + n → test b ≡ true → list_any (eqb b) (those k n) ≡ true
  holds k zero b ge lt e = absurd (omega (arith, ge, lt))
  holds k (suc n) b ge lt e = elim (cases_order b k) [
    | inl same ↦ ap (λ t. list_any (eqb b) (if t then k ∷ those (suc k) n else those (suc k) n)) (ap test (sym same) ∙ e) ∙ ap (λ t. t || list_any (eqb b) (those (suc k) n)) (ap (eqb b) (sym same) ∙ same_eqb b)
    | inr o ↦ elim o [
      | inl less ↦ absurd (omega (arith, less, ge))
      | inr more ↦ behind (test k) (holds (suc k) n b (omega (arith, more)) (omega (arith, lt)) e)
    ]
  ]
    where
      behind : (t : Bool) → list_any (eqb b) (those (suc k) n) ≡ true → list_any (eqb b) (if t then k ∷ those (suc k) n else those (suc k) n) ≡ true
      behind true h = any_more k b (those (suc k) n) h
      behind false h = h

  passes : (k n b : ℕ) → Contains (those k n) b → test b ≡ true
  passes k zero b h = absurd (none b h)
  passes k (suc n) b h = by_test (test k) refl h (passes (suc k) n b)
    where
      by_test : (t : Bool) → test k ≡ t → Contains (if t then k ∷ those (suc k) n else those (suc k) n) b → (Contains (those (suc k) n) b → test b ≡ true) → test b ≡ true
      by_test true is h rest = elim (in_cons b k (those (suc k) n) h) [ inl same ↦ ap test same ∙ is | inr i ↦ rest i ]
      by_test false is h rest = rest h

-- ---- the blocks of a program

module _ (p : Program) (list : List Region) (w : Wired p list) where
  abbrev is_leaf : ℕ → Bool
  is_leaf b = list_any (eqb b) (blocks_in list)

  abbrev pub blocks : List ℕ
  blocks = those is_leaf 0 (suc (most (blocks_in list)))

  in_blocks : (b : ℕ) → is_leaf b ≡ true → list_any (eqb b) blocks ≡ true
  in_blocks b e =
      let low = below_most (blocks_in list) b e in
      holds is_leaf 0 (suc (most (blocks_in list))) b (omega arith) (omega (arith, low)) e

  pub are_reachable : AreReachable p blocks
  are_reachable =
      record {
        rising = λ i j less low. rise is_leaf 0 (suc (most (blocks_in list))) i j less low;
        all = λ b reached. (let r = w.leaf b reached in any_contains blocks b (in_blocks b (listed list r.0 b r.1)));
        only = λ b h. (let r = found list b (passes is_leaf 0 (suc (most (blocks_in list))) b h) in w.reached r.0 b r.1);
      }

  pub leaves_few : length (blocks_in list) ≤ length blocks
  leaves_few = few list blocks (λ r s b e f. w.leaf_once r s b e f) in_blocks
