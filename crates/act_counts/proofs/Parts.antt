-- A sum over distinct numbers that a list has is at most the sum over the list.
use Rattle.std.proofs.Common.{◌≡◌, ℕ, zero, suc, ◌+◌, ◌<◌, ◌≤◌, Bool, true, false, List, [], ◌∷◌, length, Some, refl, sym, ap, ◌∙◌, arith}
use Rattle.std.proofs.lemmas.List.Sums.{sum_by-cons}
use Rattle.std.specs.Prelude.{nat_eq, if◌then◌else◌, slice_get, slice_index_or}
use Rattle.std.specs.List.{sum_by}
use Rattle.frame_facts.proofs.Searches.{eq_told, eq_same, inj}

-- a list without the first that is b
abbrev without : ℕ → List ℕ → List ℕ
without b [] = []
without b (x ∷ xs) = if nat_eq x b then xs else x ∷ without b xs

not_same : (x b : ℕ) → nat_eq x b ≡ false → x ≡ b → ⊥
not_same x b e same =
    let yes_it : nat_eq x b ≡ true = ap (λ n. nat_eq n b) same ∙ eq_same b in
    (let clash : true ≡ false = sym yes_it ∙ e in cc)

sum_without : (f : ℕ → ℕ) (b : ℕ) (xs : List ℕ) (k : ℕ) → slice_get xs k ≡ Some b → sum_by f xs ≡ f b + sum_by f (without b xs)
sum_without f b [] k e = absurd (cc)
sum_without f b (x ∷ xs) k e = by_test (nat_eq x b) refl k e (λ k e. sum_without f b xs k e)
  where
    by_test : (t : Bool) → nat_eq x b ≡ t → (k : ℕ) → slice_get (x ∷ xs) k ≡ Some b → ((k : ℕ) → slice_get xs k ≡ Some b → sum_by f xs ≡ f b + sum_by f (without b xs)) → sum_by f (x ∷ xs) ≡ f b + sum_by f (if t then xs else x ∷ without b xs)
    by_test true same k e later =
        let one = sum_by-cons f x xs in
        let is = ap f (eq_told x b same) in
        omega (arith, one, is)
    by_test false same zero e later = absurd (not_same x b same (inj e))
    by_test false same (suc k) e later =
        let one = sum_by-cons f x xs in
        let two = sum_by-cons f x (without b xs) in
        let rest = later k e in
        omega (arith, one, two, rest)

left : (b q : ℕ) (xs : List ℕ) (k : ℕ) → slice_get xs k ≡ Some q → (b ≡ q → ⊥) → (j : ℕ) × (slice_get (without b xs) j ≡ Some q)
left b q [] k e other = absurd (cc)
left b q (x ∷ xs) k e other = by_test (nat_eq x b) refl k e (λ k e. left b q xs k e other)
  where
    by_test : (t : Bool) → nat_eq x b ≡ t → (k : ℕ) → slice_get (x ∷ xs) k ≡ Some q → ((k : ℕ) → slice_get xs k ≡ Some q → (j : ℕ) × (slice_get (without b xs) j ≡ Some q)) → (j : ℕ) × (slice_get (if t then xs else x ∷ without b xs) j ≡ Some q)
    by_test true same zero e later = absurd (other (sym (eq_told x b same) ∙ inj e))
    by_test true same (suc k) e later = (k, e)
    by_test false same zero e later = (0, e)
    by_test false same (suc k) e later = let there = later k e in (suc there.0, there.1)

pub sum_part : (f : ℕ → ℕ) (xs ys : List ℕ) → ((j k b : ℕ) → slice_get xs j ≡ Some b → slice_get xs k ≡ Some b → j ≡ k) → ((k b : ℕ) → slice_get xs k ≡ Some b → (j : ℕ) × (slice_get ys j ≡ Some b)) → sum_by f xs ≤ sum_by f ys
sum_part f [] ys once h = omega arith
sum_part f (x ∷ xs) ys once h =
    let there = h 0 x refl in
    let one = sum_by-cons f x xs in
    let parts = sum_without f x ys there.0 there.1 in
    let rest = sum_part f xs (without x ys) later left_there in
    omega (arith, one, parts, rest)
  where
    later : (j k b : ℕ) → slice_get xs j ≡ Some b → slice_get xs k ≡ Some b → j ≡ k
    later j k b ej ek =
        let same = once (suc j) (suc k) b ej ek in
        omega (arith, same)

    apart : (k b : ℕ) → slice_get xs k ≡ Some b → x ≡ b → ⊥
    apart k b e same =
        let first = once 0 (suc k) b (ap Some same) e in
        omega (arith, first)

    left_there : (k b : ℕ) → slice_get xs k ≡ Some b → (j : ℕ) × (slice_get (without x ys) j ≡ Some b)
    left_there k b e = let there = h (suc k) b e in left x b ys there.0 there.1 (apart k b e)

pub contains_at : (xs : List ℕ) (b k : ℕ) → k < length xs → slice_index_or xs k b ≡ b → slice_get xs k ≡ Some b
contains_at [] b k low e = absurd (omega (arith, low))
contains_at (x ∷ xs) b zero low e = ap Some e
contains_at (x ∷ xs) b (suc k) low e =
    let rest : k < length xs = omega (arith, low) in
    contains_at xs b k rest e
