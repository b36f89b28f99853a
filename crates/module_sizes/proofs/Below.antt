-- The numbers below another one, each once, and lists that are put together of lists without a member twice.
use Rattle.std.proofs.Common.{◌≡◌, ℕ, zero, suc, ◌+◌, ◌*◌, ◌<◌, ◌≤◌, List, [], ◌∷◌, ◌++◌, length, Some, refl, sym, ap, ◌∙◌, subst, arith, inl, inr, ⊎_elim}
use Rattle.std.specs.Prelude.{◌⊎◌, slice_get, nat_eq, if◌then◌else◌, Bool, true, false}
use Rattle.std.specs.List.{flat_map}
use Rattle.line_runs.proofs.Tests.{nat_eq-eq}
use Rattle.plan_ready.proofs.Among.{Among}
use Rattle.chosen_plan.proofs.Members.{among_either, among_get, flat_among}
use Rattle.module_sizes.proofs.Totals.{total, total_within, total_same, total_places, times, times_is, places, among_places, Apart}
use Rattle.module_sizes.proofs.Apart.{numbers_tell}

unfoldable pub below : ℕ → List ℕ
below zero = []
below (suc n) = n ∷ below n

pub below_length : (n : ℕ) → length (below n) ≡ n
unfolding below
below_length zero = refl
below_length (suc n) = ap suc (below_length n)

pub below_next : (f : ℕ → ℕ) (n : ℕ) → total f (below (suc n)) ≡ f n + total f (below n)
unfolding below
below_next f n = refl

pub below_low : (n x : ℕ) → Among x (below n) → x < n
unfolding below
below_low zero x h = absurd h
below_low (suc n) x (inl e) = omega (arith, e)
below_low (suc n) x (inr h) = let low = below_low n x h in omega (arith, low)

pub among_below : (n x : ℕ) → x < n → Among x (below n)
unfolding below
among_below zero x h = absurd (omega (arith, h))
among_below (suc n) x h = ⊎_elim (λ e. inl e) (λ low. inr (among_below n x low)) (last_or x n h)
  where
    last_or : (x n : ℕ) → x < suc n → (x ≡ n) ⊎ (x < n)
    last_or x n h = grind arith

pub below_apart : (n : ℕ) → Apart (below n)
unfolding below
below_apart zero = tt
below_apart (suc n) = (λ h. (let low = below_low n n h in omega (arith, low)), below_apart n)

-- the same for each
pub below_same : (k n : ℕ) → total (λ x. k) (below n) ≡ n * k
below_same k n = total_same k (below n) ∙ ap (λ l. times l k) (below_length n) ∙ times_is n k

-- by the members of a list
pub below_places : {A : Type 0} (f : ℕ → ℕ) (g : A → ℕ) (xs : List A) → ((j : ℕ) (x : A) → slice_get xs j ≡ Some x → f j ≤ g x) → total f (below (length xs)) ≤ total g xs
below_places {A = A} f g xs h =
    let within = total_within nat_eq numbers_tell (places 0 xs) (below (length xs)) f (below_apart (length xs)) there in
    let all = total_places f g 0 xs at in
    omega (arith, within, all)
  where
    zero_in : (j : ℕ) → 0 + j ≡ j
    zero_in j = omega arith

    there : (x : ℕ) → Among x (below (length xs)) → (f x ≡ 0) ⊎ Among x (places 0 xs)
    there x among =
        inr (subst (λ n. Among n (places 0 xs)) (zero_in x) (among_places 0 x xs (below_low (length xs) x among)))

    at : (j : ℕ) (x : A) → slice_get xs j ≡ Some x → f (0 + j) ≤ g x
    at j x e = subst (λ n. f n ≤ g x) (sym (zero_in j)) (h j x e)

-- what is at one number
abbrev pub only : ℕ → ℕ → ℕ → ℕ
only u k b = if nat_eq u b then k else 0

pub below_only : (u k n : ℕ) → total (only u k) (below n) ≤ k
below_only u k n =
    let within = total_within nat_eq numbers_tell (u ∷ []) (below n) (only u k) (below_apart n) (λ x among. there x (nat_eq u x) refl) in
    let most = few (nat_eq u u) in
    omega (arith, within, most)
  where
    few : (b : Bool) → (if b then k else 0) + 0 ≤ k
    few true = omega arith
    few false = omega arith

    there : (x : ℕ) (b : Bool) → nat_eq u x ≡ b → ((if b then k else 0) ≡ 0) ⊎ Among x (u ∷ [])
    there x true e = inr (inl (sym (nat_eq-eq u x e)))
    there x false e = inl refl

-- ---- lists of lists

pub apart_by : {A : Type 0} (xs : List A) → ((i j : ℕ) (x : A) → slice_get xs i ≡ Some x → slice_get xs j ≡ Some x → i ≡ j) → Apart xs
apart_by [] h = tt
apart_by (x ∷ xs) h =
    (λ among. (let at = among_get x xs among in let clash = h 0 (suc at.0) x refl at.1 in omega (arith, clash)), apart_by xs (λ i j y e f. (let same = h (suc i) (suc j) y e f in omega (arith, same))))

apart_append : {A : Type 0} (xs ys : List A) → Apart xs → Apart ys → ((x : A) → Among x xs → Among x ys → ⊥) → Apart (xs ++ ys)
apart_append [] ys one two none = two
apart_append (x ∷ xs) ys one two none =
    (λ h. ⊎_elim (λ early. one.0 early) (λ late. none x (inl refl) late) (among_either x xs ys h), apart_append xs ys one.1 two (λ y h k. none y (inr h) k))

pub flat_apart : {A B : Type 0} (g : A → List B) (xs : List A) → ((i : ℕ) (x : A) → slice_get xs i ≡ Some x → Apart (g x)) → ((i j : ℕ) (x y : A) (z : B) → slice_get xs i ≡ Some x → slice_get xs j ≡ Some y → Among z (g x) → Among z (g y) → i ≡ j) → Apart (flat_map g xs)
flat_apart {B = B} g [] each apart = tt
flat_apart {B = B} g (x ∷ xs) each apart =
    apart_append (g x) (flat_map g xs) (each 0 x refl) (flat_apart g xs (λ i y e. each (suc i) y e) (λ i j y z w e f h k. (let same = apart (suc i) (suc j) y z w e f h k in omega (arith, same)))) clash
  where
    clash : (z : B) → Among z (g x) → Among z (flat_map g xs) → ⊥
    clash z here there =
        let m = flat_among g xs z there in
        let at = among_get m.x xs m.among in
        let same = apart 0 (suc at.0) x m.x z refl at.1 here m.made in
        omega (arith, same)
