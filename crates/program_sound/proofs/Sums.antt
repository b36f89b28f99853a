-- Sums over lists, and over the elements by a number of each.
use Rattle.std.proofs.Common.{ℕ, zero, suc, ◌≡◌, ◌+◌, ◌<◌, ◌≤◌, inl, inr, refl, ap, arith, Bool, true, false, cond, ◌==◌, List, [], ◌∷◌, length, slice_get, Option, Some, None, is_some, filter, filter_map, sum_by}
use Rattle.std.specs.List.{range_with_len, cons_option}
use Rattle.std.proofs.lemmas.Bool.{cases_eq, eq-eqb, ne_eqb}
use Rattle.std.proofs.lemmas.Option.{same_Some}
use Rattle.std.proofs.lemmas.List.Sums.{sum_by-cons}

pub item_le_sum : {X : Type 0} (f : X → ℕ) (xs : List X) (i : ℕ) (y : X) → slice_get xs i ≡ Some y → f y ≤ sum_by f xs
item_le_sum f [] i y e = cc
item_le_sum f (x ∷ xs) zero y e = omega (arith, sum_by-cons f x xs, ap f (same_Some x y e))
item_le_sum f (x ∷ xs) (suc i) y e = omega (arith, sum_by-cons f x xs, item_le_sum f xs i y e)

sum_zero : (a n : ℕ) → sum_by (λ k. 0) (range_with_len a n) ≡ 0
sum_zero a zero = refl
sum_zero a (suc n) = omega (arith, sum_by-cons (λ (k : ℕ). 0) a (range_with_len (a + 1) n), sum_zero (a + 1) n)

sum_both : (f g h : ℕ → ℕ) → ((k : ℕ) → h k ≡ f k + g k) → (ks : List ℕ) → sum_by h ks ≡ sum_by f ks + sum_by g ks
sum_both f g h e [] = refl
sum_both f g h e (k ∷ ks) = omega (arith, sum_by-cons f k ks, sum_by-cons g k ks, sum_by-cons h k ks, e k, sum_both f g h e ks)

-- what has a number counts at that number alone
at_number : ℕ → ℕ → ℕ → ℕ
at_number m v k = cond (m == k) v 0

past_number : (m v a n : ℕ) → m < a → sum_by (at_number m v) (range_with_len a n) ≡ 0
unfolding at_number
past_number m v a zero l = refl
past_number m v a (suc n) l =
    let z : cond (m == a) v 0 ≡ 0 = ap (λ b. cond b v 0) (ne_eqb m a (λ e. omega (arith, e))) in
    omega (arith, sum_by-cons (at_number m v) a (range_with_len (a + 1) n), z, past_number m v (a + 1) n (omega arith))

once_number : (m v a n : ℕ) → sum_by (at_number m v) (range_with_len a n) ≤ v
unfolding at_number
once_number m v a zero = omega arith
once_number m v a (suc n) = elim (cases_eq m a) [
  | inl e ↦
      let o : cond (m == a) v 0 ≡ v = ap (λ b. cond b v 0) (eq-eqb m a e) in
      omega (arith, sum_by-cons (at_number m v) a (range_with_len (a + 1) n), o, past_number m v (a + 1) n (omega (arith, e)))
  | inr d ↦
      let z : cond (m == a) v 0 ≡ 0 = ap (λ b. cond b v 0) (ne_eqb m a d) in
      omega (arith, sum_by-cons (at_number m v) a (range_with_len (a + 1) n), z, once_number m v (a + 1) n)
]

-- the sum over all numbers of what has them is within the whole sum
module _ {X : Type 0} (key : X → ℕ) (f : X → ℕ) where
  abbrev pub keyed : ℕ → X → ℕ
  keyed k x = cond (key x == k) (f x) 0

  pub spread : (a n : ℕ) (xs : List X) → sum_by (λ k. sum_by (keyed k) xs) (range_with_len a n) ≤ sum_by f xs
  unfolding at_number
  spread a n [] = omega (arith, sum_zero a n)
  spread a n (x ∷ xs) =
      let r = spread a n xs in
      let s = sum_both (at_number (key x) (f x)) (λ k. sum_by (keyed k) xs) (λ k. sum_by (keyed k) (x ∷ xs)) (λ k. sum_by-cons (keyed k) x xs) (range_with_len a n) in
      omega (arith, r, s, once_number (key x) (f x) a n, sum_by-cons f x xs)

cons_length : {Y : Type 0} (o : Option Y) (ys : List Y) → length (cons_option o ys) ≡ cond (is_some o) 1 0 + length ys
cons_length None ys = omega arith
cons_length (Some y) ys = omega arith

-- how many items of a filtered list give something
pub kept_length : {X Y : Type 0} (h : X → Option Y) (p : X → Bool) (xs : List X) → length (filter_map h (filter p xs)) ≡ sum_by (λ l. cond (p l) (cond (is_some (h l)) 1 0) 0) xs
kept_length h p [] = refl
kept_length h p (x ∷ xs) = go (p x) refl (kept_length h p xs) where
  go : (b : Bool) → p x ≡ b → length (filter_map h (filter p xs)) ≡ sum_by (λ l. cond (p l) (cond (is_some (h l)) 1 0) 0) xs
      → length (filter_map h (cond b (x ∷ filter p xs) (filter p xs))) ≡ sum_by (λ l. cond (p l) (cond (is_some (h l)) 1 0) 0) (x ∷ xs)
  go true e r =
      let w : ◌≡◌ {A = ℕ} (cond (p x) (cond (is_some (h x)) 1 0) 0) (cond (is_some (h x)) 1 0) = ap (λ b. cond b (cond (is_some (h x)) 1 0) 0) e in
      omega (arith, r, w, cons_length (h x) (filter_map h (filter p xs)), sum_by-cons (λ l. cond (p l) (cond (is_some (h l)) 1 0) 0) x xs)
  go false e r =
      let w : ◌≡◌ {A = ℕ} (cond (p x) (cond (is_some (h x)) 1 0) 0) 0 = ap (λ b. cond b (cond (is_some (h x)) 1 0) 0) e in
      omega (arith, r, w, sum_by-cons (λ l. cond (p l) (cond (is_some (h l)) 1 0) 0) x xs)
