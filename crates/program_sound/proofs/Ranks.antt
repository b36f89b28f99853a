-- The numbers below a bound that pass a test, in a strict order: each has a rank, and each rank is that of one of them.
use Rattle.std.proofs.Common.{ℕ, zero, suc, ◌≡◌, ◌+◌, ◌-◌, ◌<◌, ◌≤◌, ◌⊎◌, inl, inr, refl, ap, ◌∙◌, arith, Bool, true, false, cond, ◌&&◌, ◌==◌, slice_get, Option, Some, None, find, count_by, ltb}
use Rattle.std.specs.List.{range_with_len}
use Rattle.std.proofs.lemmas.Bool.{both_ways, and_parts, and_from, and_right, cases_lt, cases_eq, eq-eqb, lt-ltb, le-ltb}
use Rattle.program_sound.proofs.Lists.{find_none, count_strict, count-yes, count-no, range_from}

-- the numbers without v, moved together
squeeze : ℕ → ℕ → ℕ
squeeze v y = cond (ltb y v) y (y - 1)

squeeze_low : (v y : ℕ) → y < v → squeeze v y ≡ y
unfolding squeeze
squeeze_low v y l = ap (λ b. cond b y (y - 1)) (lt-ltb y v l)

squeeze_high : (v y : ℕ) → v ≤ y → squeeze v y ≡ y - 1
unfolding squeeze
squeeze_high v y l = ap (λ b. cond b y (y - 1)) (le-ltb y v l)

squeeze_below : (v y m : ℕ) → (y ≡ v → ⊥) → v < m → y < m → squeeze v y < m - 1
squeeze_below v y m d l h = elim (cases_lt y v) [ inl b ↦ omega (arith, squeeze_low v y b) | inr b ↦ elim (cases_eq y v) [ inl e ↦ absurd (d e) | inr n ↦ omega (arith, squeeze_high v y b, n) ] ]

squeeze_apart : (v y z : ℕ) → (y ≡ v → ⊥) → (z ≡ v → ⊥) → squeeze v y ≡ squeeze v z → y ≡ z
squeeze_apart v y z d f e = elim (cases_lt y v) [
  | inl b ↦ elim (cases_lt z v) [
    | inl c ↦ omega (arith, e, squeeze_low v y b, squeeze_low v z c)
    | inr c ↦ elim (cases_eq z v) [ inl s ↦ absurd (f s) | inr n ↦ omega (arith, e, n, squeeze_low v y b, squeeze_high v z c) ]
  ]
  | inr b ↦ elim (cases_eq y v) [
    | inl s ↦ absurd (d s)
    | inr m ↦ elim (cases_lt z v) [
      | inl c ↦ omega (arith, e, m, squeeze_high v y b, squeeze_low v z c)
      | inr c ↦ elim (cases_eq z v) [ inl s ↦ absurd (f s) | inr n ↦ omega (arith, e, m, n, squeeze_high v y b, squeeze_high v z c) ]
    ]
  ]
]

-- the numbers from a on, of which there are n, that pass a test have different values below m
pub record IsApart (a n : ℕ) (named : ℕ → Bool) (f : ℕ → ℕ) (m : ℕ) : Type 0 where
  pub below : (y : ℕ) → a ≤ y → y < a + n → named y ≡ true → f y < m
  pub apart : (y z : ℕ) → a ≤ y → y < a + n → a ≤ z → z < a + n → named y ≡ true → named z ≡ true → f y ≡ f z → y ≡ z

pub count_apart_below : (a n : ℕ) (named : ℕ → Bool) (f : ℕ → ℕ) (m : ℕ) → IsApart a n named f m → count_by named (range_with_len a n) ≤ m
count_apart_below a zero named f m h = omega arith
count_apart_below a (suc n) named f m h = go (named a) refl (λ g k r. count_apart_below (a + 1) n named g k r) where
  go : (b : Bool) → named a ≡ b → ((g : ℕ → ℕ) (k : ℕ) → IsApart (a + 1) n named g k → count_by named (range_with_len (a + 1) n) ≤ k) → count_by named (range_with_len a (suc n)) ≤ m
  go false e r = omega (arith, count-no named a (range_with_len (a + 1) n) e, r f m (record { below = λ y l k t. h.below y (omega arith) (omega arith) t; apart = λ y z l k l' k' t u s. h.apart y z (omega arith) (omega arith) (omega arith) (omega arith) t u s }))
  go true e r =
      let v : f a < m = h.below a (omega arith) (omega arith) e in
      let other : (y : ℕ) → a + 1 ≤ y → y < a + 1 + n → named y ≡ true → f y ≡ f a → ⊥ = λ y l k t s. omega (arith, h.apart y a (omega arith) (omega arith) (omega arith) (omega arith) t e s) in
      let c = r (λ y. squeeze (f a) (f y)) (m - 1) (record {
        below = λ y l k t. squeeze_below (f a) (f y) m (other y l k t) v (h.below y (omega arith) (omega arith) t);
        apart = λ y z l k l' k' t u s. h.apart y z (omega arith) (omega arith) (omega arith) (omega arith) t u (squeeze_apart (f a) (f y) (f z) (other y l k t) (other z l' k' u) s);
      }) in
      omega (arith, c, count-yes named a (range_with_len (a + 1) n) e)

-- each value below the count is that of some number
pub onto : (n : ℕ) (named : ℕ → Bool) (f : ℕ → ℕ) → IsApart 0 n named f (count_by named (range_with_len 0 n)) → (k : ℕ) → k < count_by named (range_with_len 0 n) → (r : ℕ) × (find (λ s. named s && f s == k) (range_with_len 0 n) ≡ Some r)
onto n named f h k l = go (find (λ s. named s && f s == k) (range_with_len 0 n)) refl where
  go : (o : Option ℕ) → find (λ s. named s && f s == k) (range_with_len 0 n) ≡ o → (r : ℕ) × (o ≡ Some r)
  go (Some r) e = (r, refl)
  go None e =
      let other : (y : ℕ) → 0 ≤ y → y < 0 + n → named y ≡ true → f y ≡ k → ⊥ = λ y a b t s.
      let here : slice_get (range_with_len 0 n) y ≡ Some (0 + y) = range_from 0 n y (omega arith) in
      let z : 0 + y ≡ y = omega arith in
      both_ways _ (find_none (λ s. named s && f s == k) (range_with_len 0 n) y y e (here ∙ ap Some z)) (and_from _ _ t (eq-eqb _ _ s)) in
      let c = count_apart_below 0 n named (λ y. squeeze k (f y)) (count_by named (range_with_len 0 n) - 1) (record {
        below = λ y a b t. squeeze_below k (f y) (count_by named (range_with_len 0 n)) (other y a b t) l (h.below y a b t);
        apart = λ y z a b c d t u s. h.apart y z a b c d t u (squeeze_apart k (f y) (f z) (other y a b t) (other z c d u) s);
      }) in
      absurd (omega (arith, c, l))

-- a strict order of the numbers that pass
pub record IsOrder (n : ℕ) (named : ℕ → Bool) (before : ℕ → ℕ → Bool) : Type 0 where
  pub itself : (r : ℕ) → before r r ≡ false
  pub trans : (q r s : ℕ) → before q r ≡ true → before r s ≡ true → before q s ≡ true
  pub total : (r s : ℕ) → r < n → s < n → named r ≡ true → named s ≡ true → (r ≡ s) ⊎ ((before r s ≡ true) ⊎ (before s r ≡ true))

module _ (n : ℕ) (named : ℕ → Bool) (before : ℕ → ℕ → Bool) (order : IsOrder n named before) where
  abbrev rank_in : ℕ → ℕ
  rank_in r = count_by (λ s. named s && before s r) (range_with_len 0 n)

  stands : (r : ℕ) → r < n → slice_get (range_with_len 0 n) r ≡ Some r
  stands r l = let z : 0 + r ≡ r = omega arith in range_from 0 n r l ∙ ap Some z

  rank_rises : (r s : ℕ) → r < n → named r ≡ true → before r s ≡ true → rank_in r < rank_in s
  rank_rises r s l t b = count_strict (λ q. named q && before q r) (λ q. named q && before q s) (λ q h. let p = and_parts (named q) (before q r) h in and_from _ _ p.0 (order.trans q r s p.1 b))
      (range_with_len 0 n) r r (stands r l) (and_right (named r) _ (order.itself r)) (and_from _ _ t b)

  rank_below : (r : ℕ) → r < n → named r ≡ true → rank_in r < count_by named (range_with_len 0 n)
  rank_below r l t = count_strict (λ q. named q && before q r) named (λ q h. (and_parts (named q) (before q r) h).0) (range_with_len 0 n) r r (stands r l) (and_right (named r) _ (order.itself r)) t

  rank_apart : (r s : ℕ) → r < n → s < n → named r ≡ true → named s ≡ true → rank_in r ≡ rank_in s → r ≡ s
  rank_apart r s l k t u e = elim (order.total r s l k t u) [
    | inl same ↦ same
    | inr (inl b) ↦ absurd (omega (arith, e, rank_rises r s l t b))
    | inr (inr b) ↦ absurd (omega (arith, e, rank_rises s r k u b))
  ]

  pub ranks_apart : IsApart 0 n named rank_in (count_by named (range_with_len 0 n))
  ranks_apart = record { below = λ y a b t. rank_below y (omega arith) t; apart = λ y z a b c d t u s. rank_apart y z (omega arith) (omega arith) t u s }
