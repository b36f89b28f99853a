-- Searches over the numbers below a bound, and counts of them.
use Rattle.std.proofs.Common.{◌≡◌, ◌⊎◌, inl, inr, ℕ, zero, suc, ◌+◌, ◌<◌, ◌≤◌, Bool, true, false, cond, ◌||◌, eqb, List, [], ◌∷◌, ◌++◌, refl, subst, arith, eqb-true, eq-eqb}
use Rattle.std.proofs.lemmas.Bool.{cases_lt, both_ways, or_left, or_right, or_cases}
use Rattle.dxil_form.specs.Graphs.{In}

-- some number below n that passes, or that none does
pub find : (n : ℕ) (p : ℕ → Bool) → ((x : ℕ) × (x < n) × (p x ≡ true)) ⊎ ((x : ℕ) → x < n → p x ≡ false)
find zero p = inr (λ x h. absurd (omega arith))
find (suc n) p = go (p n) refl (find n p)
  where
    none : p n ≡ false → ((x : ℕ) → x < n → p x ≡ false) → (x : ℕ) → x < suc n → p x ≡ false
    none e h x l = elim (cases_lt x n) [
      | inl m ↦ h x m
      | inr q ↦ let P : ℕ → Type 0 = λ y. p y ≡ false in let s : n ≡ x = omega arith in subst P s e
    ]

    go : (b : Bool) → p n ≡ b → (((x : ℕ) × (x < n) × (p x ≡ true)) ⊎ ((x : ℕ) → x < n → p x ≡ false))
        → ((x : ℕ) × (x < suc n) × (p x ≡ true)) ⊎ ((x : ℕ) → x < suc n → p x ≡ false)
    go true e r = inl (n, omega arith, e)
    go false e (inl (x, l, t)) = inl (x, omega arith, t)
    go false e (inr h) = inr (none e h)

-- some pair of numbers below m and n that passes, or that none does
pub find_pair : (m n : ℕ) (p : ℕ → ℕ → Bool)
    → ((x : ℕ) × (y : ℕ) × (x < m) × (y < n) × (p x y ≡ true)) ⊎ ((x y : ℕ) → x < m → y < n → p x y ≡ false)
find_pair zero n p = inr (λ x y h k. absurd (omega arith))
find_pair (suc m) n p = go (find n (p m)) (find_pair m n p)
  where
    none : ((y : ℕ) → y < n → p m y ≡ false) → ((x y : ℕ) → x < m → y < n → p x y ≡ false)
        → (x y : ℕ) → x < suc m → y < n → p x y ≡ false
    none e h x y l k = elim (cases_lt x m) [
      | inl s ↦ h x y s k
      | inr q ↦ let P : ℕ → Type 0 = λ z. p z y ≡ false in let s : m ≡ x = omega arith in subst P s (e y k)
    ]

    go : (((y : ℕ) × (y < n) × (p m y ≡ true)) ⊎ ((y : ℕ) → y < n → p m y ≡ false))
        → (((x : ℕ) × (y : ℕ) × (x < m) × (y < n) × (p x y ≡ true)) ⊎ ((x y : ℕ) → x < m → y < n → p x y ≡ false))
        → ((x : ℕ) × (y : ℕ) × (x < suc m) × (y < n) × (p x y ≡ true)) ⊎ ((x y : ℕ) → x < suc m → y < n → p x y ≡ false)
    go (inl (y, l, t)) r = inl (m, y, omega arith, l, t)
    go (inr e) (inl (x, y, l, k, t)) = inl (x, y, omega arith, k, t)
    go (inr e) (inr h) = inr (none e h)

-- how many numbers below n pass
pub count : ℕ → (ℕ → Bool) → ℕ
count zero p = 0
count (suc n) p = count n p + cond (p n) 1 0

pub count_at_most : (n : ℕ) (p : ℕ → Bool) → count n p ≤ n
unfolding count
count_at_most zero p = omega arith
count_at_most (suc n) p = go (p n) (count_at_most n p)
  where
    go : (b : Bool) → count n p ≤ n → count n p + cond b 1 0 ≤ suc n
    go true h = omega arith
    go false h = omega arith

-- q passes what p passes
abbrev pub Within : (ℕ → Bool) → (ℕ → Bool) → Type 0
Within p q = (x : ℕ) → p x ≡ true → q x ≡ true

pub count_within : (n : ℕ) (p q : ℕ → Bool) → Within p q → count n p ≤ count n q
unfolding count
count_within zero p q h = omega arith
count_within (suc n) p q h = go (p n) (q n) refl refl (count_within n p q h)
  where
    go : (b c : Bool) → p n ≡ b → q n ≡ c → count n p ≤ count n q → count n p + cond b 1 0 ≤ count n q + cond c 1 0
    go true true e f r = omega arith
    go true false e f r = absurd (both_ways _ f (h n e))
    go false true e f r = omega arith
    go false false e f r = omega arith

pub count_more : (n : ℕ) (p q : ℕ → Bool) → Within p q → (y : ℕ) → y < n → p y ≡ false → q y ≡ true → count n p < count n q
unfolding count
count_more zero p q h y l e f = absurd (omega arith)
count_more (suc n) p q h y l e f = elim (cases_lt y n) [
  | inl m ↦ low m (count_more n p q h y m e f)
  | inr g ↦ here (omega arith)
]
  where
    low : y < n → count n p < count n q → count n p + cond (p n) 1 0 < count n q + cond (q n) 1 0
    low m r = go (p n) (q n) refl refl
      where
        go : (b c : Bool) → p n ≡ b → q n ≡ c → count n p + cond b 1 0 < count n q + cond c 1 0
        go true true e f = omega arith
        go true false e f = absurd (both_ways _ f (h n e))
        go false true e f = omega arith
        go false false e f = omega arith

    here : y ≡ n → count n p + cond (p n) 1 0 < count n q + cond (q n) 1 0
    here s = let P : ℕ → Type 0 = λ z. p z ≡ false in let Q : ℕ → Type 0 = λ z. q z ≡ true in
        go (p n) (q n) (subst P s e) (subst Q s f) (count_within n p q h)
      where
        go : (b c : Bool) → b ≡ false → c ≡ true → count n p ≤ count n q → count n p + cond b 1 0 < count n q + cond c 1 0
        go true c e f r = cc
        go false true e f r = omega arith
        go false false e f r = cc

-- the test of a list
pub mem : List ℕ → ℕ → Bool
mem [] x = false
mem (y ∷ ys) x = eqb x y || mem ys x

pub mem_in : (ys : List ℕ) (x : ℕ) → mem ys x ≡ true → In x ys
unfolding mem
mem_in [] x h = cc
mem_in (y ∷ ys) x h = elim (or_cases (eqb x y) (mem ys x) h) [
  | inl e ↦ inl (eqb-true x y e)
  | inr e ↦ inr (mem_in ys x e)
]

pub in_mem : (ys : List ℕ) (x : ℕ) → In x ys → mem ys x ≡ true
unfolding mem
in_mem [] x h = absurd h
in_mem (y ∷ ys) x (inl e) = or_left (eqb x y) (mem ys x) (eq-eqb x y e)
in_mem (y ∷ ys) x (inr i) = or_right (eqb x y) (mem ys x) (in_mem ys x i)

pub not_mem : (ys : List ℕ) (x : ℕ) → mem ys x ≡ false → In x ys → ⊥
not_mem ys x e i = both_ways _ e (in_mem ys x i)

pub in_append : (xs ys : List ℕ) (x : ℕ) → In x (xs ++ ys) → In x xs ⊎ In x ys
in_append [] ys x i = inr i
in_append (z ∷ zs) ys x (inl e) = inl (inl e)
in_append (z ∷ zs) ys x (inr i) = elim (in_append zs ys x i) [ inl j ↦ inl (inr j) | inr j ↦ inr j ]

pub in_left : (xs ys : List ℕ) (x : ℕ) → In x xs → In x (xs ++ ys)
in_left [] ys x i = absurd i
in_left (z ∷ zs) ys x (inl e) = inl e
in_left (z ∷ zs) ys x (inr i) = inr (in_left zs ys x i)

pub in_right : (xs ys : List ℕ) (x : ℕ) → In x ys → In x (xs ++ ys)
in_right [] ys x i = i
in_right (z ∷ zs) ys x i = inr (in_right zs ys x i)
