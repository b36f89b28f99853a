-- A sort by key, and then by place, keeps the first place of each key where the places do not fall.
use Rattle.std.proofs.Common.{ℕ, zero, suc, ◌≡◌, ◌<◌, ◌≤◌, ◌+◌, ◌-◌, ◌⊎◌, inl, inr, refl, sym, ap, subst, ◌∙◌, arith, length, get_or, Some, None, false}
use Rattle.std.proofs.lemmas.Bool.{cases_lt, eqb-true, eqb-false}
use Rattle.std.proofs.lemmas.Bool.Decides.{nat_tests}
use Rattle.std.proofs.lemmas.List.{get_or_default}
use Rattle.std.proofs.lemmas.List.Elements.{All-contains, Contains-get_or}
use Rattle.std.proofs.lemmas.List.Sorted.{All-permutation, Contains-permutation, IsPermutation-sym, IsNonDecreasingBy-from_all_adjacent}
use Rattle.std.proofs.lemmas.List.Sums.{fails_before_first, passes_at_first}
use Rattle.std.specs.List.{All, Contains}
use Rattle.std.specs.List.Sorted.{IsNonDecreasingBy, IsPermutation, IsSorted}
use Rattle.std.specs.Ordering.{nat_cmp, ordering_then, is_lt}
use Rattle.std.specs.declared.cmp.Ordering.{Ordering}
use Rattle.key_places.specs.Places.{first_place, AreInOrder}
use Rattle.key_places.proofs.Searching.{Pairs, has_key, first_at, read_here, read_none}

-- among the pairs of one key the places do not fall
abbrev pub AreInOrderByKey : Pairs → Type 0
AreInOrderByKey pairs = (i j : ℕ) (d : ℕ × ℕ) → i ≤ j → j < length pairs → (get_or pairs i d).0 ≡ (get_or pairs j d).0 → (get_or pairs i d).1 ≤ (get_or pairs j d).1

-- the least place of a key
record IsLeast (pairs : Pairs) (key place : ℕ) : Type 0 where
  has : Contains pairs (key, place)
  least : All (λ (p : ℕ × ℕ). p.0 ≡ key → place ≤ p.1) pairs

-- a key has its least place first, or there is no pair with the key
abbrev HasLeast : Pairs → ℕ → Type 0
HasLeast pairs key = ((place : ℕ) × (first_place pairs key ≡ Some place) × IsLeast pairs key place) ⊎ ((first_place pairs key ≡ None) × All (λ (p : ℕ × ℕ). p.0 ≡ key → ⊥) pairs)

least_first : (pairs : Pairs) (key : ℕ) → AreInOrderByKey pairs → HasLeast pairs key
least_first pairs key ordered = elim (cases_lt (first_at pairs key) (length pairs)) [
  | inl found ↦ inl ((get_or pairs (first_at pairs key) (0, 0)).1, read_here pairs key (first_at pairs key) (0, 0) refl found, record { has = has found; least = least found })
  | inr none ↦ inr (read_none pairs key none, λ k d h same. absurd (let other = fails_before_first (has_key key) pairs k d (omega arith) in eqb-false (get_or pairs k d).0 key other same))
] where
  key_is : first_at pairs key < length pairs → (d : ℕ × ℕ) → (get_or pairs (first_at pairs key) d).0 ≡ key
  key_is found d = eqb-true (get_or pairs (first_at pairs key) d).0 key (passes_at_first (has_key key) pairs d found)

  has : first_at pairs key < length pairs → Contains pairs (key, (get_or pairs (first_at pairs key) (0, 0)).1)
  has found = subst (λ (k : ℕ). Contains pairs (k, (get_or pairs (first_at pairs key) (0, 0)).1)) (key_is found (0, 0)) (Contains-get_or pairs (first_at pairs key) (0, 0) found)

  least : first_at pairs key < length pairs → All (λ (p : ℕ × ℕ). p.0 ≡ key → (get_or pairs (first_at pairs key) (0, 0)).1 ≤ p.1) pairs
  least found k d h same = elim (cases_lt k (first_at pairs key)) [
    | inl before ↦ absurd (eqb-false (get_or pairs k d).0 key (fails_before_first (has_key key) pairs k d before) same)
    | inr behind ↦ (
        let first = ap (λ (p : ℕ × ℕ). p.1) (get_or_default pairs (first_at pairs key) (0, 0) d found) in
        let rest = ordered (first_at pairs key) k d behind h (key_is found d ∙ sym same) in
        omega arith)
  ]

same_least : (old new : Pairs) (key p q : ℕ) → IsPermutation old new → IsLeast old key p → IsLeast new key q → p ≡ q
same_least old new key p q moved a b =
    let above = All-contains (λ (r : ℕ × ℕ). r.0 ≡ key → p ≤ r.1) old (key, q) a.least (Contains-permutation new old (key, q) (IsPermutation-sym old new moved) b.has) refl in
    let below = All-contains (λ (r : ℕ × ℕ). r.0 ≡ key → q ≤ r.1) new (key, p) b.least (Contains-permutation old new (key, p) moved a.has) refl in
    omega arith

none_kept : (old new : Pairs) (key p : ℕ) → IsPermutation old new → All (λ (r : ℕ × ℕ). r.0 ≡ key → ⊥) old → IsLeast new key p → ⊥
none_kept old new key p moved none b = All-contains (λ (r : ℕ × ℕ). r.0 ≡ key → ⊥) new (key, p) (All-permutation (λ (r : ℕ × ℕ). r.0 ≡ key → ⊥) old new moved none) b.has refl

same_first : (old new : Pairs) (key : ℕ) → IsPermutation old new → AreInOrderByKey old → AreInOrderByKey new → first_place new key ≡ first_place old key
same_first old new key moved before after = elim (least_first old key before) [
  | inl (p, is, a) ↦ elim (least_first new key after) [
    | inl (q, now, b) ↦ now ∙ ap Some (sym (same_least old new key p q moved a b)) ∙ sym is
    | inr (now, none) ↦ absurd (none_kept new old key p (IsPermutation-sym old new moved) none a)
  ]
  | inr (is, none) ↦ elim (least_first new key after) [
    | inl (q, now, b) ↦ absurd (none_kept old new key q moved none b)
    | inr (now, none') ↦ now ∙ sym is
  ]
]

abbrev lexicographic : ℕ × ℕ → ℕ × ℕ → Ordering
lexicographic a b = ordering_then (nat_cmp a.0 b.0) (nat_cmp a.1 b.1)

next_in_order : (a b : ℕ × ℕ) → is_lt (lexicographic a b) ≡ false → (b.0 ≤ a.0) × (b.0 ≡ a.0 → b.1 ≤ a.1)
next_in_order a b up = (grind (arith, nat_tests), λ same. grind (arith, nat_tests))

pub keys_rise : (pairs : Pairs) → IsSorted lexicographic pairs → IsNonDecreasingBy (λ (p : ℕ × ℕ). p.0) pairs
keys_rise pairs sorted = IsNonDecreasingBy-from_all_adjacent (λ (p : ℕ × ℕ). p.0) pairs (λ k d h. (next_in_order (get_or pairs (k + 1) d) (get_or pairs k d) (sorted k d (omega arith) h)).0)

-- the places of one key, as far as so many pairs behind
places_rise : (pairs : Pairs) → IsSorted lexicographic pairs → (i n : ℕ) (d : ℕ × ℕ) → i + n < length pairs → (get_or pairs i d).0 ≡ (get_or pairs (i + n) d).0 → (get_or pairs i d).1 ≤ (get_or pairs (i + n) d).1
places_rise pairs sorted i zero d h same = let here : i ≡ i + zero = omega arith in omega (arith, ap (λ k. (get_or pairs k d).1) here)
places_rise pairs sorted i (suc n) d h same =
    let on : i + n + 1 ≡ i + suc n = omega arith in
    let low = keys_rise pairs sorted i (i + n) d (omega arith) (omega arith) in
    let (keys, places) = next_in_order (get_or pairs (i + n + 1) d) (get_or pairs (i + n) d) (sorted (i + n) d (omega arith) (omega arith)) in
    let next = ap (λ k. (get_or pairs k d).0) on in
    let far = places_rise pairs sorted i n d (omega arith) (omega arith) in
    omega (arith, places (omega arith), ap (λ k. (get_or pairs k d).1) on)

in_order_sorted : (pairs : Pairs) → IsSorted lexicographic pairs → AreInOrderByKey pairs
in_order_sorted pairs sorted i j d le h same =
    let at : i + (j - i) ≡ j = omega arith in
    let key = ap (λ k. (get_or pairs k d).0) at in
    omega (arith, places_rise pairs sorted i (j - i) d (omega arith) (omega arith), ap (λ k. (get_or pairs k d).1) at)

pub sort_keeps : (old new : Pairs) (key : ℕ) → AreInOrder old → IsPermutation old new → IsSorted lexicographic new → first_place new key ≡ first_place old key
sort_keeps old new key ordered moved sorted = same_first old new key moved (λ i j d le h same. ordered i j d le h) (in_order_sorted new sorted)
