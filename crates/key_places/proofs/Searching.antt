-- The map of pairs, and where a list that is sorted by key has the first place of a key.
use Rattle.std.proofs.Common.{ℕ, ◌≡◌, ◌<◌, ◌≤◌, inl, inr, refl, sym, ap, ◌∙◌, arith, List, [], ◌∷◌, length, get_or, Option, Some, None, Bool, true, false, cond, eqb, ltb}
use Rattle.std.proofs.lemmas.Bool.{cases_lt, cases_Bool}
use Rattle.std.proofs.lemmas.Bool.Decides.{nat_tests}
use Rattle.std.proofs.lemmas.Cmp.{nat_cmp_total}
use Rattle.std.proofs.lemmas.List.Folds.{find_at}
use Rattle.std.proofs.lemmas.List.Sums.{position_or_len_is}
use Rattle.std.proofs.lemmas.Option.{slice_get-get_or, slice_get_past}
use Rattle.std.specs.Cmp.{unsigned_tied}
use Rattle.std.specs.FinMap.{get, from_entries, get-from_entries}
use Rattle.std.specs.FinMap.Entries.{find as find_entry}
use Rattle.std.specs.List.{find, position_or_len, slice_get}
use Rattle.std.specs.List.Sorted.{IsNonDecreasingBy, IsPartitionPoint}
use Rattle.std.specs.Option.{option_map}
use Rattle.std.specs.Ordering.{nat_cmp}
use Rattle.key_places.specs.Places.{first_place}

abbrev pub Pairs : Type 0
Pairs = List (ℕ × ℕ)

abbrev pub has_key : ℕ → ℕ × ℕ → Bool
has_key key p = eqb p.0 key

-- where the first of the pairs with the key stands, or how many there are
abbrev pub first_at : Pairs → ℕ → ℕ
first_at pairs key = position_or_len (has_key key) pairs

-- the place of a pair that has the key
abbrev pub place_of : ℕ → Option (ℕ × ℕ) → Option ℕ
place_of key None = None
place_of key (Some p) = cond (eqb p.0 key) (Some p.1) None

-- ---- the map of the pairs
turned : (a b : ℕ) → eqb a b ≡ eqb b a
turned a b = grind (arith, nat_tests)

entry_is : (pairs : Pairs) (key : ℕ) → find_entry nat_cmp key pairs ≡ first_place pairs key
entry_is [] key = refl
entry_is (p ∷ ps) key = rw (unsigned_tied key p.0 ∙ turned key p.0) (each (eqb p.0 key) (entry_is ps key)) where
  each : (b : Bool) → find_entry nat_cmp key ps ≡ first_place ps key
      → cond b (Some p.1) (find_entry nat_cmp key ps) ≡ option_map (λ (q : ℕ × ℕ). q.1) (cond b (Some p) (find (has_key key) ps))
  each true rest = refl
  each false rest = rest

pub map_has : (pairs : Pairs) (key : ℕ) → get (from_entries {R = nat_cmp} pairs) key ≡ first_place pairs key
map_has pairs key = get-from_entries nat_cmp_total pairs key ∙ entry_is pairs key

-- ---- where the first pair of a key stands
read_at : (pairs : Pairs) (key at : ℕ) → first_at pairs key ≡ at → first_place pairs key ≡ option_map (λ (p : ℕ × ℕ). p.1) (slice_get pairs at)
read_at pairs key at is = ap (option_map (λ (p : ℕ × ℕ). p.1)) (find_at (has_key key) pairs ∙ ap (slice_get pairs) is)

pub read_here : (pairs : Pairs) (key at : ℕ) (d : ℕ × ℕ) → first_at pairs key ≡ at → at < length pairs → first_place pairs key ≡ Some (get_or pairs at d).1
read_here pairs key at d is within = read_at pairs key at is ∙ ap (option_map (λ (p : ℕ × ℕ). p.1)) (slice_get-get_or pairs at d within)

pub read_none : (pairs : Pairs) (key : ℕ) → length pairs ≤ first_at pairs key → first_place pairs key ≡ None
read_none pairs key past = read_at pairs key (first_at pairs key) refl ∙ ap (option_map (λ (p : ℕ × ℕ). p.1)) (slice_get_past pairs (first_at pairs key) past)

none_has : (pairs : Pairs) (key : ℕ) → ((k : ℕ) → k < length pairs → has_key key (get_or pairs k (0, 0)) ≡ false) → first_place pairs key ≡ None
none_has pairs key none =
    let end = position_or_len_is (has_key key) pairs (length pairs) (0, 0) (omega arith) none (λ h. absurd (omega arith)) in
    read_none pairs key (omega arith)

-- in a list that is sorted by key, the first pair whose key is not below this one has the first place of the key, or no pair has one
pub found_at : (pairs : Pairs) (key before : ℕ) → IsNonDecreasingBy (λ (p : ℕ × ℕ). p.0) pairs → before ≤ length pairs
    → IsPartitionPoint (λ (p : ℕ × ℕ). ltb p.0 key ≡ true) (λ (p : ℕ × ℕ). ltb p.0 key ≡ false) pairs before → first_place pairs key ≡ place_of key (slice_get pairs before)
found_at pairs key before rises within point = elim (cases_lt before (length pairs)) [
  | inr past ↦ none_has pairs key (λ k h. low k (omega arith)) ∙ sym (ap (place_of key) (slice_get_past pairs before past))
  | inl below ↦ elim (cases_Bool (has_key key (get_or pairs before (0, 0)))) [
    | inl same ↦ (
        let at = position_or_len_is (has_key key) pairs before (0, 0) within low (λ h. same) in
        read_here pairs key before (0, 0) at below ∙ sym (at_bound below same))
    | inr other ↦ none_has pairs key (λ k h. above below other k h) ∙ sym (at_bound below other)
  ]
] where
  low : (k : ℕ) → k < before → has_key key (get_or pairs k (0, 0)) ≡ false
  low k h = let is = point.0 k (0, 0) (omega arith) h in grind (arith, nat_tests)

  at_bound : before < length pairs → {b : Bool} → has_key key (get_or pairs before (0, 0)) ≡ b → place_of key (slice_get pairs before) ≡ cond b (Some (get_or pairs before (0, 0)).1) None
  at_bound below is = ap (place_of key) (slice_get-get_or pairs before (0, 0) below) ∙ ap (λ (b : Bool). cond b (Some (get_or pairs before (0, 0)).1) None) is

  above : before < length pairs → has_key key (get_or pairs before (0, 0)) ≡ false → (k : ℕ) → k < length pairs → has_key key (get_or pairs k (0, 0)) ≡ false
  above below other k h = elim (cases_lt k before) [
    | inl lower ↦ low k lower
    | inr higher ↦ (
        let not_below = point.1 before (0, 0) (omega arith) below in
        let further = rises before k (0, 0) higher h in
        grind (arith, nat_tests))
  ]
