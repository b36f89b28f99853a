-- The rows by class, then id: each has its rank.
use Rattle.std.proofs.Common.{ℕ, ◌≡◌, ◌<◌, ◌≤◌, ◌+◌, ◌&&◌, ◌==◌, ◌⊎◌, inl, inr, refl, sym, ap, subst, ◌∙◌, arith, List, [], ◌∷◌, ◌++◌, map, count_by, take, drop, length, get_or, slice_get, nat_lt, eqb, Bool, true, false, cond, Option, Some, All, Contains}
use Rattle.std.specs.Cmp.{IsTotalOrder}
use Rattle.std.specs.List.{range_with_len, IsDistinct}
use Rattle.std.specs.Ordering.{nat_cmp, ordering_then, is_lt}
use Rattle.std.specs.declared.cmp.Ordering.{Ordering}
use Rattle.std.specs.declared.cmp.Ordering.TheVariants.{Less, Equal, Greater}
use Rattle.std.proofs.lemmas.Bool.{both_ways, cases_lt, cases_eq, cases_order, lt-ltb, le-ltb, eq-eqb, ne_eqb, eqb-false, and_left, and_right, or_left, or_right, or_from, and_from}
use Rattle.std.proofs.lemmas.Cmp.{nat_cmp_total, on_total, then_total}
use Rattle.std.proofs.lemmas.List.{get_or-map, length-map, length-take}
use Rattle.std.proofs.lemmas.List.Folds.{fold-map}
use Rattle.std.proofs.lemmas.List.FromFn.{get_or-map-range_with_len, length-map-range_with_len, map-range_with_len_more}
use Rattle.std.proofs.lemmas.List.Sorted.{All-permutation, Contains-permutation, IsPermutation-map, sum_by-IsPermutation, sorted_far, ranks_by}
use Rattle.std.proofs.lemmas.List.Sums.{sum_by-take-drop}
use Rattle.std.proofs.lemmas.Map.Keys.{IsDistinct-from_apart, IsDistinct-IsPermutation, apart_from_distinct}
use Rattle.std.proofs.lemmas.Option.{slice_get-get_or, slice_get_within, get_or_from_slice_get}
use Rattle.llvm_facts.specs.declared.facts.Row.{Row}
use Rattle.profile_tables.specs.EntryBody.{EntryBody}
use Rattle.profile_tables.specs.Read.{IsRead}
use Rattle.profile_tables.specs.Resources.{class_number, is_row_named, rows_named}
use Rattle.stated_program.specs.Accesses.{is_before, stands_before, rank}
use Rattle.program_sound.proofs.Lists.{map_at, range_at, get_at, slice_get-take}
use Rattle.program_maker.specs.Order.{Key, Keyed, key_of, key_in, keyed_at, keyed, key_cmp, AreInOrder, ArePlaces}
use Rattle.program_maker.proofs.ListLaws.{count_none, count_agree, slice_get-drop}

-- ---- the order of keys

key_total : IsTotalOrder key_cmp
key_total = then_total (then_total (on_total (λ (e : Keyed). e.0.0) nat_cmp_total) (on_total (λ (e : Keyed). e.0.1) nat_cmp_total)) (on_total (λ (e : Keyed). e.1) nat_cmp_total)

not_less : (a b : ℕ) → is_lt (nat_cmp b a) ≡ false → a ≤ b
not_less a b e = elim (cases_lt b a) [
  | inr l ↦ l
  | inl l ↦ absurd (both_ways (is_lt (nat_cmp b a)) e (ap (λ t. is_lt (cond t Less (cond (b == a) Equal Greater))) (lt-ltb b a l)))
]

tied : (a b : ℕ) → a ≡ b → nat_cmp b a ≡ Equal
tied a b e = ap (λ t. cond t Less (cond (b == a) Equal Greater)) (le-ltb b a (omega (arith, e))) ∙ ap (λ t. cond t Equal Greater) (eq-eqb b a (sym e))

first_part : (o p : Ordering) → is_lt (ordering_then o p) ≡ false → is_lt o ≡ false
first_part Less p e = e
first_part Equal p e = refl
first_part Greater p e = refl

second_part : (o p : Ordering) → o ≡ Equal → is_lt (ordering_then o p) ≡ false → is_lt p ≡ false
second_part o p e h = sym (ap (λ q. is_lt (ordering_then q p)) e) ∙ h

abbrev pub ComesFirst : Key → Key → Type 0
ComesFirst a b = (a.0 < b.0) ⊎ ((a.0 ≡ b.0) × (a.1 ≤ b.1))

comes_first : (a b : Keyed) → is_lt (key_cmp b a) ≡ false → ComesFirst a.0 b.0
comes_first a b e =
    let keys = first_part (ordering_then (nat_cmp b.0.0 a.0.0) (nat_cmp b.0.1 a.0.1)) (nat_cmp b.1 a.1) e in
    let class = not_less a.0.0 b.0.0 (first_part (nat_cmp b.0.0 a.0.0) (nat_cmp b.0.1 a.0.1) keys) in
    elim (cases_eq a.0.0 b.0.0) [
      | inr n ↦ inl (omega (arith, class, n))
      | inl s ↦ inr (s, not_less a.0.1 b.0.1 (second_part (nat_cmp b.0.0 a.0.0) (nat_cmp b.0.1 a.0.1) (tied a.0.0 b.0.0 s) keys))
    ]

-- ---- the order of rows

before_at : (rows : List Row) (s r : ℕ) (a b : Row) → slice_get rows s ≡ Some a → slice_get rows r ≡ Some b → stands_before rows s (slice_get rows r) ≡ is_before a b
before_at rows s r a b e f = rw (f, e) refl

is_later : (a b : Row) → ComesFirst (key_of a) (key_of b) → is_before b a ≡ false
is_later a b (inl l) = or_from (nat_lt (class_number b.class) (class_number a.class)) (class_number b.class == class_number a.class && nat_lt b.id a.id) (le-ltb (class_number b.class) (class_number a.class) (omega arith))
    (and_left (class_number b.class == class_number a.class) (nat_lt b.id a.id) (ne_eqb (class_number b.class) (class_number a.class) (λ s. omega (arith, s, l))))
is_later a b (inr l) = or_from (nat_lt (class_number b.class) (class_number a.class)) (class_number b.class == class_number a.class && nat_lt b.id a.id) (le-ltb (class_number b.class) (class_number a.class) (omega (arith, l.0)))
    (and_right (class_number b.class == class_number a.class) (nat_lt b.id a.id) (le-ltb b.id a.id l.1))

is_earlier : (a b : Row) → ComesFirst (key_of a) (key_of b) → ((class_number a.class ≡ class_number b.class) → (a.id ≡ b.id) → ⊥) → is_before a b ≡ true
is_earlier a b (inl l) n = or_left (nat_lt (class_number a.class) (class_number b.class)) (class_number a.class == class_number b.class && nat_lt a.id b.id) (lt-ltb (class_number a.class) (class_number b.class) l)
is_earlier a b (inr l) n = or_right (nat_lt (class_number a.class) (class_number b.class)) (class_number a.class == class_number b.class && nat_lt a.id b.id)
    (and_from (class_number a.class == class_number b.class) (nat_lt a.id b.id) (eq-eqb (class_number a.class) (class_number b.class) l.0) (lt-ltb a.id b.id (omega (arith, l.1, n l.0))))

flips : (a b : ℕ) → eqb a b ≡ eqb b a
flips a b = elim (cases_eq a b) [ inl e ↦ eq-eqb a b e ∙ sym (eq-eqb b a (sym e)) | inr n ↦ ne_eqb a b n ∙ sym (ne_eqb b a (λ e. n (sym e))) ]

and_true : (b : Bool) → (b && true) ≡ b
and_true true = refl
and_true false = refl

module _ (x : EntryBody) (counts : List ℕ) (read : IsRead x counts) (order : List Keyed) (is : AreInOrder x.rows order) where
  -- ---- the entries of the order

  abbrev IsKeyed : Keyed → Type 0
  IsKeyed e = (keyed_at x.rows e.1 ≡ e) × (e.1 < length x.rows)

  all_keyed : All IsKeyed (keyed x.rows)
  all_keyed k d l =
      let m = map_at (keyed_at x.rows) (range_with_len 0 (length x.rows)) k (get_or (keyed x.rows) k d) (slice_get-get_or (keyed x.rows) k d l) in
      let r = range_at 0 (length x.rows) k m.0 m.1 in
      let here : IsKeyed (keyed_at x.rows m.0) = (refl, omega (arith, r.0, r.1)) in
      subst IsKeyed m.2 here

  is_keyed : (i : ℕ) (e : Keyed) → slice_get order i ≡ Some e → IsKeyed e
  is_keyed i e at = subst IsKeyed (get_or_from_slice_get order i e e at) (All-permutation IsKeyed (keyed x.rows) order is.permutation all_keyed i e (slice_get_within order i e at))

  abbrev places : List Keyed → List ℕ
  places es = map (λ (e : Keyed). e.1) es

  place_at : (i d : ℕ) → i < length x.rows → get_or (places (keyed x.rows)) i d ≡ i
  place_at i d l =
      let within : i < length (keyed x.rows) = omega (arith, length-map-range_with_len (keyed_at x.rows) 0 (length x.rows)) in
      get_or-map (λ (e : Keyed). e.1) (keyed x.rows) i ((0, 0), 0) d within
      ∙ ap (λ (e : Keyed). e.1) (get_or-map-range_with_len (keyed_at x.rows) 0 (length x.rows) i i ((0, 0), 0) l (omega arith))

  places_apart : IsDistinct eqb (places (keyed x.rows))
  places_apart = IsDistinct-from_apart eqb (places (keyed x.rows)) (λ i j d l k.
      let m : j < length x.rows = omega (arith, k, length-map (keyed x.rows) (λ (e : Keyed). e.1), length-map-range_with_len (keyed_at x.rows) 0 (length x.rows)) in
      ap (λ a. eqb a (get_or (places (keyed x.rows)) j d)) (place_at i d (omega (arith, l, m))) ∙ ap (eqb i) (place_at j d m) ∙ ne_eqb i j (λ s. omega (arith, s, l)))

  apart_in_order : (i j : ℕ) (a b : Keyed) → slice_get order i ≡ Some a → slice_get order j ≡ Some b → i < j → a.1 ≡ b.1 → ⊥
  apart_in_order i j a b e f l same =
      let dist = IsDistinct-IsPermutation eqb flips (places (keyed x.rows)) (places order) (IsPermutation-map (λ (e : Keyed). e.1) (keyed x.rows) order is.permutation) places_apart in
      let k : j < length order = slice_get_within order j b f in
      let no = apart_from_distinct eqb (places order) i j 0 dist l (omega (arith, k, length-map order (λ (e : Keyed). e.1))) in
      let first = get_or-map (λ (e : Keyed). e.1) order i a 0 (slice_get_within order i a e) ∙ ap (λ (e : Keyed). e.1) (get_or_from_slice_get order i a a e) in
      let second = get_or-map (λ (e : Keyed). e.1) order j b 0 k ∙ ap (λ (e : Keyed). e.1) (get_or_from_slice_get order j b b f) in
      eqb-false a.1 b.1 (sym (ap (λ n. eqb n (get_or (places order) j 0)) first ∙ ap (eqb a.1) second) ∙ no) same

  pub order_places : ArePlaces (length x.rows) order
  order_places = record {
    below = λ i e at. (is_keyed i e at).1;
    apart = λ i j a b e f same. elim (cases_order i j) [
      | inl s ↦ s
      | inr (inl l) ↦ absurd (apart_in_order i j a b e f l same)
      | inr (inr l) ↦ absurd (apart_in_order j i b a f e l (sym same))
    ];
  }

  -- ---- earlier and later entries

  key_is : (e : Keyed) (row : Row) → IsKeyed e → slice_get x.rows e.1 ≡ Some row → key_of row ≡ e.0
  key_is e row k at = ap key_in (sym at) ∙ ap (λ (d : Keyed). d.0) k.0

  -- of two entries, the one before
  in_order : (i j : ℕ) (a b : Keyed) → slice_get order i ≡ Some a → slice_get order j ≡ Some b → i ≤ j → ComesFirst a.0 b.0
  in_order i j a b e f l =
      let k : j < length order = slice_get_within order j b f in
      let far = sorted_far (λ c d. is_lt (key_cmp c d)) (ranks_by key_total (λ (e : Keyed). e)) order is.sorted i j a l k in
      let first : get_or order i a ≡ a = get_or_from_slice_get order i a a e in
      let second : get_or order j a ≡ b = get_or_from_slice_get order j b a f in
      comes_first a b (sym (ap (λ c. is_lt (key_cmp (get_or order j a) c)) first ∙ ap (λ c. is_lt (key_cmp c a)) second) ∙ far)

  module _ (i j : ℕ) (a b : Keyed) (e : slice_get order i ≡ Some a) (f : slice_get order j ≡ Some b) where
    first_row : (row : Row) × (slice_get x.rows a.1 ≡ Some row)
    first_row = get_at x.rows a.1 (is_keyed i a e).1

    second_row : (row : Row) × (slice_get x.rows b.1 ≡ Some row)
    second_row = get_at x.rows b.1 (is_keyed j b f).1

    rows_in_order : i ≤ j → ComesFirst (key_of first_row.0) (key_of second_row.0)
    rows_in_order l = subst (λ (k : Key). ComesFirst k (key_of second_row.0)) (sym (key_is a first_row.0 (is_keyed i a e) first_row.1))
        (subst (λ (k : Key). ComesFirst a.0 k) (sym (key_is b second_row.0 (is_keyed j b f) second_row.1)) (in_order i j a b e f l))

    pub stands_first : i < j → stands_before x.rows a.1 (slice_get x.rows b.1) ≡ true
    stands_first l = before_at x.rows a.1 b.1 first_row.0 second_row.0 first_row.1 second_row.1
        ∙ is_earlier first_row.0 second_row.0 (rows_in_order (omega arith)) (λ c d. apart_in_order i j a b e f l (read.apart a.1 b.1 first_row.0 second_row.0 first_row.1 second_row.1 c d))

    pub stands_later : i ≤ j → stands_before x.rows b.1 (slice_get x.rows a.1) ≡ false
    stands_later l = before_at x.rows b.1 a.1 second_row.0 first_row.0 second_row.1 first_row.1 ∙ is_later first_row.0 second_row.0 (rows_in_order l)

  -- ---- ranks

  abbrev pub named_in : Keyed → Bool
  named_in e = is_row_named x x.lines e.1

  count_in_order : (test : ℕ → Bool) → count_by (λ (e : Keyed). test e.1) order ≡ count_by test (range_with_len 0 (length x.rows))
  count_in_order test = sum_by-IsPermutation (λ (e : Keyed). cond (test e.1) 1 0) (keyed x.rows) order is.permutation
      ∙ fold-map (λ (a : ℕ) (e : Keyed). a + cond (test e.1) 1 0) (keyed_at x.rows) 0 (range_with_len 0 (length x.rows))

  pub named_count : count_by named_in order ≡ rows_named x x.lines
  named_count = count_in_order (is_row_named x x.lines)

  module _ (i : ℕ) (e : Keyed) (at : slice_get order i ≡ Some e) where
    abbrev counts_for : ℕ → Bool
    counts_for s = is_row_named x x.lines s && stands_before x.rows s (slice_get x.rows e.1)

    before_count : count_by (λ (f : Keyed). counts_for f.1) (take i order) ≡ count_by named_in (take i order)
    before_count = count_agree (λ (f : Keyed). counts_for f.1) named_in (take i order) (λ j f g.
        let l : j < i = omega (arith, slice_get_within (take i order) j f g, length-take i order) in
        let there : slice_get order j ≡ Some f = sym (slice_get-take order j i l) ∙ g in
        ap (λ b. is_row_named x x.lines f.1 && b) (stands_first j i f e there at l) ∙ and_true (is_row_named x x.lines f.1))

    behind_count : count_by (λ (f : Keyed). counts_for f.1) (drop i order) ≡ 0
    behind_count = count_none (λ (f : Keyed). counts_for f.1) (drop i order) (λ j f g.
        let there : slice_get order (i + j) ≡ Some f = sym (slice_get-drop order i j) ∙ g in
        and_right (is_row_named x x.lines f.1) (stands_before x.rows f.1 (slice_get x.rows e.1)) (stands_later i (i + j) e f at there (omega arith)))

    pub rank_is : rank x e.1 ≡ count_by named_in (take i order)
    unfolding rank
    rank_is = sym (count_in_order counts_for) ∙ whole where
      whole : count_by (λ (f : Keyed). counts_for f.1) order ≡ count_by named_in (take i order)
      whole = omega (arith, sum_by-take-drop (λ (f : Keyed). cond (counts_for f.1) 1 0) order i, before_count, behind_count)

  pub place_there : (r : ℕ) → r < length x.rows → (i : ℕ) × (slice_get order i ≡ Some (keyed_at x.rows r))
  place_there r l =
      let within : r < length (keyed x.rows) = omega (arith, length-map-range_with_len (keyed_at x.rows) 0 (length x.rows)) in
      let is_there : get_or (keyed x.rows) r (keyed_at x.rows r) ≡ keyed_at x.rows r = get_or-map-range_with_len (keyed_at x.rows) 0 (length x.rows) r r (keyed_at x.rows r) l (omega arith) in
      let c : Contains order (keyed_at x.rows r) = Contains-permutation (keyed x.rows) order (keyed_at x.rows r) is.permutation (r, within, is_there) in
      (c.0, slice_get-get_or order c.0 (keyed_at x.rows r) c.1 ∙ ap Some c.2)

-- ---- the rows with their keys

pub keyed_next : (rows : List Row) (place : ℕ) (d : Row) (old new : List Keyed) → old ≡ map (keyed_at rows) (range_with_len 0 place) → place < length rows → new ≡ old ++ (key_of (get_or rows place d), place) ∷ []
    → new ≡ map (keyed_at rows) (range_with_len 0 (place + 1))
keyed_next rows place d old new a l e =
    let here : slice_get rows place ≡ Some (get_or rows place d) = slice_get-get_or rows place d l in
    let key : ◌≡◌ {A = Keyed} (key_of (get_or rows place d), place) (keyed_at rows place) = ap (λ (o : Option Row). (key_in o, place)) (sym here) in
    e ∙ ap (λ (k : List Keyed). k ++ (key_of (get_or rows place d), place) ∷ []) a ∙ ap (λ (k : Keyed). map (keyed_at rows) (range_with_len 0 place) ++ k ∷ []) key ∙ sym (map-range_with_len_more (keyed_at rows) 0 place place (omega arith))
