-- The resources of the program are the rows that the body names, each once.
use Rattle.std.proofs.Common.{ℕ, ◌≡◌, ◌+◌, ◌<◌, ◌≤◌, ◌⊎◌, inl, inr, refl, sym, ap, ◌∙◌, arith, Bool, true, false, ◌&&◌, ◌==◌, List, length, take, slice_get, Option, Some, None, is_some, option_map}
use Rattle.std.specs.List.{range_with_len}
use Rattle.std.proofs.lemmas.Bool.{and_parts, and_from, and_right, or_cases, or_from, or_left, or_right, cases_order, eqb-true, eq-eqb, ltb-true, lt-ltb, le-ltb}
use Rattle.std.proofs.lemmas.Option.{same_Some, slice_get_within}
use Rattle.dxil_form.specs.declared.program.Resource.{Resource}
use Rattle.llvm_facts.specs.declared.facts.Row.{Row}
use Rattle.profile_tables.specs.EntryBody.{EntryBody}
use Rattle.profile_tables.specs.Read.{IsRead}
use Rattle.profile_tables.specs.Resources.{class_number, row_named, row_at, is_row, names_row, is_row_named, rows_named}
use Rattle.stated_program.specs.Accesses.{resource_of, is_before, stands_before, rank, ranked, resources}
use Rattle.program_sound.proofs.Lists.{Found, find_at, any_at, range_at, range_from, range_length, get_at, given_all, filter_map_at, filter_map_from, given, IsGiven}
use Rattle.program_sound.proofs.Ranks.{IsApart, IsOrder, ranks_apart, onto}

-- ---- the order of rows

precede : Option Row → Option Row → Bool
precede None o = false
precede (Some a) None = false
precede (Some a) (Some b) = is_before a b

before_is : (rows : List Row) (s : ℕ) (o : Option Row) → stands_before rows s o ≡ precede (slice_get rows s) o
unfolding precede
before_is rows s None = go (slice_get rows s) where
  go : (p : Option Row) → false ≡ precede p None
  go None = refl
  go (Some a) = refl
before_is rows s (Some row) = go (slice_get rows s) refl where
  go : (p : Option Row) → slice_get rows s ≡ p → stands_before rows s (Some row) ≡ precede p (Some row)
  go None e = rw e refl
  go (Some a) e = rw e refl

row_order : (a b : Row) → is_before a b ≡ true → (class_number a.class < class_number b.class) ⊎ ((class_number a.class ≡ class_number b.class) × (a.id < b.id))
row_order a b e = elim (or_cases _ _ e) [
  | inl l ↦ inl (ltb-true _ _ l)
  | inr r ↦ let p = and_parts _ _ r in inr (eqb-true _ _ p.0, ltb-true _ _ p.1)
]

order_row : (a b : Row) → (class_number a.class < class_number b.class) ⊎ ((class_number a.class ≡ class_number b.class) × (a.id < b.id)) → is_before a b ≡ true
order_row a b (inl l) = or_left _ _ (lt-ltb _ _ l)
order_row a b (inr r) = or_right _ _ (and_from _ _ (eq-eqb _ _ r.0) (lt-ltb _ _ r.1))

precede-itself : (o : Option Row) → precede o o ≡ false
unfolding precede
precede-itself None = refl
precede-itself (Some a) = or_from _ _ (le-ltb (class_number a.class) (class_number a.class) (omega arith)) (and_right _ _ (le-ltb a.id a.id (omega arith)))

precede-trans : (o p q : Option Row) → precede o p ≡ true → precede p q ≡ true → precede o q ≡ true
unfolding precede
precede-trans None p q e f = cc
precede-trans (Some a) None q e f = cc
precede-trans (Some a) (Some b) None e f = cc
precede-trans (Some a) (Some b) (Some c) e f = order_row a c (go (row_order a b e) (row_order b c f)) where
  go : (class_number a.class < class_number b.class) ⊎ ((class_number a.class ≡ class_number b.class) × (a.id < b.id)) → (class_number b.class < class_number c.class) ⊎ ((class_number b.class ≡ class_number c.class) × (b.id < c.id))
      → (class_number a.class < class_number c.class) ⊎ ((class_number a.class ≡ class_number c.class) × (a.id < c.id))
  go (inl l) (inl k) = inl (omega arith)
  go (inl l) (inr k) = inl (omega (arith, k.0))
  go (inr l) (inl k) = inl (omega (arith, l.0))
  go (inr l) (inr k) = inr (omega (arith, l.0, k.0), omega (arith, l.1, k.1))

-- a resource of the program and its row
pub record IsResource (x : EntryBody) (k : ℕ) (resource : Resource) : Type 0 where
  pub r : ℕ
  pub row : Row
  pub at : slice_get x.rows r ≡ Some row
  pub named : is_row_named x x.lines r ≡ true
  pub resource_is : resource_of row ≡ resource
  pub place : rank x r ≡ k

pub named_line : (x : EntryBody) (r : ℕ) → is_row_named x x.lines r ≡ true → Found x.lines (λ line. row_named x line ≡ Some r)
named_line x r e = let f = any_at (names_row x r) x.lines e in record { i = f.i; item = f.item; at = f.at; holds = go (row_named x f.item) f.holds } where
  go : (o : Option ℕ) → is_row r o ≡ true → o ≡ Some r
  go None h = cc
  go (Some s) h = ap Some (eqb-true s r h)

module _ (x : EntryBody) (counts : List ℕ) (read : IsRead x counts) where
  abbrev before : ℕ → ℕ → Bool
  before s r = stands_before x.rows s (slice_get x.rows r)

  both_rows : (r s : ℕ) (a b : Row) → slice_get x.rows r ≡ Some a → slice_get x.rows s ≡ Some b → (r ≡ s) ⊎ ((before r s ≡ true) ⊎ (before s r ≡ true))
  unfolding precede
  both_rows r s a b e f =
      let one : before r s ≡ is_before a b = before_is x.rows r (slice_get x.rows s) ∙ ap (λ o. precede o (slice_get x.rows s)) e ∙ ap (precede (Some a)) f in
      let two : before s r ≡ is_before b a = before_is x.rows s (slice_get x.rows r) ∙ ap (λ o. precede o (slice_get x.rows r)) f ∙ ap (precede (Some b)) e in
      elim (cases_order (class_number a.class) (class_number b.class)) [
        | inr (inl l) ↦ inr (inl (one ∙ order_row a b (inl l)))
        | inr (inr l) ↦ inr (inr (two ∙ order_row b a (inl l)))
        | inl c ↦ elim (cases_order a.id b.id) [
          | inr (inl l) ↦ inr (inl (one ∙ order_row a b (inr (c, l))))
          | inr (inr l) ↦ inr (inr (two ∙ order_row b a (inr (sym c, l))))
          | inl d ↦ inl (read.apart r s a b e f c d)
        ]
      ]

  order : IsOrder (length x.rows) (is_row_named x x.lines) before
  order = record {
    itself = λ r. before_is x.rows r (slice_get x.rows r) ∙ precede-itself (slice_get x.rows r);
    trans = λ q r s e f. before_is x.rows q (slice_get x.rows s) ∙ precede-trans (slice_get x.rows q) (slice_get x.rows r) (slice_get x.rows s)
        (sym (before_is x.rows q (slice_get x.rows r)) ∙ e) (sym (before_is x.rows r (slice_get x.rows s)) ∙ f);
    total = λ r s l k t u. let g = get_at x.rows r l in let h = get_at x.rows s k in both_rows r s g.0 h.0 g.1 h.1;
  }

  pub ranks : IsApart 0 (length x.rows) (is_row_named x x.lines) (rank x) (rows_named x x.lines)
  unfolding rank
  ranks = ranks_apart (length x.rows) (is_row_named x x.lines) before order

  pub record IsRanked (k r : ℕ) : Type 0 where
    pub row : Row
    pub at : slice_get x.rows r ≡ Some row
    pub named : is_row_named x x.lines r ≡ true
    pub place : rank x r ≡ k

  ranked_is : (k r : ℕ) → ranked x k ≡ Some r → IsRanked k r
  ranked_is k r e =
      let f = find_at (λ s. is_row_named x x.lines s && rank x s == k) (range_with_len 0 (length x.rows)) r e in
      let g = range_at 0 (length x.rows) f.i f.item f.at in
      let p = and_parts (is_row_named x x.lines r) (rank x r == k) f.holds.1 in
      let within : r < length x.rows = omega (arith, f.holds.0, g.0, g.1) in
      let t = get_at x.rows r within in
      record { row = t.0; at = t.1; named = p.0; place = eqb-true _ _ p.1 }

  abbrev pub resource_by : ℕ → Option Resource
  resource_by k = option_map resource_of (row_at x (ranked x k))

  resource_ranked : (k r : ℕ) (row : Row) → ranked x k ≡ Some r → slice_get x.rows r ≡ Some row → resource_by k ≡ Some (resource_of row)
  resource_ranked k r row e at = ap (λ o. option_map resource_of (row_at x o)) e ∙ ap (option_map resource_of) at

  given_is : (k r : ℕ) (row : Row) (resource : Resource) → ranked x k ≡ Some r → slice_get x.rows r ≡ Some row → resource_by k ≡ Some resource → Some (resource_of row) ≡ Some resource
  given_is k r row resource e at f = sym (resource_ranked k r row e at) ∙ f

  ranked_there : (k : ℕ) → k < rows_named x x.lines → (r : ℕ) × (ranked x k ≡ Some r)
  ranked_there k l = onto (length x.rows) (is_row_named x x.lines) (rank x) ranks k l

  all_given : (j k : ℕ) → slice_get (range_with_len 0 (rows_named x x.lines)) j ≡ Some k → is_some (resource_by k) ≡ true
  all_given j k e =
      let g = range_at 0 (rows_named x x.lines) j k e in
      let t = ranked_there k (omega (arith, g.0, g.1)) in
      let s = ranked_is k t.0 t.1 in
      ap is_some (resource_ranked k t.0 s.row t.1 s.at)

  before_place : (k : ℕ) → k ≤ rows_named x x.lines → given resource_by (take k (range_with_len 0 (rows_named x x.lines))) ≡ k
  before_place k l = given_all resource_by (range_with_len 0 (rows_named x x.lines)) k all_given (omega (arith, range_length 0 (rows_named x x.lines)))

  pub resource_row : (k : ℕ) (resource : Resource) → slice_get (resources x) k ≡ Some resource → IsResource x k resource
  resource_row k resource e =
      let f : IsGiven resource_by (range_with_len 0 (rows_named x x.lines)) k resource = filter_map_at resource_by (range_with_len 0 (rows_named x x.lines)) k resource e in
      let g = range_at 0 (rows_named x x.lines) f.i f.item f.at in
      let same : f.item ≡ k = omega (arith, g.0, g.1, f.place, before_place f.i (omega (arith, g.1))) in
      let t = ranked_there f.item (omega (arith, g.0, g.1)) in
      let s = ranked_is f.item t.0 t.1 in
      record { r = t.0; row = s.row; at = s.at; named = s.named; resource_is = same_Some (resource_of s.row) resource (given_is f.item t.0 s.row resource t.1 s.at f.gives); place = s.place ∙ same }

  pub resource_there : (r : ℕ) (row : Row) → is_row_named x x.lines r ≡ true → slice_get x.rows r ≡ Some row → slice_get (resources x) (rank x r) ≡ Some (resource_of row)
  resource_there r row t at =
      let within : r < length x.rows = slice_get_within x.rows r row at in
      let l : rank x r < rows_named x x.lines = ranks.below r (omega arith) (omega arith) t in
      let o = ranked_there (rank x r) l in
      let s = ranked_is (rank x r) o.0 o.1 in
      let k : o.0 < length x.rows = slice_get_within x.rows o.0 s.row s.at in
      let same : o.0 ≡ r = ranks.apart o.0 r (omega arith) (omega arith) (omega arith) (omega arith) s.named t s.place in
      let z : 0 + rank x r ≡ rank x r = omega arith in
      ap (slice_get (resources x)) (sym (before_place (rank x r) (omega arith)))
      ∙ filter_map_from resource_by (range_with_len 0 (rows_named x x.lines)) (rank x r) (rank x r) (resource_of row)
      (range_from 0 (rows_named x x.lines) (rank x r) l ∙ ap Some z) (resource_ranked (rank x r) r row (o.1 ∙ ap Some same) at)
