-- What is kept of the lines, after one line more.
use Rattle.std.proofs.Common.{ℕ, ◌≡◌, ◌<◌, ◌≤◌, ◌+◌, ◌*◌, ◌==◌, ◌&&◌, ◌||◌, min, inl, inr, refl, sym, ap, ◌∙◌, subst, arith, List, [], ◌∷◌, ◌++◌, take, length, get_or, slice_get, nat_lt, Bool, true, false, not, Option, Some, None, if◌then◌else◌}
use Rattle.std.specs.List.{list_any}
use Rattle.std.specs.Ordering.{nat_cmp, ordering_then, is_eq}
use Rattle.std.specs.declared.cmp.Ordering.{Ordering}
use Rattle.std.specs.declared.cmp.Ordering.TheVariants.{Less, Equal, Greater}
use Rattle.std.specs.BTreeMap as tree
use Rattle.std.proofs.lemmas.Bool.{eqb-true, ltb-true, lt-ltb, le-ltb, cases_lt}
use Rattle.std.proofs.lemmas.List.{take_more}
use Rattle.std.proofs.lemmas.List.Folds.{list_any_more}
use Rattle.llvm_bodies.specs.declared.line.Line.{Line}
use Rattle.llvm_facts.specs.declared.facts.Row.{Row}
use Rattle.profile_lines.specs.Pool.{Pool}
use Rattle.profile_tables.specs.EntryBody.{EntryBody}
use Rattle.profile_tables.specs.Places.{names, is_of, is_named_by, words_at, words_named, place_named}
use Rattle.profile_tables.specs.Resources.{class_number, names_row, is_row, is_row_named, rows_named, row_named, row_at}
use Rattle.profile_tables.specs.declared.place.Place.{Place}
use Rattle.profile_rules.specs.Rules.{is_other_row, is_same_place, is_met, meets, p11, p20, many_resources}
use Rattle.profile_rules.specs.Seen.{AreVariables, AreRows, AreOwners, IsPlaceNoted, IsRowNoted, IsOwned, words_more, rows_more, most, Key, key_of, key_cmp, is_other, with_owner, owner_noted, meets_owner}
use Rattle.profile_rules.specs.declared.rows.Owner.{Owner}
use Rattle.profile_rules.specs.declared.rows.Owner.TheVariants.{One, Many}
use Rattle.profile_rules.proofs.Totals.{total_none, total_more}
use Rattle.profile_rules.proofs.SetLaws.{eq_sym}
use Rattle.profile_rules.proofs.PhiLaws.{and_left, and_right}

-- ---- sums

module _ (x : EntryBody) (lines : List Line) (i : ℕ) (d : Line) (h : i < length lines) (is : d ≡ get_or lines i d) where
  named_more : (v : ℕ) → is_named_by x (take (i + 1) lines) v ≡ (is_named_by x (take i lines) v || is_of v (place_named x d))
  named_more v = list_any_more (names x v) lines i d h ∙ ap (λ (l : Line). is_named_by x (take i lines) v || names x v l) (sym is)

  words_step : (table : List Bool) → length table ≡ length x.pool.globals → ((v : ℕ) → v < length table → get_or table v false ≡ is_named_by x (take i lines) v)
      → words_named x (take (i + 1) lines) ≡ words_named x (take i lines) + words_more x.pool table (place_named x d)
  words_step table size known = at (place_named x d) refl where
    at : (place : Option Place) → place_named x d ≡ place → words_named x (take (i + 1) lines) ≡ words_named x (take i lines) + words_more x.pool table place
    at None e = total_none (is_named_by x (take i lines)) (is_named_by x (take (i + 1) lines)) (words_at x.pool) (length x.pool.globals) (λ v. named_more v ∙ ap (λ p. is_named_by x (take i lines) v || is_of v p) e)
    at (Some place) e = total_more (is_named_by x (take i lines)) (is_named_by x (take (i + 1) lines)) (words_at x.pool) (length x.pool.globals) table place.variable size known (λ v. named_more v ∙ ap (λ p. is_named_by x (take i lines) v || is_of v p) e)

  pub variables_more : (old new : List Bool) (before after : ℕ) → AreVariables x (take i lines) old before → IsPlaceNoted x.pool (place_named x d) old new before after → AreVariables x (take (i + 1) lines) new after
  variables_more old new before after a n = record {
    same_length = n.same_length ∙ a.same_length;
    each = λ v g. n.each v (let s = n.same_length in omega arith) ∙ ap (λ b. b || is_of v (place_named x d)) (a.each v (let s = n.same_length in omega arith)) ∙ sym (named_more v);
    sum = let s = words_step old a.same_length a.each in let p = a.sum in let q = n.sum in omega (arith, s, p, q);
  }

  row_more : (r : ℕ) → is_row_named x (take (i + 1) lines) r ≡ (is_row_named x (take i lines) r || is_row r (row_named x d))
  row_more r = list_any_more (names_row x r) lines i d h ∙ ap (λ (l : Line). is_row_named x (take i lines) r || names_row x r l) (sym is)

  rows_step : (table : List Bool) → length table ≡ length x.rows → ((r : ℕ) → r < length table → get_or table r false ≡ is_row_named x (take i lines) r)
      → rows_named x (take (i + 1) lines) ≡ rows_named x (take i lines) + rows_more table (row_named x d)
  rows_step table size known = at (row_named x d) refl where
    at : (row : Option ℕ) → row_named x d ≡ row → rows_named x (take (i + 1) lines) ≡ rows_named x (take i lines) + rows_more table row
    at None e = total_none (is_row_named x (take i lines)) (is_row_named x (take (i + 1) lines)) (λ r. 1) (length x.rows) (λ r. row_more r ∙ ap (λ p. is_row_named x (take i lines) r || is_row r p) e)
    at (Some row) e = total_more (is_row_named x (take i lines)) (is_row_named x (take (i + 1) lines)) (λ r. 1) (length x.rows) table row size known (λ r. row_more r ∙ ap (λ p. is_row_named x (take i lines) r || is_row r p) e)

  pub rows_more_seen : (old new : List Bool) (before after : ℕ) → AreRows x (take i lines) old before → IsRowNoted (row_named x d) old new before after → AreRows x (take (i + 1) lines) new after
  rows_more_seen old new before after a n = record {
    same_length = n.same_length ∙ a.same_length;
    each = λ r g. n.each r (let s = n.same_length in omega arith) ∙ ap (λ b. b || is_row r (row_named x d)) (a.each r (let s = n.same_length in omega arith)) ∙ sym (row_more r);
    sum = let s = rows_step old a.same_length a.each in let p = a.sum in let q = n.sum in omega (arith, s, p, q);
  }

-- ---- a place or a row more, or none

or_left_same : (b c : Bool) → c ≡ false → b ≡ (b || c)
or_left_same true c e = refl
or_left_same false c e = sym e

or_right_same : (b c : Bool) → (c ≡ true → b ≡ true) → b ≡ (b || c)
or_right_same true c f = refl
or_right_same false true f = f refl
or_right_same false false f = refl

at_number : (named : List Bool) (r v : ℕ) → (r < length named → get_or named r false ≡ true) → v < length named → (r == v) ≡ true → get_or named v false ≡ true
at_number named r v known h e = let same = eqb-true r v e in subst (λ (k : ℕ). get_or named k false ≡ true) same (known (omega (arith, same, h)))

nothing_more : (b c : Bool) (n : ℕ) → (b ≡ true → c ≡ true) → (if b && not c then n else 0) ≡ 0
nothing_more false c n f = refl
nothing_more true c n f = ap (λ d. if not d then n else 0) (f refl)

pub row_none : (named : List Bool) (count : ℕ) → count ≤ most → IsRowNoted None named named count count
row_none named count h = record { same_length = refl; each = λ r g. or_left_same (get_or named r false) false refl; sum = omega (arith, h) }

-- a row that is named, or is none
pub row_again : (named : List Bool) (count r : ℕ) → count ≤ most → (r < length named → get_or named r false ≡ true) → IsRowNoted (Some r) named named count count
row_again named count r h known = record {
  same_length = refl;
  each = λ v g. or_right_same (get_or named v false) (r == v) (at_number named r v known g);
  sum = let n = nothing_more (nat_lt r (length named)) (get_or named r false) 1 (λ e. known (ltb-true r (length named) e)) in omega (arith, h, n);
}

pub place_none : (x : Pool) (named : List Bool) (words : ℕ) → words ≤ most → IsPlaceNoted x None named named words words
place_none x named words h = record { same_length = refl; each = λ r g. or_left_same (get_or named r false) false refl; sum = omega (arith, h) }

pub place_again : (x : Pool) (named : List Bool) (words : ℕ) (place : Place) → words ≤ most → (place.variable < length named → get_or named place.variable false ≡ true) → IsPlaceNoted x (Some place) named named words words
place_again x named words place h known = record {
  same_length = refl;
  each = λ v g. or_right_same (get_or named v false) (place.variable == v) (at_number named place.variable v known g);
  sum = let n = nothing_more (nat_lt place.variable (length named)) (get_or named place.variable false) (words_at x place.variable) (λ e. known (ltb-true place.variable (length named) e)) in omega (arith, h, n);
}

-- ---- owners

cmp_eq : (a b : ℕ) → is_eq (nat_cmp a b) ≡ (a == b)
cmp_eq a b = at (nat_lt a b) refl (a == b) refl where
  at : (p : Bool) → nat_lt a b ≡ p → (q : Bool) → (a == b) ≡ q → is_eq (nat_cmp a b) ≡ (a == b)
  at true e true f = absurd (let less = ltb-true a b e in let same = eqb-true a b f in omega arith)
  at true e false f = rw (e, f) refl
  at false e true f = rw (e, f) refl
  at false e false f = rw (e, f) refl

then_eq : (a b : Ordering) → is_eq (ordering_then a b) ≡ (is_eq a && is_eq b)
then_eq Less b = refl
then_eq Equal b = refl
then_eq Greater b = refl

-- the order of two keys tells whether they are equal
at_is : (a b : Row) → tree.is_at (key_cmp (key_of b)) (key_of a) ≡ is_same_place a (Some b)
at_is a b =
    then_eq (ordering_then (nat_cmp (class_number b.class) (class_number a.class)) (nat_cmp b.space a.space)) (nat_cmp b.lower a.lower)
    ∙ ap (λ z. z && is_eq (nat_cmp b.lower a.lower)) (then_eq (nat_cmp (class_number b.class) (class_number a.class)) (nat_cmp b.space a.space))
    ∙ ap (λ z. (z && is_eq (nat_cmp b.space a.space)) && is_eq (nat_cmp b.lower a.lower)) (cmp_eq (class_number b.class) (class_number a.class) ∙ eq_sym (class_number b.class) (class_number a.class))
    ∙ ap (λ z. ((class_number a.class == class_number b.class) && z) && is_eq (nat_cmp b.lower a.lower)) (cmp_eq b.space a.space ∙ eq_sym b.space a.space)
    ∙ ap (λ z. ((class_number a.class == class_number b.class) && (a.space == b.space)) && z) (cmp_eq b.lower a.lower ∙ eq_sym b.lower a.lower)

same_key : (a b : Row) → is_same_place a (Some b) ≡ true → key_of b ≡ key_of a
same_key a b e =
    let both = and_left (class_number a.class == class_number b.class && a.space == b.space) (a.lower == b.lower) e in
    let class = eqb-true (class_number a.class) (class_number b.class) (and_left (class_number a.class == class_number b.class) (a.space == b.space) both) in
    let space = eqb-true a.space b.space (and_right (class_number a.class == class_number b.class) (a.space == b.space) both) in
    let lower = eqb-true a.lower b.lower (and_right (class_number a.class == class_number b.class && a.space == b.space) (a.lower == b.lower) e) in
    ap (λ (k : ℕ). ((k, b.space), b.lower)) (sym class) ∙ ap (λ (k : ℕ). ((class_number a.class, k), b.lower)) (sym space) ∙ ap (λ (k : ℕ). ((class_number a.class, a.space), k)) (sym lower)

or_self : (b : Bool) → b ≡ (b || b)
or_self true = refl
or_self false = refl

owner_more : (o : Option Owner) (r s : ℕ) → is_other r (Some (with_owner o s)) ≡ (is_other r o || not (r == s))
owner_more None r s = refl
owner_more (Some Many) r s = refl
owner_more (Some (One t)) r s = at (t == s) refl where
  at : (b : Bool) → (t == s) ≡ b → is_other r (Some (if b then One t else Many)) ≡ (not (r == t) || not (r == s))
  at true e = let same = eqb-true t s e in or_self (not (r == t)) ∙ ap (λ k. not (r == t) || not (r == k)) same
  at false e = other (r == t) refl where
    other : (c : Bool) → (r == t) ≡ c → true ≡ (not (r == t) || not (r == s))
    other false f = rw f refl
    other true f =
        let here = eqb-true r t f in
        let apart : (r == s) ≡ false = ap (λ k. k == s) here ∙ e in
        rw (f, apart) refl

or_none : (b : Bool) → b ≡ (b || false)
or_none true = refl
or_none false = refl

or_and_none : (b c : Bool) → b ≡ (b || (c && false))
or_and_none true c = refl
or_and_none false true = refl
or_and_none false false = refl

and_all : (b c : Bool) → (b || c) ≡ (b || (c && true))
and_all true c = refl
and_all false true = refl
and_all false false = refl

-- one row is named more
owned_more : (x : EntryBody) (r : ℕ) (row : Row) (owners : Key → Option Owner) (place : Option ℕ)
    → is_other r (owner_noted place (row_at x place) owners (key_of row)) ≡ (is_other r (owners (key_of row)) || is_other_row x r row place)
owned_more x r row owners None = or_none (is_other r (owners (key_of row)))
owned_more x r row owners (Some s) = at (slice_get x.rows s) where
  at : (o : Option Row) → is_other r (owner_noted (Some s) o owners (key_of row)) ≡ (is_other r (owners (key_of row)) || (not (r == s) && is_same_place row o))
  at None = or_and_none (is_other r (owners (key_of row))) (not (r == s))
  at (Some other) = by_key (is_same_place row (Some other)) refl where
    by_key : (b : Bool) → is_same_place row (Some other) ≡ b
        → is_other r (if tree.is_at (key_cmp (key_of other)) (key_of row) then Some (with_owner (owners (key_of other)) s) else owners (key_of row)) ≡ (is_other r (owners (key_of row)) || (not (r == s) && is_same_place row (Some other)))
    by_key true e =
        ap (λ (b : Bool). is_other r (if b then Some (with_owner (owners (key_of other)) s) else owners (key_of row))) (at_is row other ∙ e)
        ∙ ap (λ (k : Key). is_other r (Some (with_owner (owners k) s))) (same_key row other e)
        ∙ owner_more (owners (key_of row)) r s ∙ and_all (is_other r (owners (key_of row))) (not (r == s)) ∙ ap (λ b. is_other r (owners (key_of row)) || (not (r == s) && b)) (sym e)
    by_key false e =
        ap (λ (b : Bool). is_other r (if b then Some (with_owner (owners (key_of other)) s) else owners (key_of row))) (at_is row other ∙ e)
        ∙ or_and_none (is_other r (owners (key_of row))) (not (r == s)) ∙ ap (λ b. is_other r (owners (key_of row)) || (not (r == s) && b)) (sym e)

pub owners_more : (x : EntryBody) (lines : List Line) (i : ℕ) (d : Line) (old new : Key → Option Owner) → i < length lines → d ≡ get_or lines i d → AreOwners x (take i lines) old
    → IsOwned (row_named x d) (row_at x (row_named x d)) old new → AreOwners x (take (i + 1) lines) new
owners_more x lines i d old new h is a n = record {
  each = λ r row. ap (is_other r) (n.each (key_of row)) ∙ owned_more x r row old (row_named x d) ∙ ap (λ b. b || is_other_row x r row (row_named x d)) (a.each r row)
      ∙ ap (λ (l : Line). list_any (λ line. is_other_row x r row (row_named x line)) (take i lines) || is_other_row x r row (row_named x l)) is
      ∙ sym (list_any_more (λ line. is_other_row x r row (row_named x line)) lines i d h);
}

-- ---- what a line does with those before it

pub met_is : (x : EntryBody) (before : List Line) (owners : Key → Option Owner) (line : Line) → AreOwners x before owners → meets_owner (row_named x line) (row_at x (row_named x line)) owners ≡ p20 x before line
met_is x before owners line a = at (row_named x line) where
  at : (place : Option ℕ) → meets_owner place (row_at x place) owners ≡ is_met x before place
  at None = refl
  at (Some r) = by_row (slice_get x.rows r) where
    by_row : (row : Option Row) → meets_owner (Some r) row owners ≡ meets x before r row
    by_row None = refl
    by_row (Some row) = a.each r row

more_words : (sum kept : ℕ) → kept ≡ min sum most → nat_lt 8192 kept ≡ nat_lt 32768 (4 * sum)
more_words sum kept e = elim (cases_lt 8192 kept) [
  | inl above ↦ lt-ltb 8192 kept above ∙ sym (lt-ltb 32768 (4 * sum) (omega (arith, above, e)))
  | inr below ↦ le-ltb 8192 kept below ∙ sym (le-ltb 32768 (4 * sum) (omega (arith, below, e)))
]

more_rows : (sum kept : ℕ) → kept ≡ min sum most → nat_lt 1024 kept ≡ nat_lt 1024 sum
more_rows sum kept e = elim (cases_lt 1024 kept) [
  | inl above ↦ lt-ltb 1024 kept above ∙ sym (lt-ltb 1024 sum (omega (arith, above, e)))
  | inr below ↦ le-ltb 1024 kept below ∙ sym (le-ltb 1024 sum (omega (arith, below, e)))
]

pub full_is : (x : EntryBody) (lines : List Line) (i : ℕ) (d : Line) (named : List Bool) (words : ℕ) → i < length lines → d ≡ get_or lines i d → AreVariables x (take (i + 1) lines) named words → nat_lt 8192 words ≡ p11 x (take i lines) d
full_is x lines i d named words h is a =
    let cut : take (i + 1) lines ≡ take i lines ++ d ∷ [] = take_more lines i d h ∙ ap (λ (l : Line). take i lines ++ l ∷ []) (sym is) in
    more_words (words_named x (take (i + 1) lines)) words a.sum ∙ ap (λ (ls : List Line). nat_lt 32768 (4 * words_named x ls)) cut

pub many_is : (x : EntryBody) (lines : List Line) (i : ℕ) (d : Line) (named : List Bool) (count : ℕ) → i < length lines → d ≡ get_or lines i d → AreRows x (take (i + 1) lines) named count → nat_lt 1024 count ≡ many_resources x (take i lines) d
many_is x lines i d named count h is a =
    let cut : take (i + 1) lines ≡ take i lines ++ d ∷ [] = take_more lines i d h ∙ ap (λ (l : Line). take i lines ++ l ∷ []) (sym is) in
    more_rows (rows_named x (take (i + 1) lines)) count a.sum ∙ ap (λ (ls : List Line). nat_lt 1024 (rows_named x ls)) cut
