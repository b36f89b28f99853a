-- Ranks and resources by the order of the rows.
use Rattle.std.proofs.Common.{ℕ, zero, suc, ◌≡◌, ◌<◌, ◌≤◌, ◌+◌, ◌&&◌, ◌==◌, inl, inr, refl, sym, ap, ◌∙◌, arith, List, [], ◌∷◌, ◌++◌, set, count_by, take, length, get_or, slice_get, Bool, true, false, cond, Option, Some, None, option_map, filter_map, take_all, append-nil, option_to_list}
use Rattle.std.specs.List.{range_with_len, cons_option}
use Rattle.std.proofs.lemmas.Bool.{cases_lt, eqb-true, eq-eqb, and_parts, and_from, and_right}
use Rattle.std.proofs.lemmas.List.{get_or-set_same, get_or-set_other, get_or_past, length-set, length-take}
use Rattle.std.proofs.lemmas.List.Elements.{filter_map-append}
use Rattle.std.proofs.lemmas.List.Sums.{sum_by_more}
use Rattle.std.proofs.lemmas.List.{take_more}
use Rattle.std.proofs.lemmas.Option.{slice_get_within, slice_get_past, get_or_from_slice_get}
use Rattle.dxil_form.specs.declared.program.Resource.{Resource}
use Rattle.llvm_facts.specs.declared.facts.Row.{Row}
use Rattle.profile_tables.specs.EntryBody.{EntryBody}
use Rattle.profile_tables.specs.Read.{IsRead}
use Rattle.profile_tables.specs.Resources.{is_row_named, rows_named, row_at}
use Rattle.stated_program.specs.Accesses.{resource_of, stands_before, rank, ranked, resources}
use Rattle.program_sound.proofs.Lists.{find_at, find_from, range_from, range_at, get_at, slice_get-take}
use Rattle.program_sound.proofs.Rows.{ranks}
use Rattle.program_maker.specs.Marks.{AreMarks}
use Rattle.program_maker.specs.Order.{Keyed, keyed_at, AreInOrder, ArePlaces, AreRanks, is_named, named_row, resource_in}
use Rattle.program_maker.proofs.ListLaws.{one_given, count_none, count_agree, range_more}
use Rattle.program_maker.proofs.OrderLaws.{named_in, named_count, rank_is, order_places, place_there}

-- ---- ranks, entry by entry

pub record IsRanking (named : List Bool) (order : List Keyed) (i count : ℕ) (ranks : List ℕ) : Type 0 where
  pub count_is : count ≡ count_by (is_named named) (take i order)
  pub same_length : length ranks ≡ length named
  pub each : (j : ℕ) (e : Keyed) → j < i → slice_get order j ≡ Some e → get_or ranks e.1 0 ≡ count_by (is_named named) (take j order)

pub ranking_none : (named : List Bool) (order : List Keyed) (ranks : List ℕ) → length ranks ≡ length named → IsRanking named order 0 0 ranks
ranking_none named order ranks e = record { count_is = refl; same_length = e; each = λ j e l at. absurd (omega arith) }

pub ranking_more : (named : List Bool) (order : List Keyed) (i count : ℕ) (e : Keyed) (ranks : List ℕ) (next : ℕ) (new : List ℕ) → ArePlaces (length named) order → IsRanking named order i count ranks → slice_get order i ≡ Some e
    → next ≡ count + cond (get_or named e.1 false) 1 0 → new ≡ set ranks e.1 count → IsRanking named order (i + 1) next new
ranking_more named order i count e ranks next new p a at n f = record {
  count_is = let s = sum_by_more (λ (d : Keyed). cond (is_named named d) 1 0) order i e within in let t : ◌≡◌ {A = ℕ} (cond (is_named named (get_or order i e)) 1 0) (cond (get_or named e.1 false) 1 0) = ap (λ (d : Keyed). cond (is_named named d) 1 0) here in omega (arith, n, a.count_is, s, t);
  same_length = ap (λ (l : List ℕ). length l) f ∙ length-set ranks e.1 count ∙ a.same_length;
  each = λ j d l g. ap (λ l. get_or l d.1 0) f ∙ elim (cases_lt j i) [
    | inl k ↦ get_or-set_other ranks e.1 d.1 count 0 (λ s. omega (arith, k, p.apart j i d e g at s)) ∙ a.each j d k g
    | inr k ↦
        let s : j ≡ i = omega arith in
        let same : d.1 ≡ e.1 = ap (λ (q : Keyed). q.1) (sym (get_or_from_slice_get order j d d g) ∙ ap (λ k. get_or order k d) s ∙ get_or_from_slice_get order i e d at) in
        ap (λ k. get_or (set ranks e.1 count) k 0) same ∙ get_or-set_same ranks e.1 count 0 (omega (arith, p.below i e at, a.same_length)) ∙ a.count_is ∙ ap (λ k. count_by (is_named named) (take k order)) (sym s)
  ];
} where
  within : i < length order
  within = slice_get_within order i e at

  here : get_or order i e ≡ e
  here = get_or_from_slice_get order i e e at

pub ranking_whole : (named : List Bool) (order : List Keyed) (i count : ℕ) (ranks : List ℕ) → IsRanking named order i count ranks → length order ≤ i → AreRanks named order ranks
ranking_whole named order i count ranks a l = record { same_length = a.same_length; each = λ j e at. a.each j e (omega (arith, l, slice_get_within order j e at)) at }

-- ---- resources, entry by entry

pub resources_next : (rows : List Row) (named : List Bool) (order : List Keyed) (i : ℕ) (d : Keyed) (row : Option Row) (old new : List Resource) → old ≡ filter_map (resource_in rows named) (take i order) → i < length order
    → row ≡ named_row rows named (get_or order i d).1 → new ≡ old ++ option_to_list (option_map resource_of row) → new ≡ filter_map (resource_in rows named) (take (i + 1) order)
resources_next rows named order i d row old new a l is e =
    e ∙ ap (λ (k : List Resource). k ++ option_to_list (option_map resource_of row)) a
    ∙ ap (λ (o : Option Row). filter_map (resource_in rows named) (take i order) ++ option_to_list (option_map resource_of o)) is
    ∙ ap (λ (k : List Resource). filter_map (resource_in rows named) (take i order) ++ k) (sym (one_given (resource_in rows named (get_or order i d))))
    ∙ sym (ap (filter_map (resource_in rows named)) (take_more order i d l) ∙ filter_map-append (resource_in rows named) (take i order) (get_or order i d ∷ []))

-- ---- what they are

module _ (x : EntryBody) (counts : List ℕ) (read : IsRead x counts) (order : List Keyed) (is : AreInOrder x.rows order) (named : List Bool) (marks : AreMarks (length x.rows) (is_row_named x x.lines) named) where
  marked : (i : ℕ) (e : Keyed) → slice_get order i ≡ Some e → is_named named e ≡ is_row_named x x.lines e.1
  marked i e at = marks.each e.1 ((order_places x counts read order is).below i e at)

  marked_count : (i : ℕ) → count_by (is_named named) (take i order) ≡ count_by (named_in x counts read order is) (take i order)
  marked_count i = count_agree (is_named named) (named_in x counts read order is) (take i order) (λ j e g.
      let l : j < i = omega (arith, slice_get_within (take i order) j e g, length-take i order) in
      marked j e (sym (slice_get-take order j i l) ∙ g))

  pub named_few : rows_named x x.lines ≤ 1024 → count_by (is_named named) order ≤ 1024
  named_few l =
      let whole = take_all (length order) order (omega arith) in
      omega (arith, l, ap (λ (o : List Keyed). count_by (is_named named) o) whole, ap (λ (o : List Keyed). count_by (named_in x counts read order is) o) whole, marked_count (length order), named_count x counts read order is)

  rank_past : (r : ℕ) → length x.rows ≤ r → rank x r ≡ 0
  unfolding rank
  rank_past r l = count_none (λ s. is_row_named x x.lines s && stands_before x.rows s (slice_get x.rows r)) (range_with_len 0 (length x.rows)) (λ j s e.
      and_right (is_row_named x x.lines s) (stands_before x.rows s (slice_get x.rows r)) (ap (stands_before x.rows s) (slice_get_past x.rows r l)))

  pub ranks_are : (table : List ℕ) → AreRanks named order table → (r : ℕ) → get_or table r 0 ≡ rank x r
  ranks_are table a r = elim (cases_lt r (length x.rows)) [
    | inr past ↦ get_or_past table r 0 (omega (arith, past, a.same_length, marks.same_length)) ∙ sym (rank_past r past)
    | inl l ↦ let t = place_there x counts read order is r l in a.each t.0 (keyed_at x.rows r) t.1 ∙ marked_count t.0 ∙ sym (rank_is x counts read order is t.0 (keyed_at x.rows r) t.1)
  ]

  -- ---- resources

  abbrev resource_by : ℕ → Option Resource
  resource_by k = option_map resource_of (row_at x (ranked x k))

  ranked_there : (k r : ℕ) → r < length x.rows → is_row_named x x.lines r ≡ true → rank x r ≡ k → ranked x k ≡ Some r
  ranked_there k r l t e =
      let z : 0 + r ≡ r = omega arith in
      let f = find_from (λ s. is_row_named x x.lines s && rank x s == k) (range_with_len 0 (length x.rows)) r r (range_from 0 (length x.rows) r l ∙ ap Some z) (and_from (is_row_named x x.lines r) (rank x r == k) t (eq-eqb (rank x r) k e)) in
      let g = find_at (λ s. is_row_named x x.lines s && rank x s == k) (range_with_len 0 (length x.rows)) f.0 f.1 in
      let h = and_parts (is_row_named x x.lines f.0) (rank x f.0 == k) g.holds.1 in
      let m : f.0 < length x.rows = omega (arith, g.holds.0, range_place g.i g.item g.at) in
      let same : f.0 ≡ r = (ranks x counts read).apart f.0 r (omega arith) (omega arith) (omega arith) (omega arith) h.0 t (eqb-true (rank x f.0) k h.1 ∙ sym e) in
      f.1 ∙ ap Some same
    where
      range_place : (i y : ℕ) → slice_get (range_with_len 0 (length x.rows)) i ≡ Some y → y < length x.rows
      range_place i y at = let s = range_at 0 (length x.rows) i y at in omega (arith, s.0, s.1)

  abbrev so_far : ℕ → ℕ
  so_far i = count_by (named_in x counts read order is) (take i order)

  given_here : (i : ℕ) (e : Keyed) → slice_get order i ≡ Some e → (b : Bool) → is_row_named x x.lines e.1 ≡ b
      → filter_map resource_by (range_with_len 0 (so_far i)) ++ cons_option (resource_in x.rows named e) [] ≡ filter_map resource_by (range_with_len 0 (so_far i + cond b 1 0))
  given_here i e at true t =
      let row = get_at x.rows e.1 ((order_places x counts read order is).below i e at) in
      let there : ranked x (so_far i) ≡ Some e.1 = ranked_there (so_far i) e.1 ((order_places x counts read order is).below i e at) t (rank_is x counts read order is i e at) in
      let made : resource_in x.rows named e ≡ option_map resource_of (slice_get x.rows e.1) = ap (λ b. option_map resource_of (cond b (slice_get x.rows e.1) None)) (marked i e at ∙ t) in
      let is_made : resource_by (so_far i) ≡ option_map resource_of (slice_get x.rows e.1) = ap (λ o. option_map resource_of (row_at x o)) there in
      ap (λ o. filter_map resource_by (range_with_len 0 (so_far i)) ++ cons_option o []) (made ∙ sym is_made)
      ∙ sym (ap (filter_map resource_by) (range_more (so_far i)) ∙ filter_map-append resource_by (range_with_len 0 (so_far i)) (so_far i ∷ []))
  given_here i e at false t =
      let none : resource_in x.rows named e ≡ None = ap (λ b. option_map resource_of (cond b (slice_get x.rows e.1) None)) (marked i e at ∙ t) in
      let z : so_far i ≡ so_far i + 0 = omega arith in
      ap (λ o. filter_map resource_by (range_with_len 0 (so_far i)) ++ cons_option o []) none ∙ append-nil (filter_map resource_by (range_with_len 0 (so_far i))) ∙ ap (λ k. filter_map resource_by (range_with_len 0 k)) z

  made_so_far : (i : ℕ) → i ≤ length order → filter_map (resource_in x.rows named) (take i order) ≡ filter_map resource_by (range_with_len 0 (so_far i))
  made_so_far zero l = refl
  made_so_far (suc i) l =
      let g = get_at order i (omega arith) in
      let one : suc i ≡ i + 1 = omega arith in
      let here : get_or order i g.0 ≡ g.0 = get_or_from_slice_get order i g.0 g.0 g.1 in
      let within : i < length order = omega arith in
      let cut : take (suc i) order ≡ take i order ++ g.0 ∷ [] = ap (λ k. take k order) one ∙ take_more order i g.0 within ∙ ap (λ (e : Keyed). take i order ++ e ∷ []) here in
      let count : so_far (suc i) ≡ so_far i + cond (is_row_named x x.lines g.0.1) 1 0 = ap (λ k. so_far k) one ∙ sum_by_more (λ (e : Keyed). cond (named_in x counts read order is e) 1 0) order i g.0 within ∙ ap (λ (e : Keyed). so_far i + cond (is_row_named x x.lines e.1) 1 0) here in
      ap (filter_map (resource_in x.rows named)) cut ∙ filter_map-append (resource_in x.rows named) (take i order) (g.0 ∷ [])
      ∙ ap (λ l. l ++ cons_option (resource_in x.rows named g.0) []) (made_so_far i (omega arith))
      ∙ given_here i g.0 g.1 (is_row_named x x.lines g.0.1) refl ∙ ap (λ k. filter_map resource_by (range_with_len 0 k)) (sym count)

  pub resources_are : filter_map (resource_in x.rows named) order ≡ resources x
  resources_are =
      let whole = take_all (length order) order (omega arith) in
      sym (ap (filter_map (resource_in x.rows named)) whole) ∙ made_so_far (length order) (omega arith)
      ∙ ap (λ (o : List Keyed). filter_map resource_by (range_with_len 0 (count_by (named_in x counts read order is) o))) whole
      ∙ ap (λ k. filter_map resource_by (range_with_len 0 k)) (named_count x counts read order is)
