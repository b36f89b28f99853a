-- The resources of the program are in their bounds and apart.
use Rattle.std.proofs.Common.{ℕ, ◌≡◌, ◌≢◌, ◌+◌, ◌/◌, ◌%◌, ◌<◌, ◌≤◌, inl, inr, refl, sym, subst, ap, ◌∙◌, arith, Bool, true, false, cond, not, ◌&&◌, ◌||◌, ◌==◌, nat_le, List, [], ◌∷◌, ◌++◌, length, take, slice_get, Some}
use Rattle.std.specs.List.{range_with_len}
use Rattle.std.proofs.lemmas.Bool.{both_ways, and_parts, and_from, cases_Bool, cases_order, eqb-true, eqb-false, eq-eqb, leb-true, ltb-false, not-true, not-false, not_from_false}
use Rattle.std.proofs.lemmas.Option.{same_Some}
use Rattle.dx_base.specs.First.{IsSound}
use Rattle.dxil_form.specs.Sound.{ResourceFits, KindFits, IsSamePlace}
use Rattle.dxil_form.specs.declared.program.Class.{Class}
use Rattle.dxil_form.specs.declared.program.Class.TheVariants.{Srv, Uav, Cbv}
use Rattle.dxil_form.specs.declared.program.Kind.TheVariants.{Raw, Structured}
use Rattle.dxil_form.specs.declared.program.Resource.{Resource}
use Rattle.llvm_bodies.specs.declared.line.Line.{Line}
use Rattle.llvm_facts.specs.declared.facts.Row.{Row}
use Rattle.profile_tables.specs.EntryBody.{EntryBody}
use Rattle.profile_tables.specs.Read.{IsRead, IsAt}
use Rattle.profile_tables.specs.Resources.{class_number, row_named, row_at, is_row_named, rows_named}
use Rattle.profile_rules.specs.Rules.{Broken, is_faulty, is_sound_row, is_laid_out, is_stride, is_met, meets, is_other_row, is_same_place}
use Rattle.stated_program.specs.Accesses.{resource_of, kind_of, rank, resources}
use Rattle.stated_program.specs.Stated.{program_of}
use Rattle.program_sound.proofs.Lists.{none_at, take_last, filter_map_short, range_length, slice_get-take}
use Rattle.program_sound.proofs.Clear.{keeps19, keeps20, keeps23}
use Rattle.program_sound.proofs.Ends.{last_line, same_line}
use Rattle.program_sound.proofs.Rows.{named_line, resource_row, resource_by}

-- ---- one row

stride_fits : (n : ℕ) → is_stride n ≡ true → (4 ≤ n) × (n ≤ 2048) × (n % 4 ≡ 0)
stride_fits n e =
    let p = and_parts _ _ e in
    let q = and_parts (not (n == 0)) (nat_le n 2048) p.0 in
    let z : n % 4 ≡ 0 = eqb-true _ _ p.1 in
    let m : n ≡ 0 → ⊥ = eqb-false n 0 (not-true (n == 0) q.0) in
    (omega (arith, z, m), leb-true n 2048 q.1, z)

buffer_fits : (row : Row) (c : Class) → c ≢ Cbv → (row.kind == 11 || (row.kind == 12 && is_stride row.size)) ≡ true → KindFits (cond (row.kind == 11) Raw (Structured row.size)) c
buffer_fits row c other e = go (row.kind == 11) e where
  go : (b : Bool) → (b || (row.kind == 12 && is_stride row.size)) ≡ true → KindFits (cond b Raw (Structured row.size)) c
  go true f = other
  go false f = let s = stride_fits row.size (and_parts _ _ f).1 in (other, s.0, s.1, s.2)

laid_out_fits : (row : Row) → is_laid_out row ≡ true → KindFits (kind_of row) row.class
laid_out_fits row e = go row.class refl where
  constant : (not (row.size == 0) && nat_le row.size 65536) ≡ true → (1 ≤ (row.size + 15) / 16) × ((row.size + 15) / 16 ≤ 4096)
  constant f =
      let p = and_parts _ _ f in
      let m : row.size ≡ 0 → ⊥ = eqb-false row.size 0 (not-true (row.size == 0) p.0) in
      let l = leb-true row.size 65536 p.1 in
      (omega (arith, m), omega (arith, l))

  go : (c : Class) → row.class ≡ c → KindFits (kind_of row) row.class
  go Cbv s = let f : (not (row.size == 0) && nat_le row.size 65536) ≡ true = rw s at e in rw s (refl, (constant f).0, (constant f).1)
  go Srv s = let f : (row.kind == 11 || (row.kind == 12 && is_stride row.size)) ≡ true = rw s at e in rw s (buffer_fits row Srv (λ h. cc) f)
  go Uav s = let f : (row.kind == 11 || (row.kind == 12 && is_stride row.size)) ≡ true = rw s at e in rw s (buffer_fits row Uav (λ h. cc) f)

pub row_fits : (row : Row) → is_sound_row row ≡ true → ResourceFits (resource_of row)
row_fits row e =
    let p = and_parts _ _ e in
    let q = and_parts _ _ p.0 in
    let r = and_parts _ _ q.0 in
    record { kind = laid_out_fits row p.1; lower = leb-true _ _ r.1 }

same_class : (a b : Class) → a ≡ b → class_number a ≡ class_number b
same_class a b e = ap class_number e

module _ (x : EntryBody) (counts : List ℕ) (read : IsRead x counts) (sound : IsSound (Broken x)) where
  pub row_sound : (r : ℕ) (row : Row) → is_row_named x x.lines r ≡ true → slice_get x.rows r ≡ Some row → is_sound_row row ≡ true
  row_sound r row t at =
      let f = named_line x r t in
      let k : is_faulty (row_at x (row_named x f.item)) ≡ false = keeps19 x sound f.i f.item f.at in
      not-false _ (sym (ap is_faulty (ap (row_at x) f.holds ∙ at)) ∙ k)

  pub resources_fit : (r : ℕ) (resource : Resource) → slice_get (program_of x counts).resources r ≡ Some resource → ResourceFits resource
  unfolding program_of
  resources_fit r resource e = let w = resource_row x counts read r resource e in subst ResourceFits w.resource_is (row_fits w.row (row_sound w.r w.row w.named w.at))

  -- a row that a line names is another place than one that a line before it names
  other_place : (i j r s : ℕ) (l m : Line) (a b : Row) → i < j → IsAt x i l → IsAt x j m → row_named x l ≡ Some r → row_named x m ≡ Some s → slice_get x.rows r ≡ Some a → slice_get x.rows s ≡ Some b → is_same_place b (Some a) ≡ true → s ≡ r
  other_place i j r s l m a b before at at' e f g h same =
      let k : is_met x (take j x.lines) (row_named x m) ≡ false = keeps20 x sound j m at' in
      let k2 : meets x (take j x.lines) s (Some b) ≡ false = sym (ap (is_met x (take j x.lines)) f ∙ ap (meets x (take j x.lines) s) h) ∙ k in
      let n : is_other_row x s b (row_named x l) ≡ false = none_at (λ line. is_other_row x s b (row_named x line)) (take j x.lines) i l k2 (slice_get-take x.lines i j before ∙ at) in
      let o : (not (s == r) && is_same_place b (slice_get x.rows r)) ≡ false = sym (ap (is_other_row x s b) e) ∙ n in
      elim (cases_Bool (s == r)) [
        | inl t ↦ eqb-true s r t
        | inr z ↦ absurd (both_ways _ o (and_from _ _ (not_from_false _ z) (ap (is_same_place b) g ∙ same)))
      ]

  same_rows : (r s : ℕ) (a b : Row) → is_row_named x x.lines r ≡ true → is_row_named x x.lines s ≡ true → slice_get x.rows r ≡ Some a → slice_get x.rows s ≡ Some b → IsSamePlace (resource_of a) (resource_of b) → r ≡ s
  same_rows r s a b t u g h same =
      let e = named_line x r t in
      let f = named_line x s u in
      let ab : is_same_place a (Some b) ≡ true = and_from _ _ (and_from _ _ (eq-eqb _ _ (same_class a.class b.class same.class)) (eq-eqb _ _ same.space)) (eq-eqb _ _ same.lower) in
      let ba : is_same_place b (Some a) ≡ true = and_from _ _ (and_from _ _ (eq-eqb _ _ (sym (same_class a.class b.class same.class))) (eq-eqb _ _ (sym same.space))) (eq-eqb _ _ (sym same.lower)) in
      elim (cases_order e.i f.i) [
        | inr (inl l) ↦ sym (other_place e.i f.i r s e.item f.item a b l e.at f.at e.holds f.holds g h ba)
        | inr (inr l) ↦ other_place f.i e.i s r f.item e.item b a l f.at e.at f.holds e.holds h g ab
        | inl k ↦ same_Some r s (sym e.holds ∙ ap (row_named x) (same_line x counts read e.i f.i e.item f.item e.at f.at k) ∙ f.holds)
      ]

  pub resources_apart : (r s : ℕ) (a b : Resource) → slice_get (program_of x counts).resources r ≡ Some a → slice_get (program_of x counts).resources s ≡ Some b → IsSamePlace a b → r ≡ s
  unfolding program_of
  resources_apart r s a b e f same =
      let v = resource_row x counts read r a e in
      let w = resource_row x counts read s b f in
      let same' : IsSamePlace (resource_of v.row) (resource_of w.row) = subst (λ q. IsSamePlace (resource_of v.row) q) (sym w.resource_is) (subst (λ q. IsSamePlace q b) (sym v.resource_is) same) in
      sym v.place ∙ ap (rank x) (same_rows v.r w.r v.row w.row v.named w.named v.at w.at same') ∙ w.place

  pub few_resources : length (program_of x counts).resources ≤ 1024
  unfolding program_of
  few_resources =
      let l = last_line x counts read in
      let k = ltb-false _ _ (keeps23 x sound l.i l.line l.at) in
      let same : rows_named x (take l.i x.lines ++ l.line ∷ []) ≡ rows_named x x.lines = ap (rows_named x) (take_last x.lines l.i l.line l.at l.is_last) in
      let short : length (resources x) ≤ length (range_with_len 0 (rows_named x x.lines)) = filter_map_short (resource_by x counts read) (range_with_len 0 (rows_named x x.lines)) in
      omega (arith, k, same, short, range_length 0 (rows_named x x.lines))
