-- The groupshared arrays of the program are the variables that the body names, and in their bounds.
use Rattle.std.proofs.Common.{ℕ, ◌≡◌, ◌+◌, ◌-◌, ◌<◌, ◌≤◌, inl, inr, refl, sym, subst, ap, ◌∙◌, arith, Bool, true, false, cond, ◌&&◌, ◌==◌, nat_lt, List, [], ◌∷◌, ◌++◌, length, take, get_or, slice_get, Option, Some, None, is_some, unwrap_or, count_by, sum, All}
use Rattle.std.specs.List.{range_with_len}
use Rattle.std.proofs.lemmas.Bool.{both_ways, and_parts, cases_lt, eqb-true, eq-eqb, ltb-true, ltb-false, lt-ltb, le-ltb}
use Rattle.std.proofs.lemmas.List.{length-map}
use Rattle.std.proofs.lemmas.List.Sums.{sum-map, length-filter}
use Rattle.std.proofs.lemmas.Option.{slice_get-get_or}
use Rattle.dx_base.specs.First.{IsSound}
use Rattle.dxil_form.specs.Sound.{SharedFits}
use Rattle.llvm_types.specs.declared.kind.LlvmType.{LlvmType}
use Rattle.llvm_bodies.specs.declared.line.Line.{Line}
use Rattle.llvm_values.specs.declared.global.Global.{Global}
use Rattle.llvm_values.specs.declared.global.Global.TheVariants.{Variable, Function, Constant}
use Rattle.profile_lines.specs.Pool.{stated}
use Rattle.profile_tables.specs.declared.place.Place.{Place}
use Rattle.profile_tables.specs.EntryBody.{EntryBody}
use Rattle.profile_tables.specs.Places.{words_of, words_in, words_at, at_least_one, array_of, is_i32, is_shared, may_begin_with, is_of, names, is_named_by, place_named, variables, place_among, words_named}
use Rattle.profile_tables.specs.Read.{IsRead, IsAt}
use Rattle.profile_rules.specs.Rules.{Broken}
use Rattle.stated_program.specs.Accesses.{shared}
use Rattle.stated_program.specs.Stated.{program_of}
use Rattle.program_sound.proofs.Lists.{any_at, any_from, filter_at, map_at, range_from, take_range, take_last, sum_filtered, count_before}
use Rattle.program_sound.proofs.Clear.{keeps11}
use Rattle.program_sound.proofs.Ends.{last_line}
use Rattle.program_sound.proofs.PlaceFits.{place_shared}

-- ---- words

least_words : (o : Option ℕ) → is_some (at_least_one o) ≡ true → 1 ≤ unwrap_or (at_least_one o) 0
least_words None e = cc
least_words (Some n) e = go (nat_lt 0 n) refl e where
  go : (b : Bool) → nat_lt 0 n ≡ b → is_some (cond b (Some n) None) ≡ true → 1 ≤ unwrap_or (cond b (Some n) None) 0
  go true t f = omega (arith, ltb-true 0 n t)
  go false t f = cc

words_least : (all : List LlvmType) (ty : ℕ) → is_some (words_of all ty) ≡ true → 1 ≤ unwrap_or (words_of all ty) 0
words_least all ty e = go (is_i32 (slice_get all ty)) e where
  go : (b : Bool) → is_some (cond b (Some 1) (at_least_one (array_of all ty))) ≡ true → 1 ≤ unwrap_or (cond b (Some 1) (at_least_one (array_of all ty))) 0
  go true f = omega arith
  go false f = least_words (array_of all ty) f

module _ (x : EntryBody) (counts : List ℕ) (read : IsRead x counts) (sound : IsSound (Broken x)) where
  -- what is shared is a variable of the module
  constant_not_shared : (i : ℕ) (o : Option Global) → slice_get x.pool.constants i ≡ o → is_shared x.pool o ≡ false
  constant_not_shared i None e = refl
  constant_not_shared i (Some (Variable ty space init bit)) e = let z : false ≡ true = read.constants i (Variable ty space init bit) e in cc
  constant_not_shared i (Some (Function ty body name bit)) e = refl
  constant_not_shared i (Some (Constant ty kind bit)) e = refl

  shared_below : (v : ℕ) → is_shared x.pool (stated x.pool v) ≡ true → v < length x.pool.globals
  shared_below v e = elim (cases_lt v (length x.pool.globals)) [
    | inl l ↦ l
    | inr l ↦
        let s : stated x.pool v ≡ slice_get x.pool.constants (v - length x.pool.globals) = ap (λ b. cond b (slice_get x.pool.globals v) (slice_get x.pool.constants (v - length x.pool.globals))) (le-ltb v (length x.pool.globals) l) in
        absurd (both_ways _ (ap (is_shared x.pool) s ∙ constant_not_shared (v - length x.pool.globals) _ refl) e)
  ]

  shared_words : (v : ℕ) → is_shared x.pool (stated x.pool v) ≡ true → 1 ≤ words_at x.pool v
  shared_words v e =
      let s : stated x.pool v ≡ slice_get x.pool.globals v = ap (λ b. cond b (slice_get x.pool.globals v) (slice_get x.pool.constants (v - length x.pool.globals))) (lt-ltb v (length x.pool.globals) (shared_below v e)) in
      go (slice_get x.pool.globals v) (sym (ap (is_shared x.pool) s) ∙ e)
    where
      go : (o : Option Global) → is_shared x.pool o ≡ true → 1 ≤ words_in x.pool.types o
      go None f = cc
      go (Some (Variable ty space init bit)) f = words_least x.pool.types ty (and_parts (space == 3) (is_some (words_of x.pool.types ty)) (and_parts (space == 3 && is_some (words_of x.pool.types ty)) (may_begin_with x.pool.globals init) f).0).1
      go (Some (Function ty body name bit)) f = cc
      go (Some (Constant ty kind bit)) f = cc

  named_shared : (v : ℕ) → is_named_by x x.lines v ≡ true → is_shared x.pool (stated x.pool v) ≡ true
  named_shared v e = let f = any_at (names x v) x.lines e in go f.i f.item f.at (place_named x f.item) refl f.holds where
    go : (i : ℕ) (line : Line) → IsAt x i line → (o : Option Place) → place_named x line ≡ o → is_of v o ≡ true → is_shared x.pool (stated x.pool v) ≡ true
    go i line at None g h = cc
    go i line at (Some place) g h = ap (λ n. is_shared x.pool (stated x.pool n)) (sym (eqb-true place.variable v h)) ∙ place_shared x sound i line place at g

  -- the array of a place that a line names is in the program's list
  pub place_within : (i : ℕ) (line : Line) (place : Place) → IsAt x i line → place_named x line ≡ Some place → place_among x place.variable < length (program_of x counts).shared
  unfolding program_of
  place_within i line place at e =
      let named : is_named_by x x.lines place.variable ≡ true = any_from (names x place.variable) x.lines i line at (ap (is_of place.variable) e ∙ eq-eqb place.variable place.variable refl) in
      let below : place.variable < length x.pool.globals = shared_below place.variable (place_shared x sound i line place at e) in
      let z : 0 + place.variable ≡ place.variable = omega arith in
      let c : count_by (is_named_by x x.lines) (take place.variable (range_with_len 0 (length x.pool.globals))) < count_by (is_named_by x x.lines) (range_with_len 0 (length x.pool.globals))
      = count_before (is_named_by x x.lines) (range_with_len 0 (length x.pool.globals)) place.variable place.variable (range_from 0 (length x.pool.globals) place.variable below ∙ ap Some z) named in
      let t : count_by (is_named_by x x.lines) (take place.variable (range_with_len 0 (length x.pool.globals))) ≡ place_among x place.variable = ap (count_by (is_named_by x x.lines)) (take_range 0 (length x.pool.globals) place.variable (omega arith)) in
      omega (arith, c, t, length-filter (is_named_by x x.lines) (range_with_len 0 (length x.pool.globals)), length-map (variables x) (words_at x.pool))

  each_least : All (λ n. 1 ≤ n) (shared x)
  each_least k d l =
      let m = map_at (words_at x.pool) (variables x) k (get_or (shared x) k d) (slice_get-get_or (shared x) k d l) in
      let f = filter_at (is_named_by x x.lines) (range_with_len 0 (length x.pool.globals)) k m.0 m.1 in
      subst (λ n. 1 ≤ n) m.2 (shared_words m.0 (named_shared m.0 f.holds.1))

  pub shared_fits : SharedFits (program_of x counts).shared
  unfolding program_of
  shared_fits =
      let l = last_line x counts read in
      let k = ltb-false _ _ (keeps11 x sound l.i l.line l.at) in
      let same : words_named x (take l.i x.lines ++ l.line ∷ []) ≡ words_named x x.lines = ap (words_named x) (take_last x.lines l.i l.line l.at l.is_last) in
      let total : sum (shared x) ≡ words_named x x.lines = sum-map (words_at x.pool) (variables x) ∙ sum_filtered (is_named_by x x.lines) (words_at x.pool) (range_with_len 0 (length x.pool.globals)) in
      record { least = each_least; most = omega (arith, k, same, total) }
