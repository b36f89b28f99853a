-- How many keys of a kind a table has, where each stands once and has a number of its own below a limit.
use Rattle.std.proofs.Common.{◌≡◌, ℕ, zero, suc, ◌+◌, ◌<◌, ◌≤◌, Bool, true, false, List, [], ◌∷◌, ◌++◌, Option, Some, None, refl, sym, ap, ◌∙◌, subst, arith, inl, inr}
use Rattle.std.specs.Prelude.{◌⊎◌, ◌||◌, nat_eq, if◌then◌else◌}
use Rattle.dxil_form.specs.declared.program.Program.{Program}
use Rattle.spirv_meaning.specs.Names.{is_some_at}
use Rattle.spirv_code.specs.declared.key.Global.{Global}
use Rattle.spirv_code.specs.Keys.{same_global, has_key, add_key}
use Rattle.spirv_code.specs.Needed.{whole, add_each, add_whole, add_all}
use Rattle.line_runs.proofs.Tests.{true_false}
use Rattle.frame_facts.proofs.Searches.{eq_told, eq_same}
use Rattle.frame_facts.proofs.Tables.{global_told}

-- ---- numbers that pass a test

abbrev count_below : ℕ → (ℕ → Bool) → ℕ
count_below zero test = 0
count_below (suc n) test = (if test n then 1 else 0) + count_below n test

count_most : (n : ℕ) (test : ℕ → Bool) → count_below n test ≤ n
count_most zero test = omega arith
count_most (suc n) test = by_test (test n) (count_most n test)
  where
    by_test : (t : Bool) → count_below n test ≤ n → (if t then 1 else 0) + count_below n test ≤ suc n
    by_test true ih = omega (arith, ih)
    by_test false ih = omega (arith, ih)

abbrev Within : (ℕ → Bool) → (ℕ → Bool) → Type 0
Within f h = (k : ℕ) → f k ≡ true → h k ≡ true

count_within : (n : ℕ) (f h : ℕ → Bool) → Within f h → count_below n f ≤ count_below n h
count_within zero f h w = omega arith
count_within (suc n) f h w = by_tests (f n) (h n) (w n) (count_within n f h w)
  where
    by_tests : (s t : Bool) → (s ≡ true → t ≡ true) → count_below n f ≤ count_below n h → (if s then 1 else 0) + count_below n f ≤ (if t then 1 else 0) + count_below n h
    by_tests true true w ih = omega (arith, ih)
    by_tests true false w ih = absurd (true_false (sym (w refl)))
    by_tests false true w ih = omega (arith, ih)
    by_tests false false w ih = omega (arith, ih)

-- one more passes
count_more : (n : ℕ) (f h : ℕ → Bool) (r : ℕ) → Within f h → r < n → f r ≡ false → h r ≡ true → suc (count_below n f) ≤ count_below n h
count_more zero f h r w less new there = absurd (omega (arith, less))
count_more (suc n) f h r w less new there =
    by_place (last_or (omega (arith, less))) (λ low. count_more n f h r w low new there)
  where
    last_or : r < suc n → (r ≡ n) ⊎ (r < n)
    last_or less = grind arith

    at_last : (s t : Bool) → s ≡ false → t ≡ true → suc ((if s then 1 else 0) + count_below n f) ≤ (if t then 1 else 0) + count_below n h
    at_last true t e g = absurd (true_false e)
    at_last false true e g = let rest = count_within n f h w in omega (arith, rest)
    at_last false false e g = absurd (true_false (sym g))

    before : suc (count_below n f) ≤ count_below n h → (s t : Bool) → (s ≡ true → t ≡ true) → suc ((if s then 1 else 0) + count_below n f) ≤ (if t then 1 else 0) + count_below n h
    before ih true true w' = omega (arith, ih)
    before ih true false w' = absurd (true_false (sym (w' refl)))
    before ih false true w' = omega (arith, ih)
    before ih false false w' = omega (arith, ih)

    by_place : (r ≡ n) ⊎ (r < n) → (r < n → suc (count_below n f) ≤ count_below n h) → suc (count_below (suc n) f) ≤ count_below (suc n) h
    by_place (inl e) ih =
        at_last (f n) (h n) (subst (λ k. f k ≡ false) e new) (subst (λ k. h k ≡ true) e there)
    by_place (inr low) ih = before (ih low) (f n) (h n) (w n)

-- ---- each key stands once

abbrev pub Distinct : List Global → Type 0
Distinct [] = Unit {0}
Distinct (g ∷ table) = (has_key table g ≡ false) × Distinct table

neither : (s t : Bool) → (s || t) ≡ false → (s ≡ false) × (t ≡ false)
neither true t e = absurd (true_false e)
neither false t e = (refl, e)

-- what is told apart from a key is so the other way round
other_way : (g h : Global) → same_global g h ≡ false → same_global h g ≡ false
other_way g h e = by_test (same_global h g) refl
  where
    by_test : (t : Bool) → same_global h g ≡ t → t ≡ false
    by_test false is = refl
    by_test true is =
        let same = global_told h g is in
        let own : same_global g g ≡ true = subst (λ x. same_global x g ≡ true) same is in
        absurd (true_false (sym (subst (λ x. same_global g x ≡ true) (sym same) own) ∙ e))

absent : (table : List Global) (x g : Global) → has_key table x ≡ false → same_global x g ≡ false → has_key (table ++ g ∷ []) x ≡ false
absent [] x g none other = ap (λ t. t || false) other
absent (h ∷ table) x g none other =
    let both = neither (same_global x h) (has_key table x) none in
    ap (λ t. t || has_key (table ++ g ∷ []) x) both.0 ∙ absent table x g both.1 other

distinct_last : (table : List Global) (g : Global) → Distinct table → has_key table g ≡ false → Distinct (table ++ g ∷ [])
distinct_last [] g h new = (refl, tt)
distinct_last (x ∷ table) g h new =
    let both = neither (same_global g x) (has_key table g) new in
    (absent table x g h.0 (other_way g x both.0), distinct_last table g h.1 both.1)

distinct_add : (table : List Global) (g : Global) → Distinct table → Distinct (add_key table g)
distinct_add table g h = by_test (has_key table g) refl
  where
    by_test : (t : Bool) → has_key table g ≡ t → Distinct (if t then table else table ++ g ∷ [])
    by_test true e = h
    by_test false e = distinct_last table g h e

distinct_each : (table gs : List Global) → Distinct table → Distinct (add_each table gs)
distinct_each table [] h = h
distinct_each table (g ∷ gs) h = distinct_each (add_key table g) gs (distinct_add table g h)

distinct_whole : (p : Program) (table : List Global) (g : Global) → Distinct table → Distinct (add_whole p table g)
distinct_whole p table g h = by_test (has_key table g)
  where
    by_test : (t : Bool) → Distinct (if t then table else add_each table (whole p g))
    by_test true = h
    by_test false = distinct_each table (whole p g) h

pub distinct_all : (p : Program) (table gs : List Global) → Distinct table → Distinct (add_all p table gs)
distinct_all p table [] h = h
distinct_all p table (g ∷ gs) h = distinct_all p (add_whole p table g) gs (distinct_whole p table g h)

-- ---- keys of a kind: those that have a number

abbrev pub one_of : Option ℕ → ℕ
one_of None = 0
one_of (Some r) = 1

abbrev pub counted : (Global → Option ℕ) → List Global → ℕ
counted kind [] = 0
counted kind (g ∷ table) = one_of (kind g) + counted kind table

abbrev taken : (Global → Option ℕ) → List Global → ℕ → Bool
taken kind [] k = false
taken kind (g ∷ table) k = is_some_at (kind g) k || taken kind table k

-- all numbers are below the limit
abbrev pub AreBelow : (Global → Option ℕ) → ℕ → List Global → Type 0
AreBelow kind limit [] = Unit {0}
AreBelow kind limit (g ∷ table) = ((r : ℕ) → kind g ≡ Some r → r < limit) × AreBelow kind limit table

-- a key of the kind is told by its number
module _ (kind : Global → Option ℕ) (key : ℕ → Global) (is : (g : Global) (r : ℕ) → kind g ≡ Some r → g ≡ key r) (self : (r : ℕ) → same_global (key r) (key r) ≡ true) where
  number_there : (o : Option ℕ) (r : ℕ) → is_some_at o r ≡ true → o ≡ Some r
  number_there None r e = absurd (true_false (sym e))
  number_there (Some x) r e = ap Some (eq_told x r e)

  not_taken : (table : List Global) (g : Global) (r : ℕ) → kind g ≡ Some r → has_key table g ≡ false → taken kind table r ≡ false
  not_taken [] g r e none = refl
  not_taken (h ∷ table) g r e none =
      let both = neither (same_global g h) (has_key table g) none in
      by_test (is_some_at (kind h) r) refl (not_taken table g r e both.1) both.0
    where
      by_test : (t : Bool) → is_some_at (kind h) r ≡ t → taken kind table r ≡ false → same_global g h ≡ false → (t || taken kind table r) ≡ false
      by_test false at rest other = rest
      by_test true at rest other =
          let mine = is g r e in
          let its = is h r (number_there (kind h) r at) in
          let same : same_global g h ≡ true = subst (λ x. same_global x h ≡ true) (sym mine) (subst (λ x. same_global (key r) x ≡ true) (sym its) (self r)) in
          absurd (true_false (sym same ∙ other))

  few_taken : (limit : ℕ) (table : List Global) → Distinct table → AreBelow kind limit table → counted kind table ≤ count_below limit (taken kind table)
  few_taken limit [] d low = omega arith
  few_taken limit (g ∷ table) d low = by_number (kind g) refl (few_taken limit table d.1 low.1)
    where
      by_number : (o : Option ℕ) → kind g ≡ o → counted kind table ≤ count_below limit (taken kind table) → one_of o + counted kind table ≤ count_below limit (λ k. is_some_at o k || taken kind table k)
      by_number None e ih = omega (arith, ih)
      by_number (Some r) e ih =
          let more = count_more limit (taken kind table) (λ k. nat_eq r k || taken kind table k) r (λ k t. or_so (nat_eq r k) (taken kind table k) t) (low.0 r e) (not_taken table g r e d.0) (ap (λ t. t || taken kind table r) (eq_same r)) in
          omega (arith, ih, more)
        where
          or_so : (s t : Bool) → t ≡ true → (s || t) ≡ true
          or_so true t e = refl
          or_so false t e = e

  pub few_of_kind : (limit : ℕ) (table : List Global) → Distinct table → AreBelow kind limit table → counted kind table ≤ limit
  few_of_kind limit table d low =
      let fits = few_taken limit table d low in
      let most = count_most limit (taken kind table) in
      omega (arith, fits, most)
