-- What the marks of variables count.
use Rattle.std.proofs.Common.{ℕ, zero, suc, ◌≡◌, ◌<◌, ◌≤◌, ◌+◌, refl, sym, ap, ◌∙◌, arith, List, [], ◌∷◌, ◌++◌, map, filter, count_by, take, length, get_or, Bool, true, false, cond}
use Rattle.std.specs.List.{range_with_len}
use Rattle.std.proofs.lemmas.List.{map-append}
use Rattle.std.proofs.lemmas.List.Elements.{filter-append}
use Rattle.std.proofs.lemmas.List.Sums.{sum_by_more, sum_by_push}
use Rattle.profile_lines.specs.Pool.{Pool}
use Rattle.profile_tables.specs.Places.{words_at}
use Rattle.program_maker.specs.Marks.{AreMarks, is_set}
use Rattle.program_maker.proofs.ListLaws.{range_more}

-- ---- counts

-- what is known before a place
pub record IsCounting (marks : List Bool) (i count : ℕ) (counts : List ℕ) : Type 0 where
  pub below : count ≤ i
  pub count_is : count ≡ count_by is_set (take i marks)
  pub same_length : length counts ≡ i
  pub each : (v : ℕ) → v < i → get_or counts v 0 ≡ count_by is_set (take v marks)

-- marks are set before a place as often as their test holds of numbers below it
pub marks_count : (n : ℕ) (test : ℕ → Bool) (marks : List Bool) → AreMarks n test marks → (v : ℕ) → v ≤ n → count_by is_set (take v marks) ≡ count_by test (range_with_len 0 v)
marks_count n test marks a zero h = refl
marks_count n test marks a (suc v) h =
    let one : suc v ≡ v + 1 = omega arith in
    let left = ap (λ k. count_by is_set (take k marks)) one ∙ sum_by_more (λ m. cond (is_set m) 1 0) marks v false (omega (arith, a.same_length)) in
    let right = ap (λ k. count_by test (range_with_len 0 k)) one ∙ ap (count_by test) (range_more v) ∙ sum_by_push (λ k. cond (test k) 1 0) (range_with_len 0 v) v in
    let same : ◌≡◌ {A = ℕ} (cond (get_or marks v false) 1 0) (cond (test v) 1 0) = ap (λ b. cond b 1 0) (a.each v (omega arith)) in
    omega (arith, left, right, same, marks_count n test marks a v (omega arith))

-- ---- words

words_of : (x : Pool) (b : Bool) (v : ℕ) → map (words_at x) (cond b (v ∷ []) []) ≡ cond b (words_at x v ∷ []) []
words_of x true v = refl
words_of x false v = refl

abbrev pub words_so_far : Pool → List Bool → ℕ → List ℕ
words_so_far x marks n = map (words_at x) (filter (λ v. get_or marks v false) (range_with_len 0 n))

pub words_more : (x : Pool) (marks : List Bool) (v : ℕ) → words_so_far x marks (v + 1) ≡ words_so_far x marks v ++ cond (get_or marks v false) (words_at x v ∷ []) []
words_more x marks v = ap (λ l. map (words_at x) (filter (λ k. get_or marks k false) l)) (range_more v)
    ∙ ap (map (words_at x)) (filter-append (λ k. get_or marks k false) (range_with_len 0 v) (v ∷ []))
    ∙ map-append (words_at x) (filter (λ k. get_or marks k false) (range_with_len 0 v)) (cond (get_or marks v false) (v ∷ []) [])
    ∙ ap (λ l. words_so_far x marks v ++ l) (words_of x (get_or marks v false) v)

pub words_next : (x : Pool) (marks : List Bool) (v : ℕ) (b : Bool) (old new : List ℕ) → old ≡ words_so_far x marks v → get_or marks v false ≡ b → new ≡ old ++ cond b (words_at x v ∷ []) [] → new ≡ words_so_far x marks (v + 1)
words_next x marks v b old new a is e = e ∙ ap (λ (l : List ℕ). l ++ cond b (words_at x v ∷ []) []) a ∙ ap (λ (c : Bool). words_so_far x marks v ++ cond c (words_at x v ∷ []) []) (sym is) ∙ sym (words_more x marks v)
