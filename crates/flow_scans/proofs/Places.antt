-- How runs grow number by number, and where a place's run is found.
use Rattle.std.proofs.Common.{ℕ, zero, suc, ◌≡◌, ◌<◌, ◌≤◌, ◌+◌, ◌-◌, ◌∷◌, ◌++◌, [], inl, inr, refl, sym, ap, subst, ◌∙◌, arith, List, length, get_or, cond, leb, fold, true, false}
use Rattle.std.proofs.lemmas.Bool.{cases_lt, le-leb}
use Rattle.std.proofs.lemmas.List.{length_push}
use Rattle.std.proofs.lemmas.List.Elements.{All-push}
use Rattle.std.proofs.lemmas.List.Sorted.{IsNonDecreasingBy-push, IsPartitionedBy-leb}
use Rattle.std.specs.List.Sorted.{IsPartitionPoint, IsPartitionedBy}
use Rattle.flow_scans.proofs.Tables.{compared, is_less, is_same, is_more}
use Rattle.std.specs.List.{All, AllWithin}
use Rattle.std.proofs.lemmas.List.Sums.{fold-append}
use Rattle.std.proofs.lemmas.Grind.{common_steps}
use Rattle.std.proofs.lemmas.Bool.Decides.{nat_tests}
use Rattle.flow_scans.specs.declared.runs.Run.{Run}
use Rattle.flow_scans.specs.Runs.{Begins, number_at, run_at, AreRuns}

pub number_at-push : (runs : List Run) (run : Run) (place : ℕ) → number_at (runs ++ run ∷ []) place ≡ cond (leb run.first place) run.number (number_at runs place)
number_at-push runs run place = fold-append _ 0 runs (run ∷ [])

-- runs that have not begun leave the number as it is
idle : (runs : List Run) (place number : ℕ) → All (λ run. leb run.first place ≡ false) runs → fold (λ n run. cond (leb run.first place) run.number n) number runs ≡ number
idle [] place number none = refl
idle (run ∷ runs) place number none = rw (none 0 run (omega arith)) (idle runs place number (λ k d h. none (suc k) d (omega arith)))

found_from : (runs : List Run) (place number i : ℕ) (d : Run) → i < length runs → leb (get_or runs i d).first place ≡ true → AllWithin (λ run. leb run.first place ≡ false) runs (i + 1) (length runs)
    → fold (λ n run. cond (leb run.first place) run.number n) number runs ≡ (get_or runs i d).number
found_from [] place number i d below begun rest = absurd (omega arith)
found_from (run ∷ runs) place number zero d below begun rest = rw begun (idle runs place run.number (λ k e h. rest (suc k) e (omega arith) (omega arith)))
found_from (run ∷ runs) place number (suc i) d below begun rest = found_from runs place (cond (leb run.first place) run.number number) i d (omega arith) begun (λ k e low high. rest (suc k) e (omega arith) (omega arith))

-- the last run gives the number of each place that no run lies behind
latest : (runs : List Run) (place : ℕ) (d : Run) → 0 < length runs → All (λ run. run.first ≤ place) runs → number_at runs place ≡ (get_or runs (length runs - 1) d).number
latest runs place d some begun = found_from runs place 0 (length runs - 1) d (omega arith) (le-leb _ _ (begun (length runs - 1) d (omega arith))) (λ k e low high. absurd (omega arith))

pub parted : (runs slice : List Run) (count place : ℕ) → slice ≡ runs → AreRuns runs count → IsPartitionedBy (λ run. leb run.first place) slice
parted runs slice count place is are = subst (λ (xs : List Run). IsPartitionedBy (λ run. leb run.first place) xs) (sym is) (IsPartitionedBy-leb (λ run. run.first) runs place are.ordered)

-- what a search for the runs that have begun finds
pub begun_run : (runs slice : List Run) (count place begun : ℕ) (d : Run) → slice ≡ runs → AreRuns runs count → place < count → begun ≤ length slice
    → IsPartitionPoint (λ run. leb run.first place ≡ true) (λ run. leb run.first place ≡ false) slice begun → (1 ≤ begun) × (number_at runs place ≡ (get_or runs (begun - 1) d).number)
begun_run runs slice count place begun d is are inside within found = (
  some,
  found_from runs place 0 (begun - 1) d (omega (arith, some, inner)) (point.0 (begun - 1) d (omega arith) (omega (arith, some))) (λ k e low high. point.1 k e (omega (arith, some)) high),
) where
  inner : begun ≤ length runs
  inner = subst (λ (xs : List Run). begun ≤ length xs) is within

  point : IsPartitionPoint (λ run. leb run.first place ≡ true) (λ run. leb run.first place ≡ false) runs begun
  point = subst (λ (xs : List Run). IsPartitionPoint (λ run. leb run.first place ≡ true) (λ run. leb run.first place ≡ false) xs begun) is found

  some : 1 ≤ begun
  some = elim (cases_lt 0 begun) [
    | inl h ↦ h
    | inr none ↦ (
        let late : leb (run_at runs 0).first place ≡ false = point.1 0 (record { first = 0; number = 0 }) (omega arith) (are.some (omega arith)) in
        let early : leb (run_at runs 0).first place ≡ true = le-leb _ _ (omega (arith, are.start)) in
        cc)
  ]

abbrev pub AreSame : List ℕ → List Run → ℕ → Type 0
AreSame numbers runs count = (k : ℕ) → k < count → number_at runs k ≡ get_or numbers k 0

begun_before : (runs : List Run) (count place : ℕ) → AreRuns runs count → count ≤ place + 1 → All (λ run. run.first ≤ place) runs
begun_before runs count place are le k d h = omega (arith, are.within k d h)

pub runs_kept : (numbers : List ℕ) (runs : List Run) (place : ℕ) → (Begins numbers place → ⊥) → AreRuns runs place → AreSame numbers runs place → AreRuns runs (place + 1) × AreSame numbers runs (place + 1)
runs_kept numbers runs place stays are same = (
  record { some = λ h. some; start = are.start; ordered = are.ordered; within = λ k d h. omega (arith, are.within k d h); differ = are.differ },
  λ k below. elim (cases_lt k place) [
    | inl low ↦ same k low
    | inr high ↦ (let is : place ≡ k = omega arith in subst (λ (n : ℕ). number_at runs n ≡ get_or numbers n 0) is here)
  ],
) where
  later : 0 < place
  later = elim (cases_lt 0 place) [ inl h ↦ h | inr h ↦ absurd (stays (inl (omega arith))) ]

  some : 0 < length runs
  some = are.some later

  equal : get_or numbers (place - 1) 0 ≡ get_or numbers place 0
  equal = elim (compared (get_or numbers (place - 1) 0) (get_or numbers place 0)) [
    | is_less h ↦ absurd (stays (inr (omega arith)))
    | is_same is ↦ is
    | is_more h ↦ absurd (stays (inr (omega arith)))
  ]

  here : number_at runs place ≡ get_or numbers place 0
  here =
      let d : Run = record { first = 0; number = 0 } in
      latest runs place d some (begun_before runs place place are (omega arith)) ∙ sym (latest runs (place - 1) d some (begun_before runs place (place - 1) are (omega arith))) ∙ same (place - 1) (omega (arith, later)) ∙ equal

pub runs_more : (numbers : List ℕ) (runs : List Run) (run : Run) (place : ℕ) → Begins numbers place → run.first ≡ place → run.number ≡ get_or numbers place 0 → AreRuns runs place → AreSame numbers runs place
    → AreRuns (runs ++ run ∷ []) (place + 1) × AreSame numbers (runs ++ run ∷ []) (place + 1)
runs_more numbers runs run place begins first number are same = (
  record {
    some = λ h. omega (arith, longer);
    start = elim (cases_lt 0 (length runs)) [
      | inl some ↦ ap (λ (r : Run). r.first) (old 0 some) ∙ are.start
      | inr none ↦ (let is : length runs ≡ 0 = omega arith in ap (λ (r : Run). r.first) (subst (λ (n : ℕ). run_at (runs ++ run ∷ []) n ≡ run) is last) ∙ first ∙ early none)
    ];
    ordered = IsNonDecreasingBy-push (λ (r : Run). r.first) runs run are.ordered (λ d some. omega (arith, are.within (length runs - 1) d (omega arith)));
    within = All-push (λ (r : Run). r.first < place + 1) runs run (λ k d h. omega (arith, are.within k d h)) (omega arith);
    differ = λ i below. elim (cases_lt (i + 1) (length runs)) [
      | inl low ↦ rw (old i (omega arith), old (i + 1) low) (are.differ i low)
      | inr high ↦ new_differs i (omega (arith, longer))
    ];
  },
  λ k below. number_at-push runs run k ∙ (elim (cases_lt k place) [
    | inl low ↦ (let late : leb run.first k ≡ false = grind (arith, nat_tests) in rw late (same k low))
    | inr high ↦ (
        let begun : leb run.first k ≡ true = le-leb run.first k (omega arith) in
        let is : place ≡ k = omega arith in
        rw begun (number ∙ ap (λ (n : ℕ). get_or numbers n 0) is))
  ]),
) where
  longer : length (runs ++ run ∷ []) ≡ length runs + 1
  longer = length_push runs run

  old : (i : ℕ) → i < length runs → run_at (runs ++ run ∷ []) i ≡ run_at runs i
  old i h = grind (arith, common_steps)

  last : run_at (runs ++ run ∷ []) (length runs) ≡ run
  last = grind (arith, common_steps)

  early : length runs ≤ 0 → place ≡ 0
  early none = elim (cases_lt 0 place) [ inl h ↦ absurd (omega (arith, are.some h)) | inr h ↦ omega arith ]

  new_differs : (i : ℕ) → i + 1 ≡ length runs → (run_at (runs ++ run ∷ []) i).number ≡ (run_at (runs ++ run ∷ []) (i + 1)).number → ⊥
  new_differs i end equal = elim begins [
    | inl none ↦ (let d : Run = record { first = 0; number = 0 } in omega (arith, are.within i d (omega arith)))
    | inr differs ↦ (
        let d : Run = record { first = 0; number = 0 } in
        let some : 0 < place = elim (cases_lt 0 place) [ inl h ↦ h | inr h ↦ absurd (omega (arith, are.within i d (omega arith))) ] in
        let at : length runs - 1 ≡ i = omega arith in
        let before = same (place - 1) (omega arith) in
        let by_last = latest runs (place - 1) d (omega arith) (begun_before runs place (place - 1) are (omega arith)) in
        let left = ap (λ (r : Run). r.number) (old i (omega arith)) in
        let right = ap (λ (r : Run). r.number) (subst (λ (n : ℕ). run_at (runs ++ run ∷ []) n ≡ run) (sym end) last) in
        differs (sym before ∙ by_last ∙ ap (λ (n : ℕ). (run_at runs n).number) at ∙ sym left ∙ equal ∙ right ∙ number))
  ]
