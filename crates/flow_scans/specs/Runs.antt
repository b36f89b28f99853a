-- Lists of numbers as runs of equal numbers.
use Rattle.std.specs.Prelude.{ℕ, ◌≡◌, ◌≢◌, ◌+◌, ◌-◌, ◌<◌, ◌⊎◌, List, length, slice_index, slice_index_or, map, fold, All, nat_le, if◌then◌else◌}
use Rattle.std.specs.List.{range_with_len}
use Rattle.std.specs.List.Sorted.{IsNonDecreasingBy}
use Rattle.flow_scans.specs.declared.runs.Run.{Run}

-- a run begins at the first place, and where a number differs from the one before
abbrev pub Begins : List ℕ → ℕ → Type 0
Begins numbers place = (place ≡ 0) ⊎ (slice_index numbers (place - 1) ≢ slice_index numbers place)

-- the number of the last run that begins at or before the place
abbrev pub number_at : List Run → ℕ → ℕ
number_at runs place = fold (λ number run. if nat_le run.first place then run.number else number) 0 runs

-- the numbers at the places before the count
abbrev pub numbers_of : List Run → ℕ → List ℕ
numbers_of runs count = map (number_at runs) (range_with_len 0 count)

abbrev pub run_at : List Run → ℕ → Run
run_at runs i = slice_index_or runs i (record { first = 0; number = 0 })

-- runs in order, the first of them at the first place, and none with the number of the one before
pub record AreRuns (runs : List Run) (count : ℕ) : Type 0 where
  pub some : 0 < count → 0 < length runs
  pub start : (run_at runs 0).first ≡ 0
  pub ordered : IsNonDecreasingBy (λ run. run.first) runs
  pub within : All (λ run. run.first < count) runs
  pub differ : (i : ℕ) → i + 1 < length runs → (run_at runs i).number ≢ (run_at runs (i + 1)).number
