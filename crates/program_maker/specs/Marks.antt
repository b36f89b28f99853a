-- Which rows and variables are named, as tables.
use Rattle.std.specs.Prelude.{ℕ, ◌≡◌, ◌<◌, ◌||◌, List, length, map, filter, get_or, take, Bool, false, Option, Some, None}
use Rattle.std.specs.List.{count_by, range_with_len}
use Rattle.profile_lines.specs.Pool.{Pool}
use Rattle.profile_tables.specs.Places.{words_at}
use Rattle.profile_tables.specs.Resources.{is_row}
use Rattle.profile_tables.specs.declared.place.Place.{Place}

-- the answers of a test below a bound
pub record AreMarks (n : ℕ) (test : ℕ → Bool) (marks : List Bool) : Type 0 where
  pub same_length : length marks ≡ n
  pub each : (v : ℕ) → v < n → get_or marks v false ≡ test v

-- a place, if there is one, is marked
pub record IsMarked (place : Option ℕ) (old new : List Bool) : Type 0 where
  pub same_length : length new ≡ length old
  pub each : (v : ℕ) → v < length old → get_or new v false ≡ (get_or old v false || is_row v place)

abbrev pub variable_of : Option Place → Option ℕ
variable_of None = None
variable_of (Some place) = Some place.variable

abbrev pub is_set : Bool → Bool
is_set mark = mark

-- how many marks are set before each place
pub record AreCounts (marks : List Bool) (counts : List ℕ) : Type 0 where
  pub same_length : length counts ≡ length marks
  pub each : (v : ℕ) → v < length marks → get_or counts v 0 ≡ count_by is_set (take v marks)

-- the words of the variables whose marks are set
abbrev pub words_marked : Pool → List Bool → List ℕ
words_marked x marks = map (words_at x) (filter (λ v. get_or marks v false) (range_with_len 0 (length marks)))
