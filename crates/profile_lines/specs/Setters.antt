-- Which line gives a value.
use Rattle.std.specs.Prelude.{ℕ, ◌≡◌, ◌<◌, ◌==◌, List, length, get_or, slice_get, Bool, false, nat_lt, if◌then◌else◌, Option, Some, None, find}
use Rattle.llvm_bodies.specs.declared.line.Line.{Line}

abbrev pub is_value : ℕ → Option ℕ → Bool
is_value v None = false
is_value v (Some number) = number == v

abbrev pub sets : ℕ → Line → Bool
sets v line = is_value v line.value

-- the line that gives a value of a body, of which there are so many
unfoldable pub setter_in : List Line → ℕ → ℕ → Option Line
setter_in lines values v = if nat_lt v values then find (sets v) lines else None

-- ---- the table

abbrev pub line_at : List Line → Option ℕ → Option Line
line_at all None = None
line_at all (Some i) = slice_get all i

-- each number below the table's length has the place of the first of these lines that gives it
pub record AreSetters (all lines : List Line) (table : List (Option ℕ)) : Type 0 where
  pub each : (v : ℕ) → v < length table → line_at all (get_or table v None) ≡ find (sets v) lines

-- the line at a place is noted
pub record IsNoted (i : ℕ) (line : Line) (old new : List (Option ℕ)) : Type 0 where
  pub same_length : length new ≡ length old
  pub each : (v : ℕ) → v < length old → get_or new v None ≡ (if sets v line then Some i else get_or old v None)
