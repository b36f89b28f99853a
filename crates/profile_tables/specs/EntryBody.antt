-- The body of the entry function, and the tables over its lines: who sets a value, and of which kind a value is.
use Rattle.std.specs.Prelude.{ℕ, List, get_or, Option}
use Rattle.llvm_bodies.specs.declared.line.Line.{Line}
use Rattle.llvm_facts.specs.declared.facts.Row.{Row}
use Rattle.profile_lines.specs.Pool.{Pool}
use Rattle.profile_lines.specs.Setters.{setter_in}
use Rattle.profile_lines.specs.Values.{known_values, unknown}
use Rattle.profile_lines.specs.declared.known.ValueKind.{ValueKind}

-- What stands before the instructions, how many values the body sees, its instructions, how many blocks it declares, and the resources that the metadata declare.
pub record EntryBody : Type 0 where
  pub pool : Pool
  pub values : ℕ
  pub lines : List Line
  pub blocks : ℕ
  pub rows : List Row

-- the kind of a value by its number
abbrev pub kind_at : EntryBody → ℕ → ValueKind
kind_at x v = (get_or (known_values x.pool x.values x.lines) v unknown).kind

-- the line that gives a value
abbrev pub setter : EntryBody → ℕ → Option Line
setter x v = setter_in x.lines x.values v
