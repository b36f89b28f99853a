-- The tables over the lines of a body, and how one line more changes them.
use Rattle.std.specs.Prelude.{ℕ, ◌≡◌, ◌<◌, ◌==◌, ◌||◌, ◌&&◌, List, [], length, get_or, Bool, false, if◌then◌else◌, Option, Some}
use Rattle.std.specs.List.{list_any, position_from}
use Rattle.llvm_bodies.specs.declared.line.Line.{Line}
use Rattle.llvm_facts.specs.declared.facts.Row.{Row}
use Rattle.profile_lines.specs.Setters.{AreSetters}
use Rattle.profile_lines.specs.Values.{known_values}
use Rattle.profile_lines.specs.declared.known.Known.{Known}
use Rattle.profile_tables.specs.EntryBody.{EntryBody}
use Rattle.profile_tables.specs.Resources.{has_key}
use Rattle.profile_tables.specs.Parts.{takes, taken_of, leads}
use Rattle.profile_tables.specs.declared.masks.Taken.{Taken}

-- ---- masks

abbrev pub nothing_taken : Taken
nothing_taken = record { x = false; y = false; z = false; w = false }

-- each value's parts that some line takes
pub record AreTaken (lines : List Line) (table : List Taken) : Type 0 where
  pub each : (v : ℕ) (d : Taken) → v < length table → get_or table v d ≡ taken_of lines v

-- what was taken before, and by one line more
abbrev pub taken_more : Taken → Line → ℕ → Taken
taken_more t line v = record { x = t.x || takes v 0 line; y = t.y || takes v 1 line; z = t.z || takes v 2 line; w = t.w || takes v 3 line }

pub record IsMarked (line : Line) (old new : List Taken) : Type 0 where
  pub same_length : length new ≡ length old
  pub each : (v : ℕ) (d : Taken) → v < length old → get_or new v d ≡ taken_more (get_or old v d) line v

-- ---- predecessors

abbrev pub has : List ℕ → ℕ → Bool
has numbers n = list_any (λ m. m == n) numbers

-- each block below the table's length has the blocks that some of these lines end and that lead to it
pub record AreFroms (lines : List Line) (table : List (List ℕ)) : Type 0 where
  pub each : (b a : ℕ) → b < length table → has (get_or table b []) a ≡ list_any (leads a b) lines

-- a block is added before another one
pub record IsAdded (block from : ℕ) (old new : List (List ℕ)) : Type 0 where
  pub same_length : length new ≡ length old
  pub each : (b a : ℕ) → b < length old → has (get_or new b []) a ≡ (has (get_or old b []) a || (block == b && from == a))

-- the block of a line is added before each block of some pairs
pub record AreAdded (pairs : List (ℕ × ℕ)) (from : ℕ) (old new : List (List ℕ)) : Type 0 where
  pub same_length : length new ≡ length old
  pub each : (b a : ℕ) → b < length old → has (get_or new b []) a ≡ (has (get_or old b []) a || (list_any (λ p. p.1 == b) pairs && from == a))

-- the block of a line is added before each of its targets
pub record IsLed (line : Line) (old new : List (List ℕ)) : Type 0 where
  pub same_length : length new ≡ length old
  pub each : (b a : ℕ) → b < length old → has (get_or new b []) a ≡ (has (get_or old b []) a || leads a b line)

-- ---- rows

-- the map has the place of the first of these rows of a class for each id; they begin at this place
pub record ArePlaces (rows : List Row) (class at : ℕ) (map : ℕ → Option ℕ) : Type 0 where
  pub each : (id : ℕ) → map id ≡ position_from (has_key class id) at rows

abbrev pub row_noted : Row → ℕ → ℕ → ℕ → Option ℕ → Option ℕ
row_noted row class at id old = if has_key class id row then Some at else old

-- ---- all of them

-- the tables of a body
pub record AreTables (x : EntryBody) (known : List Known) (setters : List (Option ℕ)) (taken : List Taken) (froms : List (List ℕ)) (srvs uavs cbvs : ℕ → Option ℕ) : Type 0 where
  pub known_is : known ≡ known_values x.pool x.values x.lines
  pub setters_are : AreSetters x.lines x.lines setters
  pub setters_length : length setters ≡ x.values
  pub taken_is : AreTaken x.lines taken
  pub taken_length : length taken ≡ x.values
  pub froms_are : AreFroms x.lines froms
  pub froms_length : length froms ≡ x.blocks
  pub srvs_are : ArePlaces x.rows 0 0 srvs
  pub uavs_are : ArePlaces x.rows 1 0 uavs
  pub cbvs_are : ArePlaces x.rows 2 0 cbvs
