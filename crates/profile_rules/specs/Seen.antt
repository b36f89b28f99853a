-- The groupshared variables and the rows of resources that some lines name, as they are kept while a body is read.
use Rattle.std.specs.Prelude.{ℕ, ◌≡◌, ◌<◌, ◌+◌, ◌-◌, ◌^◌, ◌==◌, ◌&&◌, ◌||◌, min, List, length, get_or, Bool, true, false, not, nat_lt, if◌then◌else◌, Option, Some, None}
use Rattle.std.specs.List.{list_any}
use Rattle.std.specs.Ordering.{nat_cmp, ordering_then}
use Rattle.std.specs.declared.cmp.Ordering.{Ordering}
use Rattle.std.specs.BTreeMap as tree
use Rattle.llvm_bodies.specs.declared.line.Line.{Line}
use Rattle.llvm_facts.specs.declared.facts.Row.{Row}
use Rattle.profile_lines.specs.Pool.{Pool}
use Rattle.profile_tables.specs.EntryBody.{EntryBody}
use Rattle.profile_tables.specs.Places.{is_of, is_named_by, words_at, words_named}
use Rattle.profile_tables.specs.Resources.{class_number, is_row, is_row_named, rows_named, row_named}
use Rattle.profile_tables.specs.declared.place.Place.{Place}
use Rattle.profile_rules.specs.Rules.{is_other_row}
use Rattle.profile_rules.specs.declared.rows.Owner.{Owner}
use Rattle.profile_rules.specs.declared.rows.Owner.TheVariants.{One, Many}

abbrev pub most : ℕ
most = 2 ^ 64 - 1

-- ---- variables

-- each variable that is named so far, and the words of all of them, which stop at the greatest number
pub record AreVariables (x : EntryBody) (lines : List Line) (named : List Bool) (words : ℕ) : Type 0 where
  pub same_length : length named ≡ length x.pool.globals
  pub each : (v : ℕ) → v < length named → get_or named v false ≡ is_named_by x lines v
  pub sum : words ≡ min (words_named x lines) most

-- the words that a place adds, whose variable is not named yet
abbrev pub words_more : Pool → List Bool → Option Place → ℕ
words_more x named None = 0
words_more x named (Some place) = if nat_lt place.variable (length named) && not (get_or named place.variable false) then words_at x place.variable else 0

-- the variable of a place is named
pub record IsPlaceNoted (x : Pool) (place : Option Place) (old new : List Bool) (before after : ℕ) : Type 0 where
  pub same_length : length new ≡ length old
  pub each : (v : ℕ) → v < length old → get_or new v false ≡ (get_or old v false || is_of v place)
  pub sum : after ≡ min (before + words_more x old place) most

-- ---- rows

pub record AreRows (x : EntryBody) (lines : List Line) (named : List Bool) (count : ℕ) : Type 0 where
  pub same_length : length named ≡ length x.rows
  pub each : (r : ℕ) → r < length named → get_or named r false ≡ is_row_named x lines r
  pub sum : count ≡ min (rows_named x lines) most

abbrev pub rows_more : List Bool → Option ℕ → ℕ
rows_more named None = 0
rows_more named (Some r) = if nat_lt r (length named) && not (get_or named r false) then 1 else 0

pub record IsRowNoted (row : Option ℕ) (old new : List Bool) (before after : ℕ) : Type 0 where
  pub same_length : length new ≡ length old
  pub each : (r : ℕ) → r < length old → get_or new r false ≡ (get_or old r false || is_row r row)
  pub sum : after ≡ min (before + rows_more old row) most

-- ---- owners

-- class, space and lower bound
abbrev pub Key : Type 0
Key = (ℕ × ℕ) × ℕ

abbrev pub key_of : Row → Key
key_of row = ((class_number row.class, row.space), row.lower)

abbrev pub key_cmp : Key → Key → Ordering
key_cmp a b = ordering_then (ordering_then (nat_cmp a.0.0 b.0.0) (nat_cmp a.0.1 b.0.1)) (nat_cmp a.1 b.1)

-- a row of the same key is named that is another one
abbrev pub is_other : ℕ → Option Owner → Bool
is_other r None = false
is_other r (Some (One s)) = not (r == s)
is_other r (Some Many) = true

abbrev pub with_owner : Option Owner → ℕ → Owner
with_owner None r = One r
with_owner (Some (One s)) r = if s == r then One s else Many
with_owner (Some Many) r = Many

-- the rows of each key that some lines name
pub record AreOwners (x : EntryBody) (lines : List Line) (owners : Key → Option Owner) : Type 0 where
  pub each : (r : ℕ) (row : Row) → is_other r (owners (key_of row)) ≡ list_any (λ line. is_other_row x r row (row_named x line)) lines

-- a row is named
abbrev pub owner_noted : Option ℕ → Option Row → (Key → Option Owner) → Key → Option Owner
owner_noted None row owners q = owners q
owner_noted (Some r) None owners q = owners q
owner_noted (Some r) (Some row) owners q = if tree.is_at (key_cmp (key_of row)) q then Some (with_owner (owners (key_of row)) r) else owners q

pub record IsOwned (place : Option ℕ) (row : Option Row) (old new : Key → Option Owner) : Type 0 where
  pub each : (q : Key) → new q ≡ owner_noted place row old q

-- another row of the same key is named
abbrev pub meets_owner : Option ℕ → Option Row → (Key → Option Owner) → Bool
meets_owner None row owners = false
meets_owner (Some r) None owners = false
meets_owner (Some r) (Some row) owners = is_other r (owners (key_of row))
