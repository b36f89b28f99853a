-- The rows of resources by class, then id.
use Rattle.std.specs.Prelude.{ℕ, ◌≡◌, ◌<◌, List, length, map, get_or, slice_get, take, Bool, false, if◌then◌else◌, Option, Some, None, option_map}
use Rattle.std.specs.List.{count_by, range_with_len}
use Rattle.std.specs.List.Sorted.{IsPermutation, IsSorted}
use Rattle.std.specs.Ordering.{nat_cmp, ordering_then}
use Rattle.std.specs.declared.cmp.Ordering.{Ordering}
use Rattle.dxil_form.specs.declared.program.Resource.{Resource}
use Rattle.llvm_facts.specs.declared.facts.Row.{Row}
use Rattle.profile_tables.specs.Resources.{class_number}
use Rattle.stated_program.specs.Accesses.{resource_of}

-- class and id
abbrev pub Key : Type 0
Key = ℕ × ℕ

-- a row's key, and its place
abbrev pub Keyed : Type 0
Keyed = Key × ℕ

abbrev pub key_of : Row → Key
key_of row = (class_number row.class, row.id)

abbrev pub key_in : Option Row → Key
key_in None = (0, 0)
key_in (Some row) = key_of row

abbrev pub keyed_at : List Row → ℕ → Keyed
keyed_at rows r = (key_in (slice_get rows r), r)

abbrev pub keyed : List Row → List Keyed
keyed rows = map (keyed_at rows) (range_with_len 0 (length rows))

abbrev pub key_cmp : Keyed → Keyed → Ordering
key_cmp a b = ordering_then (ordering_then (nat_cmp a.0.0 b.0.0) (nat_cmp a.0.1 b.0.1)) (nat_cmp a.1 b.1)

-- all rows by class, then id
pub record AreInOrder (rows : List Row) (order : List Keyed) : Type 0 where
  pub permutation : IsPermutation (keyed rows) order
  pub sorted : IsSorted key_cmp order

-- ---- ranks

abbrev pub is_named : List Bool → Keyed → Bool
is_named named e = get_or named e.1 false

-- the places differ, and are below a bound
pub record ArePlaces (n : ℕ) (order : List Keyed) : Type 0 where
  pub below : (i : ℕ) (e : Keyed) → slice_get order i ≡ Some e → e.1 < n
  pub apart : (i j : ℕ) (a b : Keyed) → slice_get order i ≡ Some a → slice_get order j ≡ Some b → a.1 ≡ b.1 → i ≡ j

-- each place has the number of named rows that stand before it in this order
pub record AreRanks (named : List Bool) (order : List Keyed) (ranks : List ℕ) : Type 0 where
  pub same_length : length ranks ≡ length named
  pub each : (i : ℕ) (e : Keyed) → slice_get order i ≡ Some e → get_or ranks e.1 0 ≡ count_by (is_named named) (take i order)

-- ---- resources

-- the row at a place, where it is named
abbrev pub named_row : List Row → List Bool → ℕ → Option Row
named_row rows named place = if get_or named place false then slice_get rows place else None

abbrev pub resource_in : List Row → List Bool → Keyed → Option Resource
resource_in rows named e = option_map resource_of (named_row rows named e.1)
