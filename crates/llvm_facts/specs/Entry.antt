-- The thread counts of a group, which the fifth field of the entry node has under the tag 4.
use Rattle.std.specs.Prelude.{ℕ, ◌≡◌, ◌==◌, ◌&&◌, ◌||◌, ◌*◌, ◌-◌, ◌%◌, List, [], ◌∷◌, length, get_or, Bool, true, false, false, nat_lt, Option, Some, None, is_some, unwrap_or, count_by}
use Rattle.std.specs.List.{list_all}
use Rattle.llvm_facts.specs.Module.{Module}
use Rattle.llvm_facts.specs.Values.{node_at, i32_at, bit_of}
use Rattle.llvm_facts.specs.Tags.{pairs, has_tag, tagged}

-- a node of three `i32` constants
abbrev pub are_counts : Module → Option (List ℕ) → Bool
are_counts m None = false
are_counts m (Some fields) = length fields == 3 && list_all (λ field. is_some (i32_at m field)) fields

-- A node of pairs whose tags are `i32` constants, with exactly one pair of tag 4, whose value is a node of three such constants. A node of an odd number of fields is no node of pairs.
abbrev pub has_threads : Module → Option (List ℕ) → Bool
has_threads m None = false
has_threads m (Some fields) =
    length fields % 2 == 0
    && list_all (λ pair. is_some (i32_at m pair.0)) (pairs fields)
    && count_by (has_tag m 4) (pairs fields) == 1
    && are_counts m (node_at m (tagged m 4 fields))

-- the fields of the node that a field names, none where it names no node
abbrev pub fields_at : Module → ℕ → List ℕ
fields_at m field = unwrap_or (node_at m field) []

-- the field that names the three counts
abbrev pub counts_field : Module → List ℕ → ℕ
counts_field m entry = tagged m 4 (fields_at m (get_or entry 4 0))

-- the number of an `i32` constant, or 0
abbrev pub number_at : Module → ℕ → ℕ
number_at m field = unwrap_or (i32_at m field) 0

-- the thread counts x, y and z
abbrev pub counts : Module → List ℕ → List ℕ
counts m fields = number_at m (get_or fields 0 0) ∷ number_at m (get_or fields 1 0) ∷ number_at m (get_or fields 2 0) ∷ []

abbrev pub local : Module → List ℕ → List ℕ
local m entry = counts m (fields_at m (counts_field m entry))

-- the bit of the node of the three counts
abbrev pub counts_bit : Module → List ℕ → ℕ
counts_bit m entry = bit_of m (counts_field m entry - 1)

-- a count is 0, the first or second is above 1024, the third above 64, or their product above 1024
abbrev pub is_outside : ℕ → ℕ → ℕ → Bool
is_outside x y z =
    x == 0 || y == 0 || z == 0 || nat_lt 1024 x || nat_lt 1024 y || nat_lt 64 z || nat_lt 1024 (x * y * z)

abbrev pub are_outside : List ℕ → Bool
are_outside counts = is_outside (get_or counts 0 0) (get_or counts 1 0) (get_or counts 2 0)

-- The thread counts are out of bounds, which is told at the node of the three.
abbrev pub IsCountsFault : Module → List ℕ → ℕ → Type 0
IsCountsFault m entry at = (are_outside (local m entry) ≡ true) × (at ≡ counts_bit m entry)

-- The entry node does not tell three thread counts, which is told at its bit.
abbrev pub IsThreadsFault : Module → List ℕ → ℕ → ℕ → Type 0
IsThreadsFault m entry bit at = (has_threads m (node_at m (get_or entry 4 0)) ≡ false) × (at ≡ bit)
