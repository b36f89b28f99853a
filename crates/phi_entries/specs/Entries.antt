-- The first entry of each phi for each block before it, and the map that has them.
use Rattle.std.specs.Prelude.{◌≡◌, ℕ, ◌<◌, ◌^◌, Bool, ◌&&◌, nat_eq, if◌then◌else◌, List, [], ◌∷◌, length, Option, Some, None, slice_get, All}
use Rattle.dxil_form.specs.declared.value.Operand.{Operand}
use Rattle.dxil_form.specs.declared.block.Entry.{Entry}
use Rattle.dxil_form.specs.declared.block.Phi.{Phi}
use Rattle.dxil_form.specs.declared.block.Block.{Block}
use Rattle.phi_entries.specs.declared.entries.Edge.{Edge}
use Rattle.phi_entries.specs.declared.entries.Entries.{Entries}

-- ---- the program's entries

-- what the first entry for a block gives
abbrev pub first_entry : ℕ → List Entry → Option Operand
first_entry from [] = None
first_entry from (e ∷ es) = if nat_eq e.from from then Some e.value else first_entry from es

abbrev pub entry_in : ℕ → Option Phi → Option Operand
entry_in from None = None
entry_in from (Some phi) = first_entry from phi.entries

-- what the n-th phi of a block takes
abbrev pub entry_at : Option Block → (n from : ℕ) → Option Operand
entry_at None n from = None
entry_at (Some block) n from = entry_in from (slice_get block.phis n)

-- ---- the map

abbrev pub edge_for : (block phi from : ℕ) → Edge
edge_for block phi from = record { block = block; phi = phi; from = from }

abbrev pub is_edge : Edge → (k n from : ℕ) → Bool
is_edge edge k n from = nat_eq k edge.block && (nat_eq n edge.phi && nat_eq from edge.from)

-- the first row of an edge
abbrev pub found : List (Edge × Operand) → (k n from : ℕ) → Option Operand
found [] k n from = None
found (row ∷ rows) k n from = if is_edge row.0 k n from then Some row.1 else found rows k n from

unfoldable pub entry_of : Entries → (k n from : ℕ) → Option Operand
entry_of entries = found entries.first.entries

-- the map has the first entry of each phi of the blocks for each block
abbrev pub AreEntries : List Block → Entries → Type 0
AreEntries blocks entries =
    (k n from : ℕ) → entry_of entries k n from ≡ entry_at (slice_get blocks k) n from

-- blocks and phis are numbered by words
pub record ArePlaces (blocks : List Block) : Type 0 where
  pub blocks_fit : length blocks < 2 ^ 32
  pub phis_fit : All (λ block. length block.phis < 2 ^ 32) blocks
