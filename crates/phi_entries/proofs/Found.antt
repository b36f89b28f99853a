-- What the map of entries answers.
use Rattle.std.proofs.Common.{◌≡◌, ℕ, List, [], ◌∷◌, Some, None, refl, ap, if◌then◌else◌}
use Rattle.std.specs.Map.{lookup}
use Rattle.dxil_form.specs.declared.value.Operand.{Operand}
use Rattle.phi_entries.specs.contracts.entries.EdgePartialEq.TheImpl as impl
use Rattle.phi_entries.specs.declared.entries.Edge.{Edge}
use Rattle.phi_entries.specs.declared.entries.Entries.{Entries}
use Rattle.phi_entries.specs.Entries.{edge_for, entry_of, found, is_edge}

pub first_row : (rows : List (Edge × Operand)) (k n from : ℕ) → lookup (impl.eq-value.it (edge_for k n from)) rows ≡ found rows k n from
first_row [] k n from = refl
first_row (row ∷ rows) k n from =
    ap (λ o. if is_edge row.0 k n from then Some row.1 else o) (first_row rows k n from)

-- an empty map has no entry
pub no_entry : (entries : Entries) → entries.first.entries ≡ [] → (k n from : ℕ) → entry_of entries k n from ≡ None
unfolding entry_of
no_entry entries none k n from = ap (λ rows. found rows k n from) none
