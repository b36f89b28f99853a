-- What the map of registers answers.
use Rattle.std.proofs.Common.{◌≡◌, ℕ, List, [], ◌∷◌, Some, refl, ap, if◌then◌else◌}
use Rattle.std.specs.Map.{lookup}
use Rattle.dxil_form.specs.declared.value.Reg.{Reg}
use Rattle.spirv_code.specs.Reads.{no_register}
use Rattle.spirv_table.specs.contracts.known.NamedPartialEq.TheImpl as impl
use Rattle.spirv_table.specs.declared.known.Named.{Named}
use Rattle.spirv_table.specs.declared.known.Known.{Known}
use Rattle.spirv_table.specs.Known.{env_of, first_id, name_for, is_named}

pub first_row : (rows : List (Named × ℕ)) (reg : Reg) → lookup (impl.eq-value.it (name_for reg)) rows ≡ first_id rows reg
first_row [] reg = refl
first_row (row ∷ rows) reg = ap (λ o. if is_named row.0 reg then Some row.1 else o) (first_row rows reg)

-- no row is known in an empty map
pub no_row : (known : Known) → known.ids.entries ≡ [] → env_of known ≡ no_register
unfolding env_of no_register
no_row known none = ap first_id none
