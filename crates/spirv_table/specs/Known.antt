-- The registers that are known, as a function.
use Rattle.std.specs.Prelude.{ℕ, Bool, nat_eq, ◌&&◌, List, [], ◌∷◌, Some, None, if◌then◌else◌}
use Rattle.dxil_form.specs.declared.value.Reg.{Reg}
use Rattle.spirv_code.specs.Reads.{Env}
use Rattle.spirv_table.specs.declared.known.Named.{Named}
use Rattle.spirv_table.specs.declared.known.Known.{Known}

abbrev pub name_for : Reg → Named
name_for reg = record { value = reg.value; part = reg.part }

abbrev pub is_named : Named → Reg → Bool
is_named key reg = nat_eq reg.value key.value && nat_eq reg.part key.part

-- the first row of a register
abbrev pub first_id : List (Named × ℕ) → Env
first_id [] reg = None
first_id (row ∷ rows) reg = if is_named row.0 reg then Some row.1 else first_id rows reg

unfoldable pub env_of : Known → Env
env_of known = first_id known.ids.entries
