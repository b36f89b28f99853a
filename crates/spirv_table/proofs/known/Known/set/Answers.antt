use Rattle.std.proofs.Common.{◌∙◌, sym, ap}
use Rattle.std.specs.Map.{lookup}
use Rattle.std.specs.Prelude.{if◌then◌else◌, Some}
use Rattle.spirv_code.specs.Reads.{same_reg, with_id}
use Rattle.spirv_table.specs.contracts.known.NamedPartialEq.TheImpl as impl
use Rattle.spirv_table.specs.Known.{env_of, name_for}
use Rattle.spirv_table.proofs.Rows.{first_row}
use Rattle.spirv_table.proofs.known.Known.set.Goals as goal

pub returns-in-Ok : goal.returns-in-Ok
unfolding env_of with_id
returns-in-Ok c = λ i reg.
    (sym (first_row c.insert.new.self.entries reg) ∙ c.in-Ok.ensures.updates.0 (name_for reg) ∙ ap (λ name. if impl.eq-value.it name (name_for reg) then Some c.args.id else lookup (impl.eq-value.it (name_for reg)) c.args.self.now.ids.entries) c.name_of.ensures ∙ ap (λ o. if same_reg c.args.reg reg then Some c.args.id else o) (first_row c.args.self.now.ids.entries reg)) i
