use Rattle.std.proofs.Common.{◌∙◌, ap}
use Rattle.std.specs.Map.{lookup}
use Rattle.spirv_table.specs.contracts.known.NamedPartialEq.TheImpl as impl
use Rattle.spirv_table.specs.Known.{env_of}
use Rattle.spirv_table.proofs.Rows.{first_row}
use Rattle.spirv_table.proofs.known.Known.get.Goals as goal

pub returns : goal.returns
unfolding env_of
returns c =
    c.copied.ensures ∙ c.get.ensures.value ∙ ap (λ name. lookup (impl.eq-value.it name) c.args.self.now.ids.entries) c.name_of.ensures ∙ first_row c.args.self.now.ids.entries c.args.reg
