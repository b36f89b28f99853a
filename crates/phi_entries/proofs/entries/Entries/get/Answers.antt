use Rattle.std.proofs.Common.{◌∙◌, ap}
use Rattle.std.specs.Map.{lookup}
use Rattle.phi_entries.specs.contracts.entries.EdgePartialEq.TheImpl as impl
use Rattle.phi_entries.specs.Entries.{entry_of}
use Rattle.phi_entries.proofs.Found.{first_row}
use Rattle.phi_entries.proofs.entries.Entries.get.Goals as goal

pub returns : goal.returns
unfolding entry_of
returns c =
    c.copied.ensures ∙ c.get.ensures.value ∙ ap (λ edge. lookup (impl.eq-value.it edge) c.args.self.now.first.entries) c.edge_of.ensures ∙ first_row c.args.self.now.first.entries c.args.block c.args.phi c.args.from
