use Rattle.std.proofs.Common.{◌≡◌, drop}
use Rattle.type_rules.specs.Values as values
use Rattle.type_rules.proofs.values.leads.Given as goal

abbrev pub invariant-loop-index : goal.invariant-loop-index
invariant-loop-index l = values.leads l.ids l.ty (drop l.index-index l.indices) ≡ values.leads l.ids l.from l.indices
