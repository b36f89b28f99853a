use Rattle.std.proofs.Common.{take}
use Rattle.flow_rules.specs.Lists.{HighTo}
use Rattle.flow_rules.proofs.tables.greatest_of.Given as goal

abbrev pub invariant-loop-target : goal.invariant-loop-target
invariant-loop-target l = HighTo (take l.target-index l.targets) l.high
