use Rattle.std.proofs.Common.{take}
use Rattle.flow_rules.specs.Lists.{IsLowTo}
use Rattle.flow_rules.proofs.tables.depth_of.Given as goal

abbrev pub invariant-loop-target : goal.invariant-loop-target
invariant-loop-target l = IsLowTo (take l.target-index l.targets) l.low
