use Rattle.std.proofs.Common.{take}
use Rattle.flow_rules.specs.Lists.{IsBetween}
use Rattle.flow_rules.proofs.lists.between.Given as goal

abbrev pub invariant-loop-target : goal.invariant-loop-target
invariant-loop-target l = IsBetween (take l.target-index l.targets) l.low l.high l.found.items
