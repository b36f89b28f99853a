use Rattle.std.proofs.Common.{take}
use Rattle.flow_rules.specs.Lists.{Extends, BackTarget}
use Rattle.flow_rules.proofs.lists.push_backs.Given as goal

abbrev pub invariant-loop-target : goal.invariant-loop-target
invariant-loop-target l = Extends (BackTarget l.p (take l.target-index l.targets)) l.fn.spans.items l.spans.items
