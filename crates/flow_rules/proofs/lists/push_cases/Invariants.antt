use Rattle.flow_rules.specs.Lists.{Extends, CasesTo}
use Rattle.flow_rules.proofs.lists.push_cases.Given as goal

abbrev pub invariant-loop-i : goal.invariant-loop-i
invariant-loop-i l = Extends (CasesTo l.starts l.last l.i) l.fn.spans.items l.spans.items
