use Rattle.module_rules.proofs.ModuleLaws.{IsClear}
use Rattle.module_rules.proofs.check.each_rule.Given as goal

abbrev pub invariant-loop-at : goal.invariant-loop-at
invariant-loop-at l = IsClear l.tables.version l.tables.ids l.at l.word
