use Rattle.flow_rules.specs.Rules.{IsClear}
use Rattle.flow_rules.proofs.check.flow_fault.Given as goal

abbrev pub invariant-loop-p : goal.invariant-loop-p
invariant-loop-p l = IsClear l.blocks l.p
