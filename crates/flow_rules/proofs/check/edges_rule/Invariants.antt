use Rattle.std.proofs.Common.{take}
use Rattle.flow_rules.specs.Answers.{RuleAnswer, BreaksSome}
use Rattle.flow_rules.proofs.check.edges_rule.Given as goal

abbrev pub invariant-loop-target : goal.invariant-loop-target
invariant-loop-target l = RuleAnswer l.least (BreaksSome l.blocks l.p (take l.target-index l.target-items))
