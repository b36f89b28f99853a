use Rattle.std.proofs.Common.{◌≡◌, ◌+◌, drop}
use Rattle.profile_rules.specs.Rules.{are_given}
use Rattle.profile_rules.proofs.call.are_given.Given as goal

abbrev pub invariant-loop-index : goal.invariant-loop-index
invariant-loop-index l = are_given l.pool l.line 2 l.arguments ≡ are_given l.pool l.line (2 + l.index) (drop l.index l.arguments)
