use Rattle.std.proofs.Common.{◌≡◌, ◌+◌, drop}
use Rattle.profile_rules.specs.Asked.{are_numbers}
use Rattle.profile_rules.proofs.arguments.are_numbers.Given as goal

abbrev pub invariant-loop-index : goal.invariant-loop-index
invariant-loop-index l = are_numbers l.scope l.line 2 l.arguments ≡ are_numbers l.scope l.line (2 + l.index) (drop l.index l.arguments)
