use Rattle.std.proofs.Common.{◌≡◌, drop}
use Rattle.llvm_values.specs.Rules.{numbers_some}
use Rattle.llvm_values.proofs.rule.numbers_some.Given as goal

abbrev pub invariant-loop-item : goal.invariant-loop-item
invariant-loop-item l = numbers_some (drop l.item-index l.content) ≡ numbers_some l.content
