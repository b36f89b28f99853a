use Rattle.std.specs.Ordering.{nat_cmp}
use Rattle.std.specs.BTreeMap as tree
use Rattle.order_rules.specs.Merges.{IsCounting}
use Rattle.order_rules.proofs.merges.first_crowded.Given as goal

abbrev pub invariant-loop-at : goal.invariant-loop-at
invariant-loop-at l = IsCounting l.passed.waiting (tree.get nat_cmp l.passed.named) l.insts l.at
