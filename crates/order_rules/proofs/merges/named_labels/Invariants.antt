use Rattle.std.proofs.Common.{take}
use Rattle.std.specs.Ordering.{nat_cmp}
use Rattle.std.specs.BTreeMap as tree
use Rattle.order_rules.specs.Merges.{AreNamed}
use Rattle.order_rules.proofs.merges.named_labels.Given as goal

abbrev pub invariant-loop-inst : goal.invariant-loop-inst
invariant-loop-inst l = AreNamed (tree.get nat_cmp l.named) (take l.inst-index l.insts)
