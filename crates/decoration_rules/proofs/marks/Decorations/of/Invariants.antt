use Rattle.std.proofs.Common.{take}
use Rattle.std.specs.Ordering.{nat_cmp}
use Rattle.std.specs.BTreeMap as tree
use Rattle.decoration_rules.specs.Decorations.{AreMarksOf}
use Rattle.decoration_rules.proofs.marks.Decorations.of.Given as goal

abbrev pub invariant-loop-inst : goal.invariant-loop-inst
invariant-loop-inst l = AreMarksOf (tree.get nat_cmp l.marks) (take l.inst-index l.insts)
