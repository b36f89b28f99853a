use Rattle.std.proofs.Common.{take}
use Rattle.std.specs.BTreeMap as tree
use Rattle.id_rules.specs.Again.{AreFirst, key_cmp}
use Rattle.id_rules.proofs.declared.Declared.of.Given as goal

abbrev pub invariant-loop-at : goal.invariant-loop-at
invariant-loop-at l = AreFirst (tree.get key_cmp l.first) (take l.at l.insts)
