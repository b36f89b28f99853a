use Rattle.std.proofs.Common.{take}
use Rattle.std.specs.BTreeMap as tree
use Rattle.decoration_rules.specs.Variables.{AreCrowds, pair_cmp}
use Rattle.decoration_rules.proofs.resources.Resources.of.Given as goal

abbrev pub invariant-loop-inst : goal.invariant-loop-inst
invariant-loop-inst l = AreCrowds (tree.get pair_cmp l.crowds) l.insts (take l.inst-index l.insts)
