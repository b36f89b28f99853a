use Rattle.std.proofs.Common.{take}
use Rattle.std.specs.Ordering.{nat_cmp}
use Rattle.std.specs.BTreeMap as tree
use Rattle.module_rules.specs.Entry.{AreCounts}
use Rattle.module_rules.proofs.entry.counts_of.Given as goal

abbrev pub invariant-loop-id : goal.invariant-loop-id
invariant-loop-id l = AreCounts (tree.get nat_cmp l.counts) (take l.id-index l.ids)
