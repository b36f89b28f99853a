use Rattle.std.specs.Ordering.{nat_cmp}
use Rattle.std.specs.BTreeSet as tree
use Rattle.decoration_rules.specs.ReadOnly.{IsSetUpTo}
use Rattle.decoration_rules.proofs.read_only.ReadOnly.of.Given as goal

abbrev pub invariant-loop-at : goal.invariant-loop-at
invariant-loop-at l = IsSetUpTo (tree.contains nat_cmp l.set) l.ids l.at
