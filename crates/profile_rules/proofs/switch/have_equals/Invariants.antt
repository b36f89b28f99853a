use Rattle.std.proofs.Common.{◌≡◌, drop}
use Rattle.std.specs.Ordering.{nat_cmp}
use Rattle.std.specs.BTreeSet as tree
use Rattle.profile_rules.specs.Rules.{have_equals}
use Rattle.profile_rules.proofs.SetLaws.{equals_behind}
use Rattle.profile_rules.proofs.switch.have_equals.Given as goal

abbrev pub invariant-loop-case : goal.invariant-loop-case
invariant-loop-case l = have_equals l.pool l.cases ≡ equals_behind l.pool (tree.contains nat_cmp l.seen) (drop l.case-index l.cases)
