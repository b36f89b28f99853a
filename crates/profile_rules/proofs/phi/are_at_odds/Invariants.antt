use Rattle.std.specs.Ordering.{nat_cmp}
use Rattle.std.specs.BTreeMap as tree
use Rattle.profile_rules.proofs.PhiLaws.{IsAgreed}
use Rattle.profile_rules.proofs.phi.are_at_odds.Given as goal

abbrev pub invariant-loop-entry : goal.invariant-loop-entry
invariant-loop-entry l = IsAgreed l.scope l.entries l.entry-index (tree.get nat_cmp l.firsts)
