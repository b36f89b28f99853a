use Rattle.profile_rules.proofs.CheckLaws.{IsChecking}
use Rattle.profile_rules.proofs.check.first_fault.Given as goal

abbrev pub invariant-loop-line : goal.invariant-loop-line
invariant-loop-line l = IsChecking l.scope l.line-index l.seen
