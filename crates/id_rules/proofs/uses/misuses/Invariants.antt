use Rattle.id_rules.proofs.UseLaws.{IsFine}
use Rattle.id_rules.proofs.uses.misuses.Given as goal

abbrev pub invariant-loop-k : goal.invariant-loop-k
invariant-loop-k l = IsFine l.ids l.at l.inst l.shape l.k
