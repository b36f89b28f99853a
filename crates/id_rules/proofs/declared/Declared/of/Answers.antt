use Rattle.id_rules.proofs.KeyLaws.{first_more}
use Rattle.id_rules.proofs.declared.Declared.of.Goals as goal

pub loop-at-preserved : goal.loop-at-preserved
loop-at-preserved c = first_more _ _ _ _ _ c.loop-at.invariant c.loop-at-test.true c.index-insts-at.is c.in_ok-keep_first.ensures
