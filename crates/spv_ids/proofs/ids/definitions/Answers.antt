use Rattle.spv_ids.proofs.IdLaws.{defined_more}
use Rattle.spv_ids.proofs.ids.definitions.Goals as goal

pub loop-at-preserved : goal.loop-at-preserved
loop-at-preserved c = defined_more _ _ _ _ _ c.loop-at.invariant c.loop-at-test.true c.index-insts-at.is c.in_ok-push_definition.ensures
