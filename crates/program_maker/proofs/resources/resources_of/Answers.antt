use Rattle.program_maker.proofs.RankLaws.{resources_next}
use Rattle.program_maker.proofs.resources.resources_of.Goals as goal

pub loop-entry-preserved : goal.loop-entry-preserved
loop-entry-preserved c = resources_next _ _ _ _ _ _ _ _ c.loop-entry.invariant c.loop-entry-test.true c.named_row.ensures c.in_ok-add_row.ensures
