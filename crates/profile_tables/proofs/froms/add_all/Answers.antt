use Rattle.profile_tables.proofs.TableLaws.{added_none, added_next, added_whole}
use Rattle.profile_tables.proofs.froms.add_all.Goals as goal

pub loop-pair-init : goal.loop-pair-init
loop-pair-init c = added_none _ _

pub loop-pair-preserved : goal.loop-pair-preserved
loop-pair-preserved c = added_next _ _ _ (0, 0) _ _ _ c.loop-pair.invariant c.loop-pair-test.true c.in_ok-add.ensures

pub returns : goal.returns
returns c = added_whole _ _ _ _ _ c.loop-pair.invariant c.loop-pair-test.false
