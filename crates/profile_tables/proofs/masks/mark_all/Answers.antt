use Rattle.std.proofs.Common.{◌∙◌}
use Rattle.profile_tables.proofs.TableLaws.{taken_next, taken_whole}
use Rattle.profile_tables.proofs.masks.mark_all.Goals as goal

pub loop-line-preserved : goal.loop-line-preserved
loop-line-preserved c = (taken_next _ _ _ _ _ c.loop-line.invariant.0 c.loop-line-test.true c.line-item.is c.mark.ensures, c.mark.ensures.same_length ∙ c.loop-line.invariant.1)

pub returns-clause-all : goal.returns-clause-all
returns-clause-all c = taken_whole _ _ _ c.loop-line.invariant.0 c.loop-line-test.false
