use Rattle.program_maker.proofs.BlockLaws.{draft_next}
use Rattle.program_maker.proofs.blocks.blocks_of.Goals as goal

pub loop-line-preserved : goal.loop-line-preserved
loop-line-preserved c = draft_next _ c.requires.numbered _ c.requires.same _ _ _ _ c.loop-line.invariant c.loop-line-test.true c.line-item.is c.in_ok-draft_line.ensures
