use Rattle.program_maker.proofs.BlockLaws.{IsDraft}
use Rattle.program_maker.proofs.blocks.blocks_of.Given as goal

abbrev pub invariant-loop-line : goal.invariant-loop-line
invariant-loop-line l = IsDraft l.placed l.line-index l.draft
