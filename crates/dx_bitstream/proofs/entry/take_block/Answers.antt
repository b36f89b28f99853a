use Rattle.std.proofs.Common.{arith}
use Rattle.dx_bitstream.proofs.EntryLaws.{block_short}
use Rattle.dx_bitstream.proofs.Halting.{refuses}
use Rattle.dx_bitstream.proofs.PlaceLaws.{step_moved}
use Rattle.dx_bitstream.proofs.entry.take_block.Goals as goal

pub returns-in_default : goal.returns-in_default
returns-in_default c = refuses _ _ _ _ _ _ c.refused.ensures (omega arith) (block_short _ _ c.requires.id c.in_default.ensures)

pub returns-in-Some-kind_in : goal.returns-in-Some-kind_in
returns-in-Some-kind_in c = step_moved _ _ _ _ _ c.in-Some.ensures.moves c.open_block.ensures

pub returns-in-None : goal.returns-in-None
returns-in-None c = step_moved _ _ _ _ _ c.in-Some.ensures.moves c.pass_block.ensures
