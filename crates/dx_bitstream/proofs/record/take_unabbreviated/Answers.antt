use Rattle.std.proofs.Common.{arith}
use Rattle.dx_bitstream.proofs.Halting.{takes_none}
use Rattle.dx_bitstream.proofs.RecordLaws.{plain_short, plain_taken}
use Rattle.dx_bitstream.proofs.record.take_unabbreviated.Goals as goal

pub returns-in-Ok : goal.returns-in-Ok
returns-in-Ok c = plain_taken _ _ c.requires.steady _ _ _ c.requires.id c.in-Ok.ensures

pub returns-in-Err-Ends : goal.returns-in-Err-Ends
returns-in-Err-Ends c = takes_none _ _ _ _ _ _ c.refused.ensures (omega arith) (plain_short _ _ c.requires.steady c.requires.id (rw c.in-Err-Ends.field-0-is at c.in-Err-Ends.ensures))
