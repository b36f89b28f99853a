use Rattle.std.proofs.Common.{arith}
use Rattle.dx_bitstream.proofs.Halting.{takes_none}
use Rattle.dx_bitstream.proofs.RecordLaws.{unknown_form, form_short, form_taken}
use Rattle.dx_bitstream.proofs.record.take_abbreviated.Goals as goal

pub returns-in_default : goal.returns-in_default
returns-in_default c = takes_none _ _ _ _ _ _ c.refused.ensures (omega arith) (unknown_form _ _ c.requires.steady _ c.requires.id c.in_default.ensures)

pub returns-in-Ok : goal.returns-in-Ok
returns-in-Ok c = form_taken _ _ c.requires.steady _ c.requires.id _ c.in-Some.ensures _ _ _ c.as_slice.ensures.sound (rw c.as_slice.ensures.same at c.in-Ok.ensures)

pub returns-in-Err-Ends : goal.returns-in-Err-Ends
returns-in-Err-Ends c =
    takes_none _ _ _ _ _ _ c.refused-in-Err-Ends.ensures (omega arith)
    (form_short _ _ c.requires.steady _ c.requires.id _ c.in-Some.ensures (rw c.as_slice.ensures.same at (rw c.in-Err-Ends.field-0-is at c.in-Err-Ends.ensures)))
