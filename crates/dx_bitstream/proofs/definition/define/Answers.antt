use Rattle.std.proofs.Common.{arith}
use Rattle.dx_bitstream.proofs.DefinitionLaws.{definition_short}
use Rattle.dx_bitstream.proofs.Halting.{refuses}
use Rattle.dx_bitstream.proofs.PlaceLaws.{step_moved}
use Rattle.dx_bitstream.proofs.definition.define.Goals as goal

pub returns-in-Ok : goal.returns-in-Ok
returns-in-Ok c = step_moved _ _ _ _ _ c.in-Ok.ensures.moves c.keep_definition.ensures

pub returns-in-Err-Ends : goal.returns-in-Err-Ends
returns-in-Err-Ends c = refuses _ _ _ _ _ _ c.refused.ensures (omega arith) (definition_short _ _ c.requires.id (rw c.in-Err-Ends.field-0-is at c.in-Err-Ends.ensures))
