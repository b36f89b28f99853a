use Rattle.std.proofs.Common.{arith}
use Rattle.dx_bitstream.proofs.FrontLaws.{id_short}
use Rattle.dx_bitstream.proofs.Halting.{refuses}
use Rattle.dx_bitstream.proofs.read.step.Goals as goal

pub returns-in-None : goal.returns-in-None
returns-in-None c = refuses _ _ _ _ _ _ c.refused.ensures (omega arith) (id_short c.args.reader.now _ c.at-bit.ensures c.in-None.ensures.answer.0)
