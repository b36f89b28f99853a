use Rattle.dx_bitstream.proofs.InfoLaws.{filed_given}
use Rattle.dx_bitstream.proofs.PlaceLaws.{on_ok_map}
use Rattle.dx_bitstream.proofs.definition.file.Goals as goal

pub returns-in-Some-kind_of : goal.returns-in-Some-kind_of
returns-in-Some-kind_of c = on_ok_map _ (filed_given _ _ _ _ _ _ c.in-Some.is c.in-Some-kind_of.ensures) c.give.ensures
