use Rattle.dx_bitstream.proofs.KindLaws.{passed_small}
use Rattle.dx_bitstream.proofs.kind.kind_in.Goals as goal

pub returns-in_default-kind_of : goal.returns-in_default-kind_of
returns-in_default-kind_of c = passed_small _ _ _ c.in-Small.is c.in_default-kind_of.ensures
