use Rattle.std.proofs.Common.{refl}
use Rattle.bitstream_values.proofs.Taking.{literal_value}
use Rattle.bitstream_values.proofs.value.take_value.Goals as goal

pub returns-in-Literal : goal.returns-in-Literal
returns-in-Literal c = literal_value _ _ _ _ _ c.in-Literal.is c.same.ensures.is c.same.ensures.below c.requires.within refl
