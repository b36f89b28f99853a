use Rattle.std.proofs.Common.{refl, arith}
use Rattle.bitstream_values.proofs.Taking.{zero_value, vbr_value, chunk_width}
use Rattle.bitstream_values.proofs.value.take_chunks.Goals as goal

pub returns-then-width-eq0 : goal.returns-then-width-eq0
returns-then-width-eq0 c = zero_value _ _ _ _ refl c.if-width-eq0.true c.requires.within refl

pub returns : goal.returns
returns c = vbr_value _ _ _ _ _ refl (chunk_width _ c.requires.width (λ e. absurd (omega (arith, c.if-width-eq0.false, e)))) c.see.ensures
