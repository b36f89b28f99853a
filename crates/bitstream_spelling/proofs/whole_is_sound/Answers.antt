use Rattle.bitstream_spelling.proofs.Fronts.{whole_sound}
use Rattle.bitstream_spelling.proofs.whole_is_sound.Goals as goal

pub returns : goal.returns
returns c = whole_sound
