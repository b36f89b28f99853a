use Rattle.bitstream_spelling.proofs.Fronts.{magic_first}
use Rattle.bitstream_spelling.proofs.first_without_magic.Goals as goal

pub returns : goal.returns
returns c = magic_first
