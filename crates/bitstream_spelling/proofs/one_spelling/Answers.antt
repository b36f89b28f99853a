use Rattle.bitstream_spelling.proofs.Fronts.{whole_unique}
use Rattle.bitstream_spelling.proofs.one_spelling.Goals as goal

pub returns : goal.returns
returns c = whole_unique
