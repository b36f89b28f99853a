use Rattle.bitstream_spelling.proofs.Fronts.{short_first}
use Rattle.bitstream_spelling.proofs.first_where_short.Goals as goal

pub returns : goal.returns
returns c = short_first
