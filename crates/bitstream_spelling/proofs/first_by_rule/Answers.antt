use Rattle.bitstream_spelling.proofs.Fronts.{first_here}
use Rattle.bitstream_spelling.proofs.first_by_rule.Goals as goal

pub returns : goal.returns
returns c = first_here
