use Rattle.entry_read.proofs.Whole.{entry_read}
use Rattle.entry_read.proofs.entry_is_read.Goals as goal

pub returns : goal.returns
returns c = entry_read
