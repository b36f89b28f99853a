use Rattle.row_laws.proofs.Whole.{sound}
use Rattle.row_laws.proofs.whole_rows_are_sound.Goals as goal

pub returns : goal.returns
returns c = sound
