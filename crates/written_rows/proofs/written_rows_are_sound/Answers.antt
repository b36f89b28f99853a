use Rattle.written_rows.proofs.Function.{sound}
use Rattle.written_rows.proofs.written_rows_are_sound.Goals as goal

pub returns : goal.returns
returns c = sound
