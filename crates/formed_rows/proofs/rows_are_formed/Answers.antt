use Rattle.formed_rows.proofs.Whole.{rows_are_formed}
use Rattle.formed_rows.proofs.rows_are_formed.Goals as goal

pub returns : goal.returns
returns c = rows_are_formed
