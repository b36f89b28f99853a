use Rattle.ruled_rows.proofs.Whole.{rows_keep_rules}
use Rattle.ruled_rows.proofs.rows_keep_rules.Goals as goal

pub returns : goal.returns
returns c = rows_keep_rules
