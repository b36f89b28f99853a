use Rattle.ruled_rows.proofs.Whole.{modules_keep_ids}
use Rattle.ruled_rows.proofs.modules_keep_ids.Goals as goal

pub returns : goal.returns
returns c = modules_keep_ids
