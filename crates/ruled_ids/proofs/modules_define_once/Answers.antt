use Rattle.ruled_ids.proofs.Whole.{modules_define_once}
use Rattle.ruled_ids.proofs.modules_define_once.Goals as goal

pub returns : goal.returns
returns c = modules_define_once
