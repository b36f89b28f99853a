use Rattle.frame_apart.proofs.Whole.{modules_keep_types_apart}
use Rattle.frame_apart.proofs.modules_keep_types_apart.Goals as goal

pub returns : goal.returns
returns c = modules_keep_types_apart
