use Rattle.frame_order.proofs.Whole.{modules_keep_order}
use Rattle.frame_order.proofs.modules_keep_order.Goals as goal

pub returns : goal.returns
returns c = modules_keep_order
