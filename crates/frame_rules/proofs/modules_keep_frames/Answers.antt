use Rattle.frame_rules.proofs.Whole.{modules_keep_frames}
use Rattle.frame_rules.proofs.modules_keep_frames.Goals as goal

pub returns : goal.returns
returns c = modules_keep_frames
