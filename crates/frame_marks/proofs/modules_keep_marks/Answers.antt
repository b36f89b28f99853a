use Rattle.frame_marks.proofs.Whole.{modules_keep_marks}
use Rattle.frame_marks.proofs.modules_keep_marks.Goals as goal

pub returns : goal.returns
returns c = modules_keep_marks
