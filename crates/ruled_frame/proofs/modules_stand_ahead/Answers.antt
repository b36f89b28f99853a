use Rattle.ruled_frame.proofs.Whole.{modules_stand_ahead}
use Rattle.ruled_frame.proofs.modules_stand_ahead.Goals as goal

pub returns : goal.returns
returns c = modules_stand_ahead
