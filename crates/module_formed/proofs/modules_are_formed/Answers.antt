use Rattle.module_formed.proofs.Whole.{modules_are_formed}
use Rattle.module_formed.proofs.modules_are_formed.Goals as goal

pub returns : goal.returns
returns c = modules_are_formed
