use Rattle.module_same.proofs.Whole.{modules_are_same}
use Rattle.module_same.proofs.modules_are_same.Goals as goal

pub returns : goal.returns
returns c = modules_are_same
