use Rattle.module_nesting.proofs.Whole.{stays_shallow}
use Rattle.module_nesting.proofs.modules_stay_shallow.Goals as goal

pub returns : goal.returns
returns c = stays_shallow
