use Rattle.module_laws.proofs.Whole.{modules_have_loops}
use Rattle.module_laws.proofs.modules_have_loops.Goals as goal

pub returns : goal.returns
returns c = modules_have_loops
