use Rattle.module_structure.proofs.Function.{keeps_structure}
use Rattle.module_structure.proofs.modules_keep_structure.Goals as goal

pub returns : goal.returns
returns c = keeps_structure
