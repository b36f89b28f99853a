use Rattle.module_laws.proofs.Whole.{modules_keep_rules}
use Rattle.module_laws.proofs.modules_keep_rules.Goals as goal

pub returns : goal.returns
returns c = modules_keep_rules
