use Rattle.module_form.proofs.Whole.{modules_have_form}
use Rattle.module_form.proofs.module_has_form.Goals as goal

pub returns : goal.returns
returns c = modules_have_form
