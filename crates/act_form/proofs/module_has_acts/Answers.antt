use Rattle.act_form.proofs.Whole.{modules_have_acts}
use Rattle.act_form.proofs.module_has_acts.Goals as goal

pub returns : goal.returns
returns c = modules_have_acts
