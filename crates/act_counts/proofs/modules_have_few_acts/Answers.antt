use Rattle.act_counts.proofs.Whole.{few_acts}
use Rattle.act_counts.proofs.modules_have_few_acts.Goals as goal

pub returns : goal.returns
returns c = few_acts
