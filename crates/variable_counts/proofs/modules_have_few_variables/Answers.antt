use Rattle.variable_counts.proofs.Whole.{few_variables}
use Rattle.variable_counts.proofs.modules_have_few_variables.Goals as goal

pub returns : goal.returns
returns c = few_variables
