use Rattle.module_runs.proofs.Whole.{same_by_plan}
use Rattle.module_runs.proofs.same_by_plan.Goals as goal

pub returns : goal.returns
returns c = same_by_plan
