use Rattle.plan_ready.proofs.Whole.{plans_are_ready}
use Rattle.plan_ready.proofs.plans_are_ready.Goals as goal

pub returns : goal.returns
returns c = plans_are_ready
