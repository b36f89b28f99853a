use Rattle.chosen_plan.proofs.Whole.{plans_are_chosen}
use Rattle.chosen_plan.proofs.plans_are_chosen.Goals as goal

pub returns : goal.returns
returns c = plans_are_chosen
