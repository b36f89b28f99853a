-- The theorem stands in `Whole`.
use Rattle.module_sizes.proofs.Whole.{modules_are_small}
use Rattle.module_sizes.proofs.modules_are_small.Goals as goal

pub returns : goal.returns
returns c = modules_are_small
