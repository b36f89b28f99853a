use Rattle.module_loops.proofs.Whole.{as_many}
use Rattle.module_loops.proofs.modules_have_their_loops.Goals as goal

pub returns : goal.returns
returns c = as_many
