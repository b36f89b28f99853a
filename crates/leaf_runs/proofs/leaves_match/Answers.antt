use Rattle.leaf_runs.proofs.Whole.{leaves_match}
use Rattle.leaf_runs.proofs.leaves_match.Goals as goal

pub returns : goal.returns
returns c = leaves_match
