use Rattle.leaf_runs.proofs.Starts.{same_by_leaves}
use Rattle.leaf_runs.proofs.same_by_leaves.Goals as goal

pub returns : goal.returns
returns c = same_by_leaves
