use Rattle.leaf_runs.proofs.Starts.{starts_match}
use Rattle.leaf_runs.proofs.starts_match.Goals as goal

pub returns : goal.returns
returns c = starts_match
