use Rattle.access_runs.proofs.Whole.{part_runs}
use Rattle.access_runs.proofs.parts_run.Goals as goal

pub returns : goal.returns
returns c = part_runs
