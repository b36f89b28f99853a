use Rattle.region_runs.proofs.Whole.{regions_stand}
use Rattle.region_runs.proofs.regions_run.Goals as goal

pub returns : goal.returns
returns c = regions_stand
