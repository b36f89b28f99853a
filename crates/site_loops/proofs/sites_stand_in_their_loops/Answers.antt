use Rattle.site_loops.proofs.Whole.{stand_in_loops}
use Rattle.site_loops.proofs.sites_stand_in_their_loops.Goals as goal

pub returns : goal.returns
returns c = stand_in_loops
