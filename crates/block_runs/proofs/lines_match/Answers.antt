use Rattle.block_runs.proofs.Whole.{blocks_run}
use Rattle.block_runs.proofs.lines_match.Goals as goal

pub returns : goal.returns
returns g c =
    let m = g.M.LeavesBlock in
    blocks_run m.setting m.declares m.sound m.fits m.number m.block m.end m.known m.stands m.invocation m.source_steps m.target_steps m.relation m.inside m.leaves
