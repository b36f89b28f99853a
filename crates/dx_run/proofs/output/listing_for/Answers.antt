use Rattle.dx_run.proofs.Leaving.{shown_listing, show_failed}
use Rattle.dx_run.proofs.output.listing_for.Goals as goal

pub returns-in-Ok : goal.returns-in-Ok
returns-in-Ok c = shown_listing _ _ c.in-Ok.ensures

pub returns-in-Err : goal.returns-in-Err
returns-in-Err c = show_failed c.fault_output.result c.args.bytes.now c.in-Err.fault c.in-Err.ensures c.fault_output.ensures
