use Rattle.dx_run.proofs.Leaving.{made_success, translate_failed}
use Rattle.dx_run.proofs.output.output_for.Goals as goal

pub returns-in-Ok : goal.returns-in-Ok
returns-in-Ok c = made_success c.args.version c.success.result c.args.bytes.now c.in-Ok.words c.in-Ok.ensures c.success.ensures.status c.success.ensures.bytes c.success.ensures.text

pub returns-in-Err : goal.returns-in-Err
returns-in-Err c = translate_failed c.args.version c.fault_output.result c.args.bytes.now c.in-Err.fault c.in-Err.ensures c.fault_output.ensures
