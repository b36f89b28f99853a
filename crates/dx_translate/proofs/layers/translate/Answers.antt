use Rattle.dx_translate.proofs.VerdictLaws.{module_verdict, layers_verdict}
use Rattle.dx_translate.proofs.layers.translate.Goals as goal

pub returns-in-Ok : goal.returns-in-Ok
returns-in-Ok c = module_verdict _ _ _ _ _ _ c.in-Ok.ensures.exact.0 c.translate_items.ensures

pub returns-in-Err : goal.returns-in-Err
returns-in-Err c = layers_verdict _ _ _ c.in-Err.ensures.exact
