use Rattle.dx_translate.proofs.VerdictLaws.{shader_verdict, module_fault}
use Rattle.dx_translate.proofs.layers.translate_items.Goals as goal

pub returns-in-Ok : goal.returns-in-Ok
returns-in-Ok c = shader_verdict _ _ _ _ _ c.in-Ok.ensures c.translate_shader.ensures

pub returns-in-Err : goal.returns-in-Err
returns-in-Err c = module_fault _ _ _ _ c.in-Err.ensures

pub translate_shader-requires : goal.translate_shader-requires
translate_shader-requires c = c.entry_is_read.ensures _ _ _ c.requires c.in-Ok.ensures.0 c.in-Ok.ensures.1
