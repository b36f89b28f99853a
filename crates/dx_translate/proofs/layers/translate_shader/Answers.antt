use Rattle.dx_translate.proofs.VerdictLaws.{program_verdict, profile_fault}
use Rattle.dx_translate.proofs.layers.translate_shader.Goals as goal

pub returns-in-Ok : goal.returns-in-Ok
returns-in-Ok c = program_verdict _ _ _ _ c.in-Ok.ensures c.translate_program.ensures

pub returns-in-Err : goal.returns-in-Err
returns-in-Err c = profile_fault _ _ _ c.in-Err.ensures

pub translate_program-requires : goal.translate_program-requires
translate_program-requires c = c.in-Ok.ensures.1
