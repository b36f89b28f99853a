use Rattle.std.proofs.Common.{arith}
use Rattle.spirv_words.proofs.FileWordLaws.{length-words_of}
use Rattle.spirv_file.proofs.Refusals.{words_refused, module_checked}
use Rattle.spirv_file.proofs.check.check_file.Goals as goal

pub check_module-requires-clause-short : goal.check_module-requires-clause-short
check_module-requires-clause-short c = omega (arith, c.in-Ok.ensures.1.layout.ends, length-words_of c.args.bytes)

pub returns-in-Ok : goal.returns-in-Ok
returns-in-Ok c = module_checked c.args.bytes c.in-Ok.module c.check_module.result c.in-Ok.ensures c.check_module.ensures

pub returns-in-Err : goal.returns-in-Err
returns-in-Err c = words_refused c.args.bytes c.in-Err.fault c.in-Err.ensures
