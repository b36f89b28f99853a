use Rattle.std.proofs.Common.{arith, ap, length}
use Rattle.spirv_words.proofs.FileWordLaws.{length-words_of}
use Rattle.module_tests.proofs.structure.answer.Goals as goal

pub check_module-requires-clause-short : goal.check_module-requires-clause-short
check_module-requires-clause-short g c = omega (arith, c.in_ok-module.ensures.exact.1.layout.ends, length-words_of c.as_slice.result.now, ap length c.as_slice.ensures, c.in_ok-file.ensures)
