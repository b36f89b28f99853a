use Rattle.llvm_bodies.proofs.Keeping.{kept_line}
use Rattle.llvm_bodies.proofs.read.keep_line.Goals as goal

pub returns : goal.returns
returns c = kept_line _ _ _ _ _ _ _ _ _ _ _ _ c.requires.line c.bit_of.ensures c.code_of.ensures c.fields_of.ensures c.in-Some.is c.requires.says c.line_of-line.ensures c.push_line.ensures
