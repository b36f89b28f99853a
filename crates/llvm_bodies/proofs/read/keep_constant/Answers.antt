use Rattle.llvm_bodies.proofs.Keeping.{kept_constant}
use Rattle.llvm_bodies.proofs.read.keep_constant.Goals as goal

pub returns : goal.returns
returns c = λ m. kept_constant m _ _ _ _ _ _ _ _ _ c.requires.constant c.requires.other c.bit_of.ensures c.code_of.ensures c.fields_of-stated.ensures c.in-Ok.ensures c.push_constant.ensures
