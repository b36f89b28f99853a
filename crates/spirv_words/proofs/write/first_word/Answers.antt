use Rattle.std.proofs.Common.{arith}
use Rattle.spirv_words.proofs.WrittenLaws as laws
use Rattle.spirv_words.proofs.write.first_word.Goals as goal

pub returns : goal.returns
returns c = laws.first_word c.args.size c.args.opcode (omega arith) (omega arith)
