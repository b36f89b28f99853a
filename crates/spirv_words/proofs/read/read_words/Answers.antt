use Rattle.std.proofs.Common.{arith}
use Rattle.spv_form.specs.WordRules.{Broken}
use Rattle.spirv_words.proofs.HeaderLaws.{first_is_cut}
use Rattle.spirv_words.proofs.ModuleLaws.{module_of}
use Rattle.spirv_words.proofs.read.read_words.Goals as goal

pub returns-then-len-lt-LENGTH : goal.returns-then-len-lt-LENGTH
returns-then-len-lt-LENGTH c = rw c.refused.ensures (first_is_cut c.args.words.now 0 (Broken.header_missing (omega (arith, c.if-len-lt-LENGTH.true, c.len.ensures))))

pub returns : goal.returns
returns c = (module_of c.args.words.now c.in_ok-header.header.version c.in_ok-header.header.bound c.in_ok-insts.insts c.in_ok-header.ensures c.in_ok-insts.ensures.0 c.in_ok-insts.ensures.1, c.in_ok-insts.ensures.0.formed)
