use Rattle.std.proofs.Common.{◌≡◌, leb, true, arith, sym, ◌∙◌, rules}
use Rattle.spirv_words.proofs.OperandLaws.{is_clear_above}
use Rattle.spirv_words.proofs.operands.is_clear.Goals as goal

pub returns-then-bit-ge16 : goal.returns-then-bit-ge16
returns-then-bit-ge16 c =
    let above : leb 16 c.args.bit ≡ true = search rules in
    above ∙ sym (is_clear_above c.args.mask c.args.bit (omega arith) (omega arith))
