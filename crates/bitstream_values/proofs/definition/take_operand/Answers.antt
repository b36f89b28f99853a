use Rattle.std.proofs.Common.{arith}
use Rattle.bitstream_values.proofs.Operands.{no_bit, no_encoding, literal_taken, fixed_taken, vbr_taken, other_taken, bit_clear, to_given}
use Rattle.bitstream_values.proofs.definition.take_operand.Goals as goal

pub returns-then-literal-eq1 : goal.returns-then-literal-eq1
returns-then-literal-eq1 c = to_given _ _ _ _ c.literal_of.ensures (literal_taken _ _ _ c.in-Some.ensures.answer _ _ c.if-literal-eq1.true c.see.ensures)

pub returns-in_default : goal.returns-in_default
returns-in_default c = no_bit _ c.in_default.ensures.answer.0

pub returns-in_default-fixed : goal.returns-in_default-fixed
returns-in_default-fixed c =
    let a = c.in-Some.ensures.answer in
    no_encoding _ _ _ a (bit_clear _ _ a.1 (omega (arith, c.in-Some.ensures.below)) c.if-literal-eq1.false) c.in_default-fixed.ensures.answer.0

pub returns-then-encoding-eq1 : goal.returns-then-encoding-eq1
returns-then-encoding-eq1 c =
    let a = c.in-Some.ensures.answer in
    let zero_bit = bit_clear _ _ a.1 (omega (arith, c.in-Some.ensures.below)) c.if-literal-eq1.false in
    to_given _ _ _ _ c.fixed_of.ensures (fixed_taken _ _ _ a zero_bit _ _ c.in-Some-fixed.ensures.answer _ _ c.if-encoding-eq1.true c.see-then-encoding-eq1.ensures)

pub returns-then-encoding-eq2 : goal.returns-then-encoding-eq2
returns-then-encoding-eq2 c =
    let a = c.in-Some.ensures.answer in
    let zero_bit = bit_clear _ _ a.1 (omega (arith, c.in-Some.ensures.below)) c.if-literal-eq1.false in
    to_given _ _ _ _ c.vbr_of.ensures (vbr_taken _ _ _ a zero_bit _ _ c.in-Some-fixed.ensures.answer _ _ c.if-encoding-eq2.true c.see-then-encoding-eq2.ensures)

pub returns : goal.returns
returns c =
    let a = c.in-Some.ensures.answer in
    let zero_bit = bit_clear _ _ a.1 (omega (arith, c.in-Some.ensures.below)) c.if-literal-eq1.false in
    other_taken _ _ _ a zero_bit _ _ c.in-Some-fixed.ensures.answer _ c.without_width.ensures c.if-encoding-eq1.false c.if-encoding-eq2.false c.in-Some-fixed.ensures.below
