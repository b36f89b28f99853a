use Rattle.bitstream_values.proofs.Arrays.{many_zeros, wide_zeros, array_row, no_large_array, no_count, not_so}
use Rattle.bitstream_values.proofs.array.take_array.Goals as goal

pub returns-then-is_past : goal.returns-then-is_past
returns-then-is_past c =
    let p = c.is_past.ensures.0 c.if-is_past.true in
    rw c.too_many.ensures (many_zeros _ _ _ _ _ _ _ (c.takes_nothing-free.ensures.0 p.0) c.in-Small.ensures p.1)

pub returns-else-is_past : goal.returns-else-is_past
returns-else-is_past c = array_row _ _ _ _ _ _ _ _ _ _ c.in-Small.ensures c.take_row.ensures

pub returns-then-free : goal.returns-then-free
returns-then-free c = wide_zeros _ _ _ _ _ _ (c.takes_nothing-free.ensures.0 c.if-free.true) c.in-Large.ensures

pub returns-else-free : goal.returns-else-free
returns-else-free c = no_large_array _ _ _ c.requires.scalar (not_so _ c.if-free.false c.takes_nothing-free.ensures) c.requires.end c.in-Large.ensures

pub returns-in-Short : goal.returns-in-Short
returns-in-Short c = no_count _ _ c.in-Short.ensures
