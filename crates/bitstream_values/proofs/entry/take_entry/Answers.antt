use Rattle.bitstream_values.proofs.EntryLaws.{not_short, no_id, no_width, no_align, no_words, entry_taken}
use Rattle.bitstream_values.proofs.entry.take_entry.Goals as goal

pub returns-then-is_short : goal.returns-then-is_short
returns-then-is_short c = no_id _ _ _ _ c.if-is_short.true c.is_short.ensures c.see-id.ensures

pub returns-then-is_short-2 : goal.returns-then-is_short-2
returns-then-is_short-2 c = no_width _ _ _ (not_short _ _ _ _ _ c.if-is_short.false c.is_short.ensures c.see-id.ensures) _ _ _ c.if-is_short-2.true c.is_short-2.ensures c.see-width.ensures

pub returns-in_default : goal.returns-in_default
returns-in_default c =
    let i = not_short _ _ _ _ _ c.if-is_short.false c.is_short.ensures c.see-id.ensures in
    let w = not_short _ _ _ _ _ c.if-is_short-2.false c.is_short-2.ensures c.see-width.ensures in
    no_align _ _ _ i _ _ w c.in_default.ensures.0

pub returns-in_default-fixed : goal.returns-in_default-fixed
returns-in_default-fixed c =
    let i = not_short _ _ _ _ _ c.if-is_short.false c.is_short.ensures c.see-id.ensures in
    let w = not_short _ _ _ _ _ c.if-is_short-2.false c.is_short-2.ensures c.see-width.ensures in
    no_words _ _ _ i _ _ w _ c.in-Some.ensures.1 c.in_default-fixed.ensures.answer.0

pub returns : goal.returns
returns c =
    let i = not_short _ _ _ _ _ c.if-is_short.false c.is_short.ensures c.see-id.ensures in
    let w = not_short _ _ _ _ _ c.if-is_short-2.false c.is_short-2.ensures c.see-width.ensures in
    entry_taken _ _ _ i _ _ w _ c.in-Some.ensures.1 _ _ c.in-Some-fixed.ensures.answer
