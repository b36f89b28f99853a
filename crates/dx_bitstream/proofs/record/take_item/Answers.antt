use Rattle.std.proofs.Common.{arith, refl, ap, ◌∙◌, ℕ, ◌-◌, [], ◌∷◌, ◌++◌}
use Rattle.bitstream_spelling.specs.declared.item.Item.TheVariants.{Record}
use Rattle.dx_bitstream.proofs.Halting.{refuses, passes_records, passes_fields}
use Rattle.dx_bitstream.proofs.PlaceLaws.{untrue, true_of, where_ok}
use Rattle.dx_bitstream.proofs.RecordLaws.{rec_wide, many_top, many_records, many_fields, rec_nameless, rec_top, rec_records, rec_step}
use Rattle.dx_bitstream.proofs.record.take_item.Goals as goal

pub returns-then-is_empty : goal.returns-then-is_empty
returns-then-is_empty c = refuses _ _ _ _ _ _ c.refused-then-is_empty.ensures (omega arith) (many_top _ _ _ _ c.requires.steady c.in-Ok.ensures c.in-Many.is (true_of _ c.if-is_empty.true c.is_empty.ensures))

pub returns-then-reader-ge-MOST_RECORDS : goal.returns-then-reader-ge-MOST_RECORDS
returns-then-reader-ge-MOST_RECORDS c = passes_records _ _ _ _ _ c.limit.ensures (many_records _ _ _ _ c.requires.steady c.in-Ok.ensures c.in-Many.is (untrue _ c.if-is_empty.false c.is_empty.ensures) c.if-reader-ge-MOST_RECORDS.true)

pub returns-then-is_nameless : goal.returns-then-is_nameless
returns-then-is_nameless c = refuses _ _ _ _ _ _ c.refused-then-is_nameless.ensures (omega arith) (rec_nameless _ _ _ _ c.requires.steady c.in-Ok.ensures c.in-Taken.is _ (omega (arith, c.len.ensures, c.len-first.ensures)) (true_of _ c.if-is_nameless.true c.is_nameless.ensures))

pub returns-then-is_empty-2 : goal.returns-then-is_empty-2
returns-then-is_empty-2 c =
    refuses _ _ _ _ _ _ c.refused-then-is_empty-2.ensures (omega arith)
    (rec_top _ _ _ _ c.requires.steady c.in-Ok.ensures c.in-Taken.is _ (omega (arith, c.len.ensures, c.len-first.ensures)) (untrue _ c.if-is_nameless.false c.is_nameless.ensures) (true_of _ c.if-is_empty-2.true c.is_empty-in-Taken.ensures))

pub returns-then-reader-ge-MOST_RECORDS-2 : goal.returns-then-reader-ge-MOST_RECORDS-2
returns-then-reader-ge-MOST_RECORDS-2 c =
    passes_records _ _ _ _ _ c.limit-then-reader-ge-MOST_RECORDS-2.ensures
    (rec_records _ _ _ _ c.requires.steady c.in-Ok.ensures c.in-Taken.is _ (omega (arith, c.len.ensures, c.len-first.ensures)) (untrue _ c.if-is_nameless.false c.is_nameless.ensures) (untrue _ c.if-is_empty-2.false c.is_empty-in-Taken.ensures)
    c.if-reader-ge-MOST_RECORDS-2.true)

pub returns-in-Wide : goal.returns-in-Wide
returns-in-Wide c = refuses _ _ _ _ _ _ c.refused.ensures (omega arith) (rec_wide _ _ _ _ c.requires.steady c.in-Ok.ensures c.in-Wide.is)

pub returns-else-reader-ge-MOST_RECORDS : goal.returns-else-reader-ge-MOST_RECORDS
returns-else-reader-ge-MOST_RECORDS c = passes_fields _ _ _ _ _ c.limit-in-Many.ensures (many_fields _ _ _ _ c.requires.steady c.in-Ok.ensures c.in-Many.is (untrue _ c.if-is_empty.false c.is_empty.ensures) (omega (arith, c.if-reader-ge-MOST_RECORDS.false)))

pub returns-else-is_err : goal.returns-else-is_err
returns-else-is_err c =
    rec_step _ _ _ _ c.requires.steady c.in-Ok.ensures c.in-Taken.is _ (omega (arith, c.len.ensures, c.len-first.ensures)) (untrue _ c.if-is_nameless.false c.is_nameless.ensures) _ (untrue _ c.if-is_empty-2.false c.is_empty-in-Taken.ensures)
    (omega (arith, c.if-reader-ge-MOST_RECORDS-2.false)) (rw (c.as_slice.ensures, c.len-first.ensures) at c.name_block.ensures) refl refl refl refl refl
    (where_ok _ _ c.is_err.ensures.value c.if-is_err.false c.keep.ensures ∙ ap (λ (n : ℕ). c.take_coded.new.reader.list ++ Record c.in-Ok.coded.code n (c.len.result - c.len-first.result) c.args.bit ∷ []) c.len-first.ensures) refl
