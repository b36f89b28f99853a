use Rattle.bitstream_values.proofs.Records.{record_small, record_large, record_small_failed, record_large_failed, record_short}
use Rattle.bitstream_values.proofs.record.take_record.Goals as goal

pub returns-in-Ok : goal.returns-in-Ok
returns-in-Ok c = record_small _ _ _ _ _ _ _ _ _ c.requires.sound c.requires.few c.in-Small.ensures (rw c.behind_first.ensures at c.in-Ok.ensures)

pub returns-in-Err : goal.returns-in-Err
returns-in-Err c = record_small_failed _ _ _ _ _ _ c.in-Err.stop _ _ _ c.requires.sound c.in-Small.ensures (rw c.behind_first.ensures at c.in-Err.ensures)

pub returns-in-Ok-take_values : goal.returns-in-Ok-take_values
returns-in-Ok-take_values c = record_large _ _ _ _ _ _ _ _ c.requires.sound c.in-Large.ensures (rw c.behind_first-in-Large.ensures at c.in-Ok-take_values.ensures)

pub returns-in-Err-take_values : goal.returns-in-Err-take_values
returns-in-Err-take_values c = record_large_failed _ _ _ _ _ c.in-Err-take_values.stop _ _ _ c.requires.sound c.in-Large.ensures (rw c.behind_first-in-Large.ensures at c.in-Err-take_values.ensures)

pub returns-in-Short : goal.returns-in-Short
returns-in-Short c = record_short _ _ c.requires.sound c.in-Short.ensures
