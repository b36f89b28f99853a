use Rattle.bitstream_values.proofs.Records.{plain_small, plain_large, plain_small_failed, plain_large_failed, plain_short}
use Rattle.bitstream_values.proofs.record.take_plain.Goals as goal

pub returns-in-Ok : goal.returns-in-Ok
returns-in-Ok c = plain_small _ _ _ _ _ _ _ _ c.requires.few c.in-Small.ensures c.in-Ok.ensures

pub returns-in-Err : goal.returns-in-Err
returns-in-Err c = plain_small_failed _ _ _ _ _ c.in-Err.stop _ _ _ c.in-Small.ensures c.in-Err.ensures

pub returns-in-Ok-take_fields : goal.returns-in-Ok-take_fields
returns-in-Ok-take_fields c = plain_large _ _ _ _ _ _ _ c.in-Large.ensures c.in-Ok-take_fields.ensures

pub returns-in-Err-take_fields : goal.returns-in-Err-take_fields
returns-in-Err-take_fields c = plain_large_failed _ _ _ _ c.in-Err-take_fields.stop _ _ _ c.in-Large.ensures c.in-Err-take_fields.ensures

pub returns-in-Short : goal.returns-in-Short
returns-in-Short c = plain_short _ c.in-Short.ensures
