use Rattle.bitstream_values.proofs.Records.{fields_row, no_large_fields, no_fields}
use Rattle.bitstream_values.proofs.record.take_fields.Goals as goal

pub returns-in-Small : goal.returns-in-Small
returns-in-Small c = fields_row _ _ _ _ _ _ _ _ _ c.in-Small.ensures c.take_row.ensures

pub returns-in-Large : goal.returns-in-Large
returns-in-Large c = no_large_fields _ _ c.requires.end c.in-Large.ensures

pub returns-in-Short : goal.returns-in-Short
returns-in-Short c = no_fields _ c.in-Short.ensures
