use Rattle.bitstream_values.proofs.Arrays.{blob_bytes, no_blob_count, no_large_blob}
use Rattle.bitstream_values.proofs.array.take_blob.Goals as goal

pub returns-in-Small : goal.returns-in-Small
returns-in-Small c = blob_bytes _ _ _ _ _ _ _ _ _ c.in-Small.ensures c.take_bytes.ensures

pub returns-in-Large : goal.returns-in-Large
returns-in-Large c = no_large_blob _ _ c.requires.end c.in-Large.ensures

pub returns-in-Short : goal.returns-in-Short
returns-in-Short c = no_blob_count _ c.in-Short.ensures
