use Rattle.std.proofs.Common.{arith, refl}
use Rattle.bitstream_values.proofs.Parts.{part_array, part_blob, part_one, part_failed, part_end}
use Rattle.bitstream_values.proofs.values.take_values.Goals as goal

pub returns-in-Array : goal.returns-in-Array
returns-in-Array c = part_array _ _ _ _ _ _ _ _ _ _ _ _ c.loop-index.invariant c.loop-index-test.true c.in-Array.is c.take_array.ensures

pub returns-in-Blob : goal.returns-in-Blob
returns-in-Blob c = part_blob _ _ _ _ _ _ _ _ _ _ _ _ c.loop-index.invariant c.loop-index-test.true c.in-Blob.is c.take_blob.ensures

pub returns-in-Err : goal.returns-in-Err
returns-in-Err c = part_failed _ _ _ _ _ _ _ _ _ _ _ c.loop-index.invariant c.loop-index-test.true refl c.in_default.not-Array c.in_default.not-Blob c.in-Err.stop _ c.in-Err.ensures

pub loop-index-preserved : goal.loop-index-preserved
loop-index-preserved c = part_one _ _ _ _ _ _ _ _ _ _ _ c.loop-index.invariant c.loop-index-test.true refl c.in_default.not-Array c.in_default.not-Blob _ _ c.in-Ok.ensures

pub returns : goal.returns
returns c = part_end _ _ _ _ _ _ _ _ _ (omega arith) c.loop-index.invariant
