use Rattle.bitstream_values.proofs.Arrays.{no_bytes_before, no_bytes_after, bytes_failed}
use Rattle.bitstream_values.proofs.array.take_bytes.Goals as goal

pub returns-in_default : goal.returns-in_default
returns-in_default c = no_bytes_before _ _ c.in_default.ensures.0

pub returns-in_default-align : goal.returns-in_default-align
returns-in_default-align c = no_bytes_after _ _ _ _ _ _ _ _ _ c.in-Some.ensures.1 c.in-Ok.ensures c.in_default-align.ensures.0

pub returns-in-Err : goal.returns-in-Err
returns-in-Err c = bytes_failed _ _ _ c.in-Err.stop _ _ _ _ _ c.in-Some.ensures.1 c.in-Err.ensures
