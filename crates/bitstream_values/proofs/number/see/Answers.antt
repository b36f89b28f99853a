use Rattle.bitstream_values.proofs.Taking.{wide_seen}
use Rattle.bitstream_values.proofs.number.see.Goals as goal

pub returns-in-Wide : goal.returns-in-Wide
returns-in-Wide c = wide_seen _ _ _ _ _ c.in-Wide.ensures c.pass.ensures
