use Rattle.bitstream_spelling.proofs.FramedLaws.{whole_framed}
use Rattle.bitstream_spelling.proofs.whole_is_framed.Goals as goal

pub returns : goal.returns
returns c bytes start end is fs small whole = whole_framed bytes start end is fs small whole
