use Rattle.head_sites.proofs.Whole.{meet_heads}
use Rattle.head_sites.proofs.headers_meet_their_heads.Goals as goal

pub returns : goal.returns
returns c = meet_heads
