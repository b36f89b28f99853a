use Rattle.ruled_heads.proofs.Whole.{frames_keep_rules}
use Rattle.ruled_heads.proofs.frames_keep_rules.Goals as goal

pub returns : goal.returns
returns c = frames_keep_rules
