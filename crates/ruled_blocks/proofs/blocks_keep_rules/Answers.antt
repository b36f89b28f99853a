use Rattle.ruled_blocks.proofs.Whole.{blocks_keep_rules}
use Rattle.ruled_blocks.proofs.blocks_keep_rules.Goals as goal

pub returns : goal.returns
returns c = blocks_keep_rules
