use Rattle.ruled_exits.proofs.Whole.{splits_keep_rules}
use Rattle.ruled_exits.proofs.splits_keep_rules.Goals as goal

pub returns : goal.returns
returns c = splits_keep_rules
