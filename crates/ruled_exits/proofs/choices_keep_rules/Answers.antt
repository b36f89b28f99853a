use Rattle.ruled_exits.proofs.Whole.{choices_keep_rules}
use Rattle.ruled_exits.proofs.choices_keep_rules.Goals as goal

pub returns : goal.returns
returns c = choices_keep_rules
