-- The theorem holds.
use Rattle.ruled_lines.proofs.lines_keep_rules.Goals as goal
use Rattle.ruled_lines.proofs.Whole.{lines_keep_rules}

pub returns : goal.returns
returns c = lines_keep_rules
