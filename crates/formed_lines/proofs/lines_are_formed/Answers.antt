use Rattle.formed_lines.proofs.Whole.{lines_are_formed}
use Rattle.formed_lines.proofs.lines_are_formed.Goals as goal

pub returns : goal.returns
returns c = lines_are_formed
