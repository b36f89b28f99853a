use Rattle.line_runs.proofs.Whole.{quiet_line}
use Rattle.line_runs.proofs.lines_run.Goals as goal

pub returns : goal.returns
returns c = quiet_line
