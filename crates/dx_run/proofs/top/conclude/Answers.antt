use Rattle.std.proofs.Common.{rules}
use Rattle.dx_run.specs.Outputs.{whole, failed, lacking}
use Rattle.dx_run.proofs.top.conclude.Goals as goal

pub returns-in-Ok-clause-answer : goal.returns-in-Ok-clause-answer
returns-in-Ok-clause-answer g c = search (rules, whole)

pub returns-in-Err-Failed-clause-answer : goal.returns-in-Err-Failed-clause-answer
returns-in-Err-Failed-clause-answer g c = search (rules, failed)

pub returns-in-Err-OutOfMemory-clause-answer : goal.returns-in-Err-OutOfMemory-clause-answer
returns-in-Err-OutOfMemory-clause-answer g c = search (rules, lacking)
