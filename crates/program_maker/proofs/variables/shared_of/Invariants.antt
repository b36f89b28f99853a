use Rattle.std.proofs.Common.{◌≡◌}
use Rattle.program_maker.proofs.MarkLaws.{words_so_far}
use Rattle.program_maker.proofs.variables.shared_of.Given as goal

abbrev pub invariant-loop-variable : goal.invariant-loop-variable
invariant-loop-variable l = l.shared ≡ words_so_far l.pool l.named l.variable
