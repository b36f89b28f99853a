use Rattle.program_maker.proofs.MarkLaws.{IsCounting}
use Rattle.program_maker.proofs.variables.arrays_of.Given as goal

abbrev pub invariant-loop-is_named : goal.invariant-loop-is_named
invariant-loop-is_named l = IsCounting l.named l.is_named-index l.count l.arrays
