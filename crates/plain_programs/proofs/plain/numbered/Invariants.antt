use Rattle.plain_programs.specs.Plain.{AreNumbered}
use Rattle.plain_programs.proofs.plain.numbered.Given as goal

abbrev pub invariant-loop-i : goal.invariant-loop-i
invariant-loop-i l = AreNumbered l.targets l.i l.cases
