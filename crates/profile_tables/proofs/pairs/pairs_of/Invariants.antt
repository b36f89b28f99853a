use Rattle.std.proofs.Common.{◌≡◌, ◌++◌, length}
use Rattle.profile_tables.specs.Parts.{pairs_of}
use Rattle.profile_tables.proofs.pairs.pairs_of.Given as goal

abbrev pub invariant-loop-rest : goal.invariant-loop-rest
invariant-loop-rest l = l.pairs ++ pairs_of l.rest ≡ pairs_of l.numbers

abbrev pub decreases-loop-rest : goal.decreases-loop-rest
decreases-loop-rest l = length l.rest
