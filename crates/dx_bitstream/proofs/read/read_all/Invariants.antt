use Rattle.std.proofs.Common.{◌-◌}
use Rattle.dx_bitstream.specs.Steps.{IsAtFront, IsSameRead}
use Rattle.dx_bitstream.proofs.read.read_all.Given as goal

abbrev pub invariant-steps : goal.invariant-steps
invariant-steps l = record { come : IsAtFront l.reader; same : IsSameRead l.initial.reader l.reader }

abbrev pub decreases-steps : goal.decreases-steps
decreases-steps l = l.reader.cursor.end - l.reader.cursor.place
