use Rattle.bitstream_values.specs.Rows.{IsTaken}
use Rattle.bitstream_values.proofs.row.take_row.Given as goal

abbrev pub invariant-loop-taken : goal.invariant-loop-taken
invariant-loop-taken l = IsTaken l.initial.cursor l.cursor l.operand l.taken l.most l.initial.now l.now l.initial.fields l.fields
