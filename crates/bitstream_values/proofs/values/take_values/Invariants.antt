use Rattle.std.proofs.Common.{drop}
use Rattle.bitstream_values.specs.Rows.{IsPart}
use Rattle.bitstream_values.proofs.values.take_values.Given as goal

abbrev pub invariant-loop-index : goal.invariant-loop-index
invariant-loop-index l = IsPart l.initial.cursor l.cursor l.operands (drop l.index l.operands) l.most l.initial.now l.now l.initial.fields l.fields
