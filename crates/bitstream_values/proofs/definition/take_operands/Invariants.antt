use Rattle.bitstream_values.specs.Operands.{AreOperands}
use Rattle.bitstream_values.proofs.definition.take_operands.Given as goal

abbrev pub invariant-loop-taken : goal.invariant-loop-taken
invariant-loop-taken l = AreOperands l.initial.cursor l.cursor l.taken l.most l.operands l.wide l.form
