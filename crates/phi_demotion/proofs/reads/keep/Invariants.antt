use Rattle.std.proofs.Common.{◌≡◌, ◌++◌, take}
use Rattle.phi_demotion.proofs.reads.keep.Given as goal

abbrev pub invariant-loop-operand : goal.invariant-loop-operand
invariant-loop-operand l =
    l.list ≡ l.initial.list ++ take l.operand-index l.operands
