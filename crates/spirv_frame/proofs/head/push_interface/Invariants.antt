use Rattle.std.proofs.Common.{◌≡◌, ◌++◌, ◌+◌, drop}
use Rattle.spirv_code.specs.Frame.{interface}
use Rattle.spirv_frame.proofs.head.push_interface.Given as goal

abbrev pub invariant-loop-i : goal.invariant-loop-i
invariant-loop-i l =
    l.operands ++ interface l.version (l.from + l.i) (drop l.i l.s.tables.now.table.keys) ≡ l.initial.operands ++ interface l.version l.from l.s.tables.now.table.keys
