use Rattle.std.proofs.Common.{◌≡◌, ◌++◌, take}
use Rattle.spirv_frame.proofs.head.thread_counts.Given as goal

abbrev pub invariant-loop-count : goal.invariant-loop-count
invariant-loop-count l = l.operands ≡ l.initial.operands ++ take l.count-index l.s.program.now.local
