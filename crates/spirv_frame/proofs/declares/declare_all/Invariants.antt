use Rattle.std.proofs.Common.{◌≡◌, ◌++◌, ◌+◌, drop}
use Rattle.spirv_code.specs.Frame.{declarations}
use Rattle.spirv_code.specs.Plans.{global_id}
use Rattle.spirv_table.specs.Tables.{plan_of}
use Rattle.spirv_frame.proofs.declares.declare_all.Given as goal

abbrev pub invariant-loop-i : goal.invariant-loop-i
invariant-loop-i l =
    l.code ++ declarations l.s.program.now (global_id (plan_of l.s.tables.now)) (l.from + l.i) (drop l.i l.s.tables.now.table.keys) ≡ l.initial.code ++ declarations l.s.program.now (global_id (plan_of l.s.tables.now)) l.from l.s.tables.now.table.keys
