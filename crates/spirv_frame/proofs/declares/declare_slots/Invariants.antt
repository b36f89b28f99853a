use Rattle.std.proofs.Common.{◌≡◌, ◌++◌, ◌+◌, drop}
use Rattle.spirv_code.specs.Frame.{slot_variables}
use Rattle.spirv_code.specs.Plans.{global_id}
use Rattle.spirv_table.specs.Tables.{plan_of}
use Rattle.spirv_frame.proofs.declares.declare_slots.Given as goal

abbrev pub invariant-loop-i : goal.invariant-loop-i
invariant-loop-i l =
    l.code ++ slot_variables (global_id (plan_of l.s.tables.now)) (l.from + l.i) (drop l.i l.s.tables.now.slots.keys) ≡ l.initial.code ++ slot_variables (global_id (plan_of l.s.tables.now)) l.from l.s.tables.now.slots.keys
