use Rattle.std.proofs.Common.{◌≡◌, drop, map}
use Rattle.spirv_code.specs.Further.{add_slots}
use Rattle.chosen_plan.specs.Chosen.{cross_variable}
use Rattle.spirv_lower.proofs.variables.add_crossing.Given as goal

abbrev pub invariant-loop-cross : goal.invariant-loop-cross
invariant-loop-cross l = add_slots l.slots.keys (map cross_variable (drop l.cross-index l.crossing)) ≡ add_slots l.initial.slots.keys (map cross_variable l.crossing)
