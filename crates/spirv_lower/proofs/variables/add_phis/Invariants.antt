use Rattle.std.proofs.Common.{◌≡◌, drop}
use Rattle.std.specs.List.{flat_map}
use Rattle.spirv_code.specs.Further.{add_slots}
use Rattle.chosen_plan.specs.Chosen.{phi_variables}
use Rattle.spirv_lower.proofs.variables.add_phis.Given as goal

abbrev pub invariant-loop-phi : goal.invariant-loop-phi
invariant-loop-phi l = add_slots l.slots.keys (flat_map phi_variables (drop l.phi-index l.phis)) ≡ add_slots l.initial.slots.keys (flat_map phi_variables l.phis)
