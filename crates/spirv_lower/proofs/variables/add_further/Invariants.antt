use Rattle.std.proofs.Common.{◌≡◌, drop}
use Rattle.spirv_code.specs.Further.{add_slots, further_slots}
use Rattle.spirv_lower.proofs.variables.add_further.Given as goal

abbrev pub invariant-loop-block : goal.invariant-loop-block
invariant-loop-block l = add_slots l.slots.keys (further_slots (drop l.block-index l.blocks)) ≡ add_slots l.initial.slots.keys (further_slots l.blocks)
