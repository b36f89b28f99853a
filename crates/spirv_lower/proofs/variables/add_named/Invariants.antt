use Rattle.std.proofs.Common.{◌≡◌, drop}
use Rattle.spirv_code.specs.Further.{add_slots, named_all}
use Rattle.spirv_lower.proofs.variables.add_named.Given as goal

abbrev pub invariant-loop-operand : goal.invariant-loop-operand
invariant-loop-operand l = add_slots l.slots.keys (named_all (drop l.operand-index l.operands)) ≡ add_slots l.initial.slots.keys (named_all l.operands)
