use Rattle.std.proofs.Common.{◌≡◌, drop}
use Rattle.spirv_code.specs.Needed.{add_all, slots_keys}
use Rattle.spirv_keys.proofs.regions.add_slots.Given as goal

abbrev pub invariant-loop-slot : goal.invariant-loop-slot
invariant-loop-slot l =
    add_all l.p l.table.keys (slots_keys (drop l.slot-index l.slots)) ≡ add_all l.p l.initial.table.keys (slots_keys l.slots)
