-- What the module of a program declares, with its regions and the slots of its registers.
use Rattle.std.specs.Prelude.{List, [], ◌∷◌, ◌++◌, map, length}
use Rattle.std.specs.List.{flat_map}
use Rattle.dxil_form.specs.declared.program.Program.{Program}
use Rattle.dxil_form.specs.declared.region.Region.{Region}
use Rattle.phi_demotion.specs.declared.slots.PhiSlot.{PhiSlot}
use Rattle.phi_demotion.specs.declared.slots.CrossSlot.{CrossSlot}
use Rattle.phi_demotion.specs.declared.slots.Slots.{Slots}
use Rattle.spirv_code.specs.declared.key.Slot.{Slot}
use Rattle.spirv_code.specs.Plans.{Plan, coming, kept}
use Rattle.spirv_code.specs.Needed.{table_of}
use Rattle.spirv_code.specs.Further.{add_slots, further_slots, want_slots, wants}

-- the variables of a phi's register
abbrev pub phi_variables : PhiSlot → List Slot
phi_variables s = coming s.reg s.ty ∷ kept s.reg s.ty ∷ []

-- the variable of a register that crosses
abbrev pub cross_variable : CrossSlot → Slot
cross_variable s = kept s.reg s.ty

-- the variables of registers: those of the slots, and those that range tests ask for
abbrev pub register_variables : Program → Slots → List Slot
register_variables p slots =
    flat_map phi_variables slots.phis ++ (map cross_variable slots.crossing ++ further_slots p.blocks)

abbrev pub variables : Program → List Region → Slots → List Slot
variables p list slots = add_slots [] (register_variables p slots ++ want_slots p list)

abbrev pub plan_for : Program → List Region → Slots → Plan
plan_for p list slots =
    record { regions = length list; slots = variables p list slots; table = table_of p list (wants p list) (variables p list slots) }
