-- The module of a program is formed as its opcodes say.
use Rattle.std.specs.Prelude.{List}
use Rattle.dxil_form.specs.declared.program.Program.{Program}
use Rattle.dxil_form.specs.declared.region.Region.{Region}
use Rattle.dxil_form.specs.Sound.{Sound}
use Rattle.dxil_form.specs.Wired.{Wired}
use Rattle.spv_form.specs.declared.module.Version.{Version}
use Rattle.spv_form.specs.Formed.{IsFormed}
use Rattle.spirv_meaning.specs.Bindings.{Bindings}
use Rattle.phi_demotion.specs.declared.slots.Slots.{Slots}
use Rattle.phi_demotion.specs.Slots.{AreSlots}
use Rattle.spirv_code.specs.Frame.{module_of}
use Rattle.chosen_plan.specs.Chosen.{plan_for}

-- Of each sound program, with regions that are wired and the slots of its registers, at each version and with any bindings: each instruction of the module has the operands that its opcode takes, each of its ids is from 1 to below the module's bound, and no instruction is longer than its first word can say.
abbrev pub ModulesAreFormed : Type 0
ModulesAreFormed =
    (p : Program) (list : List Region) (slots : Slots) (at : Bindings) (v : Version) → Sound p → Wired p list → AreSlots p slots → IsFormed (module_of p list at v (plan_for p list slots))
