-- The module of a program does what the program does.
use Rattle.std.specs.Prelude.{List}
use Rattle.dxil_form.specs.declared.program.Program.{Program}
use Rattle.dxil_form.specs.declared.region.Region.{Region}
use Rattle.dxil_form.specs.Sound.{Sound}
use Rattle.dxil_form.specs.Wired.{Wired}
use Rattle.spv_form.specs.declared.module.Version.{Version}
use Rattle.spirv_meaning.specs.Bindings.{Bindings, AreApart}
use Rattle.spirv_meaning.specs.Same.{Same}
use Rattle.phi_demotion.specs.declared.slots.Slots.{Slots}
use Rattle.phi_demotion.specs.Slots.{AreSlots}
use Rattle.spirv_code.specs.Frame.{module_of}
use Rattle.chosen_plan.specs.Chosen.{plan_for}

-- Of each sound program, with regions that are wired, the slots of its registers, and bindings of which no two are the same, at each version: the program and its module do the same, in every launch that fits and by every schedule.
abbrev pub ModulesAreSame : Type 0
ModulesAreSame =
    (p : Program) (list : List Region) (slots : Slots) (at : Bindings) (v : Version) → Sound p → Wired p list → AreSlots p slots → AreApart p at → Same p at (module_of p list at v (plan_for p list slots))
