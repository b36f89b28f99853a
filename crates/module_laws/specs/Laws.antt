-- What holds of the module of every program.
use Rattle.std.specs.Prelude.{◌≡◌, List, length}
use Rattle.dxil_form.specs.declared.program.Program.{Program}
use Rattle.dxil_form.specs.declared.region.Region.{Region}
use Rattle.dxil_form.specs.Sound.{Sound}
use Rattle.spv_form.specs.declared.module.Version.{Version}
use Rattle.spirv_meaning.specs.Bindings.{Bindings, AreApart}
use Rattle.phi_demotion.specs.declared.slots.Slots.{Slots}
use Rattle.phi_demotion.specs.Slots.{AreSlots}
use Rattle.program_regions.specs.Chosen.{AreRegions}
use Rattle.spirv_code.specs.Plans.{Plan}
use Rattle.spirv_code.specs.Frame.{module_of}
use Rattle.chosen_plan.specs.Chosen.{plan_for}
use Rattle.module_laws.specs.Rules.{KeepsRules}
use Rattle.module_laws.specs.Loops.{HasLoops}

-- The module of each sound program over the regions of its branch graph keeps the rules, where no two resources have one set and binding.
abbrev pub ModulesKeepRules : Type 0
ModulesKeepRules =
    (p : Program) (list : List Region) (slots : Slots) (at : Bindings) (v : Version) → Sound p → AreRegions p list → AreSlots p slots → AreApart p at → KeepsRules (module_of p list at v (plan_for p list slots))

-- and has the loops and switches of that graph
abbrev pub ModulesHaveLoops : Type 0
ModulesHaveLoops =
    (p : Program) (list : List Region) (at : Bindings) (v : Version) (plan : Plan) → Sound p → AreRegions p list → plan.regions ≡ length list → HasLoops p (module_of p list at v plan)
