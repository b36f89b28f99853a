-- The module of a program keeps the structure rules.
use Rattle.std.specs.Prelude.{◌≡◌, List, length}
use Rattle.dx_base.specs.First.{IsSound}
use Rattle.dxil_form.specs.declared.program.Program.{Program}
use Rattle.dxil_form.specs.declared.region.Region.{Region}
use Rattle.dxil_form.specs.Wired.{Wired}
use Rattle.spv_form.specs.declared.module.Version.{Version}
use Rattle.flow_rules.specs.Rules.{Broken}
use Rattle.flow_blocks.specs.Numbered.{blocks_of}
use Rattle.spirv_meaning.specs.Bindings.{Bindings}
use Rattle.spirv_code.specs.Plans.{Plan}
use Rattle.spirv_code.specs.Frame.{module_of}

-- Of each program whose regions are wired, at each version, with any bindings and by any plan that counts these regions, whatever variables and declarations it has: the blocks of the module's instructions break none of the rules S1 to S12.
abbrev pub ModulesKeepStructure : Type 0
ModulesKeepStructure =
    (p : Program) (list : List Region) (at : Bindings) (v : Version) (plan : Plan) → Wired p list → plan.regions ≡ length list → IsSound (Broken (blocks_of (module_of p list at v plan).insts))
