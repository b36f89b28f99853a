-- The loops of a module are those of its program's branch graph.
use Rattle.std.specs.Prelude.{◌≡◌, ℕ, List, length}
use Rattle.dxil_form.specs.declared.program.Program.{Program}
use Rattle.dxil_form.specs.declared.region.Region.{Region}
use Rattle.dxil_form.specs.Graphs.{Graph}
use Rattle.dxil_form.specs.Sound.{Sound}
use Rattle.spv_form.specs.declared.module.Version.{Version}
use Rattle.program_regions.specs.Chosen.{AreRegions}
use Rattle.spirv_meaning.specs.Bindings.{Bindings}
use Rattle.spirv_code.specs.Plans.{Plan}
use Rattle.spirv_code.specs.Frame.{module_of}
use Rattle.module_counts.specs.Counts.{how_many}
use Rattle.module_loops.specs.Heads.{HasHeads}
use Rattle.module_loops.specs.Structured.{IsStructured}

-- as many OpLoopMerge as heads
abbrev pub LoopsAreAsManyAsHeads : Type 0
LoopsAreAsManyAsHeads =
    (p : Program) (list : List Region) (at : Bindings) (v : Version) (plan : Plan) (blocks : List ℕ) (g : Graph) → Sound p → AreRegions p list → plan.regions ≡ length list → IsStructured p blocks g → HasHeads g (how_many 246 (module_of p list at v plan).insts)
