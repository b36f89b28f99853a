-- The loops of a module begin with the heads of its program's branch graph.
use Rattle.std.specs.Prelude.{◌≡◌, ℕ, List, length}
use Rattle.dxil_form.specs.declared.program.Program.{Program}
use Rattle.dxil_form.specs.declared.region.Region.{Region}
use Rattle.dxil_form.specs.Graphs.{Graph}
use Rattle.dxil_form.specs.Sound.{Sound}
use Rattle.spv_form.specs.declared.module.Version.{Version}
use Rattle.flow_rules.specs.declared.block.Merge.{Merge}
use Rattle.flow_rules.specs.Flow.{Loops}
use Rattle.flow_blocks.specs.Numbered.{blocks_of}
use Rattle.program_regions.specs.Chosen.{AreRegions}
use Rattle.spirv_meaning.specs.Bindings.{Bindings}
use Rattle.spirv_code.specs.Plans.{Plan}
use Rattle.spirv_code.specs.Frame.{module_of}
use Rattle.module_loops.specs.Heads.{IsHead}
use Rattle.module_loops.specs.Structured.{IsStructured}
use Rattle.head_sites.specs.Paths.{MeetsFirst}

-- for each loop header there is one head whose site is the first that paths of branch edges from the header's label meet, and no other block is such
abbrev pub HeadersMeetTheirHeads : Type 0
HeadersMeetTheirHeads =
    (p : Program) (list : List Region) (at : Bindings) (v : Version) (plan : Plan) (blocks : List ℕ) (g : Graph) (q : ℕ) (by : Merge) (continue_target : ℕ) → Sound p → AreRegions p list → plan.regions ≡ length list → IsStructured p blocks g → Loops (blocks_of (module_of p list at v plan).insts) q by continue_target
    → (h : ℕ) × IsHead g h × MeetsFirst (module_of p list at v plan) q h × ((k : ℕ) → MeetsFirst (module_of p list at v plan) q k → k ≡ h)
