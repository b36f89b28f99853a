-- The sites of a module stand in the loops of its program's branch graph.
use Rattle.std.specs.Prelude.{◌≡◌, ℕ, List, length}
use Rattle.dxil_form.specs.declared.program.Program.{Program}
use Rattle.dxil_form.specs.declared.region.Region.{Region}
use Rattle.dxil_form.specs.Graphs.{Graph, Reached, HasDepth}
use Rattle.dxil_form.specs.Branches.{declared_graph}
use Rattle.dxil_form.specs.Sound.{Sound}
use Rattle.spv_form.specs.declared.module.Version.{Version}
use Rattle.flow_blocks.specs.Numbered.{blocks_of}
use Rattle.program_regions.specs.Chosen.{AreRegions}
use Rattle.spirv_meaning.specs.Bindings.{Bindings}
use Rattle.spirv_code.specs.Plans.{Plan}
use Rattle.spirv_code.specs.Frame.{module_of}
use Rattle.module_loops.specs.Structured.{IsStructured}
use Rattle.site_loops.specs.Sites.{InLoops, IsSite}

-- each reachable block has a site, which stands in exactly as many loop constructs as the block is deep
abbrev pub SitesStandInTheirLoops : Type 0
SitesStandInTheirLoops =
    (p : Program) (list : List Region) (at : Bindings) (v : Version) (plan : Plan) (blocks : List ℕ) (g : Graph) (b : ℕ) → Sound p → AreRegions p list → plan.regions ≡ length list → IsStructured p blocks g → Reached (declared_graph p) b
    → (q : ℕ) × (n : ℕ) × IsSite (module_of p list at v plan) b q × HasDepth g b n × InLoops (blocks_of (module_of p list at v plan).insts) q n
