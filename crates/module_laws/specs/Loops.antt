-- The loops and the switches that a module has, and where its blocks stand in them.
use Rattle.std.specs.Prelude.{◌≡◌, ℕ, ◌≤◌, List}
use Rattle.std.specs.List.{sum_by}
use Rattle.dxil_form.specs.declared.program.Program.{Program}
use Rattle.dxil_form.specs.Graphs.{Graph, Ring, Reached, HasDepth}
use Rattle.dxil_form.specs.Branches.{declared_graph}
use Rattle.spv_form.specs.declared.module.Module.{Module}
use Rattle.flow_rules.specs.declared.block.Merge.{Merge}
use Rattle.flow_rules.specs.Flow.{Loops}
use Rattle.flow_blocks.specs.Numbered.{blocks_of}
use Rattle.module_counts.specs.Counts.{how_many, switches_at}
use Rattle.module_loops.specs.Heads.{IsHead, HasHeads}
use Rattle.module_loops.specs.Structured.{IsStructured}
use Rattle.site_loops.specs.Sites.{IsSite, InLoops}
use Rattle.head_sites.specs.Paths.{MeetsFirst}

-- Where no ring of the branch graph is crossed and at most 400 blocks are reachable: as many OpLoopMerge (246) as heads, and none without a ring; at most one OpSwitch (251) for each begun 16,383 cases of each reachable block's switch; each reachable block begins at a site that stands in exactly as many loop constructs as the block is deep; and from each loop header the first site that branches lead to is that of one head.
pub record HasLoops (p : Program) (m : Module) : Type 0 where
  pub heads : (blocks : List ℕ) (g : Graph) → IsStructured p blocks g → HasHeads g (how_many 246 m.insts)
  pub none : (blocks : List ℕ) (g : Graph) → IsStructured p blocks g → ((ring : List ℕ) → Ring g ring → ⊥) → how_many 246 m.insts ≡ 0
  pub switches : (blocks : List ℕ) (g : Graph) → IsStructured p blocks g → how_many 251 m.insts ≤ sum_by (switches_at p) blocks
  pub sites : (blocks : List ℕ) (g : Graph) → IsStructured p blocks g → (b : ℕ) → Reached (declared_graph p) b → (q : ℕ) × (n : ℕ) × IsSite m b q × HasDepth g b n × InLoops (blocks_of m.insts) q n
  pub headers : (blocks : List ℕ) (g : Graph) → IsStructured p blocks g → (q : ℕ) (by : Merge) (continue_target : ℕ) → Loops (blocks_of m.insts) q by continue_target → (h : ℕ) × IsHead g h × MeetsFirst m q h × ((k : ℕ) → MeetsFirst m q k → k ≡ h)
