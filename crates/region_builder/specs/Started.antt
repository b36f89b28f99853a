-- What stands before and after the rewriting.
use Rattle.std.specs.Prelude.{◌≡◌, ◌↔◌, ℕ, ◌<◌, ◌≤◌, true, List, length, Some, slice_get}
use Rattle.dxil_form.specs.declared.program.Program.{Program}
use Rattle.dxil_form.specs.declared.region.Region.{Region}
use Rattle.dxil_form.specs.Graphs.{Graph}
use Rattle.dxil_form.specs.Branches.{branches}
use Rattle.dxil_form.specs.Sound.{Sound}
use Rattle.dxil_form.specs.Walks.{Goes}
use Rattle.dxil_form.specs.Wired.{MayWant}
use Rattle.flow_graph.specs.Shapes.{plain}
use Rattle.region_laws.specs.Roots.{HasRoot, WiredRoots}
use Rattle.region_laws.specs.Paths.{RootsPass}
use Rattle.region_leaves.specs.Leaves.{AreReachable, leaves_of, placed_from}
use Rattle.region_builder.specs.Loops.{LoopsAreOnRings, ArmsAreSole}
use Rattle.region_builder.specs.declared.partial.Partial.{Partial}

-- node i of the graph stands for the i-th of the blocks, all nodes are live, and the edges are the branches
pub record IsNodeGraph (p : Program) (blocks : List ℕ) (g : Graph) : Type 0 where
  pub count : g.count ≡ length blocks
  pub live : (i : ℕ) → (g.live i ≡ true) ↔ (i < length blocks)
  pub edges : (i j : ℕ) → (g.edge i j ≡ true) ↔ ((b : ℕ) × (k : ℕ) × (slice_get blocks i ≡ Some b) × (slice_get blocks j ≡ Some k) × (branches p b k ≡ true))

-- a leaf and a root for each reachable block, and their graph
pub record IsStarted (p : Program) (partial : Partial) : Type 0 where
  pub sound : Sound p
  pub blocks : List ℕ
  pub reachable : AreReachable p blocks
  pub few : length blocks ≤ 400
  pub list : partial.list ≡ leaves_of blocks
  pub roots : partial.roots ≡ placed_from 0 blocks
  pub graph : IsNodeGraph p blocks (plain partial.graph)

-- the nodes of the graph are numbered by the reachable blocks, the live ones are those of the blocks that enter roots, and edges join live nodes
pub record HasNodes (blocks : List ℕ) (roots : List (ℕ × ℕ)) (g : Graph) : Type 0 where
  pub count : g.count ≡ length blocks
  pub live : (i : ℕ) → (g.live i ≡ true) ↔ ((b : ℕ) × (r : ℕ) × (slice_get blocks i ≡ Some b) × HasRoot roots b r)
  pub edges : (i j : ℕ) → g.edge i j ≡ true → (g.live i ≡ true) × (g.live j ≡ true)

-- an edge leads from a root to each root that it may want
abbrev pub WantsAlongEdges : Program → List ℕ → List Region → List (ℕ × ℕ) → Graph → Type 0
WantsAlongEdges p blocks list roots g =
    (i b r : ℕ) → slice_get blocks i ≡ Some b → HasRoot roots b r → (j k : ℕ) → slice_get blocks j ≡ Some k → (g.edge i j ≡ true) ↔ MayWant p list r k

-- and it wants that root after some walk
abbrev pub WalksAlongEdges : Program → List ℕ → List Region → List (ℕ × ℕ) → Graph → Type 0
WalksAlongEdges p blocks list roots g =
    (i b r : ℕ) → slice_get blocks i ≡ Some b → HasRoot roots b r → (j k : ℕ) → slice_get blocks j ≡ Some k → (g.edge i j ≡ true) ↔ ((w : List ℕ) × Goes p list r w (Some k))

-- regions under the roots that are left
pub record IsPartial (p : Program) (partial : Partial) : Type 0 where
  pub sound : Sound p
  pub blocks : List ℕ
  pub reachable : AreReachable p blocks
  pub few : length blocks ≤ 400
  pub wired : WiredRoots p partial.list partial.roots
  pub nodes : HasNodes blocks partial.roots (plain partial.graph)
  pub wants : WantsAlongEdges p blocks partial.list partial.roots (plain partial.graph)
  pub passes : RootsPass p partial.list partial.roots
  pub walks : WalksAlongEdges p blocks partial.list partial.roots (plain partial.graph)
  pub loops : LoopsAreOnRings p partial.list
  pub arms : ArmsAreSole p partial.list
