-- The regions that a program is written by.
use Rattle.std.specs.Prelude.{◌≡◌, ℕ, ◌<◌, ◌≤◌, List, [], ◌∷◌, length, Some, slice_get}
use Rattle.dxil_form.specs.declared.program.Program.{Program}
use Rattle.dxil_form.specs.declared.region.Region.{Region}
use Rattle.dxil_form.specs.declared.region.Region.TheVariants.{Leaf, Dispatch}
use Rattle.dxil_form.specs.Graphs.{Graph, Crossed}
use Rattle.dxil_form.specs.Branches.{IsBranchGraph}
use Rattle.dxil_form.specs.Wired.{Wired}
use Rattle.region_laws.specs.Paths.{PassesAll}
use Rattle.region_leaves.specs.Leaves.{AreReachable}
use Rattle.region_builder.specs.Loops.{LoopsAreOnRings, ArmsAreSole, LoopsAreHeads}
use Rattle.region_builder.specs.Bare.{IsTree, NoThen}
use Rattle.dispatch_loop.specs.Whole.{IsOneDispatch}

abbrev pub NoDispatch : List Region → Type 0
NoDispatch list = (r : ℕ) (arms : List ℕ) → slice_get list r ≡ Some (Dispatch arms) → ⊥

-- Regions that were put together: each loop is on a ring, and each arm's target has one edge into it. Where no ring is crossed, each head has one loop over the blocks that its rings pass, and there is no dispatch. Where each block has at most one edge into it, no region is a `Then`.
pub record AreNested (p : Program) (list : List Region) : Type 0 where
  pub rings : LoopsAreOnRings p list
  pub arms : ArmsAreSole p list
  pub loops : (g : Graph) → IsBranchGraph p g → (Crossed g → ⊥) → LoopsAreHeads g list
  pub no_dispatch : (g : Graph) → IsBranchGraph p g → (Crossed g → ⊥) → NoDispatch list
  pub no_then : (g : Graph) → IsBranchGraph p g → IsTree g → NoThen list

-- The regions are wired, and every path of branches passes them. They are nested where at most 400 blocks are reachable, and the leaf alone where one is; else they are one dispatch over a leaf for each.
pub record AreRegions (p : Program) (list : List Region) : Type 0 where
  pub wired : Wired p list
  pub passes : PassesAll p list
  pub few : (blocks : List ℕ) → AreReachable p blocks → length blocks ≤ 400 → AreNested p list
  pub one : (blocks : List ℕ) → AreReachable p blocks → length blocks ≡ 1 → list ≡ Leaf 0 ∷ []
  pub many : (blocks : List ℕ) → AreReachable p blocks → 400 < length blocks → IsOneDispatch p list
