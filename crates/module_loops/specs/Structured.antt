-- Programs whose branch graph structured loops can have.
use Rattle.std.specs.Prelude.{ℕ, ◌≤◌, List, length}
use Rattle.dxil_form.specs.declared.program.Program.{Program}
use Rattle.dxil_form.specs.Graphs.{Graph, Crossed}
use Rattle.dxil_form.specs.Branches.{IsBranchGraph}
use Rattle.region_leaves.specs.Leaves.{AreReachable}

-- no ring of the branch graph is crossed, and at most 400 blocks are reachable
pub record IsStructured (p : Program) (blocks : List ℕ) (g : Graph) : Type 0 where
  pub reachable : AreReachable p blocks
  pub few : length blocks ≤ 400
  pub graph : IsBranchGraph p g
  pub uncrossed : Crossed g → ⊥
