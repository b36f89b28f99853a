-- One dispatch over all blocks of a program.
use Rattle.std.specs.Prelude.{◌≡◌, ℕ, List}
use Rattle.dxil_form.specs.declared.program.Program.{Program}
use Rattle.dxil_form.specs.declared.region.Region.{Region}
use Rattle.region_laws.specs.Roots.{closed}
use Rattle.region_leaves.specs.Leaves.{AreReachable, leaves_of, placed_from}

-- a leaf for each reachable block, and behind them, where there are several, one dispatch over them
pub record IsOneDispatch (p : Program) (list : List Region) : Type 0 where
  pub blocks : List ℕ
  pub reachable : AreReachable p blocks
  pub is : list ≡ closed (leaves_of blocks) (placed_from 0 blocks)
