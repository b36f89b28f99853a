-- The states of both machines that match: at the beginning of a block, and between two events of it.
use Rattle.std.specs.Prelude.{◌≡◌, ℕ, ◌+◌, Some, length, slice_get}
use Rattle.dxil_form.specs.declared.block.Block.{Block}
use Rattle.dxil_form.specs.Branches.{declared_graph}
use Rattle.dxil_form.specs.Graphs.{Reached}
use Rattle.dxil_meaning.specs.Source as source
use Rattle.spirv_meaning.specs.Target.{State}
use Rattle.spirv_code.specs.Leaves.{inner_code, block_env}
use Rattle.line_runs.specs.Held.{Setting}
use Rattle.line_runs.specs.Exits.{LeafStands}
use Rattle.block_runs.specs.Inside.{Inside}
use Rattle.leaf_runs.specs.Begun.{Begun}

-- block b stands in the program, some path leads there from block 0, and its code stands behind this site
pub record Placed (s : Setting) (i b : ℕ) (block : Block) (site : ℕ) : Type 0 where
  pub reached : Reached (declared_graph s.program) b
  pub stands : slice_get s.program.blocks b ≡ Some block
  pub leaf : LeafStands s i b block site

-- the place behind the code of a block's phis and lines, which starts at a place
abbrev pub lines_end : Setting → Block → (start : ℕ) → ℕ
lines_end s block start = start + length (inner_code s.context start block)

pub data Between (s : Setting) (i : ℕ) (x : source.State) (t : State) : Type 0 where
  at_begin : (b : ℕ) (block : Block) (site : ℕ) → Placed s i b block site → Begun s b block site x t → Between s i x t
  inside : (b : ℕ) (block : Block) (site : ℕ) → (placed : Placed s i b block site) → Inside s b block (lines_end s block placed.leaf.start) (block_env s.context placed.leaf.start block) i x t → Between s i x t
