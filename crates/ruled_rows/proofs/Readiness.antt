-- What the code of a tree of regions asks of what the module declares.
use Rattle.std.proofs.Common.{◌≡◌, ℕ, true, Some, None}
use Rattle.std.specs.Prelude.{slice_get}
use Rattle.dxil_form.specs.declared.instr.Instr.{Instr}
use Rattle.dxil_form.specs.declared.block.Block.{Block}
use Rattle.dxil_form.specs.Branches.{has, targets}
use Rattle.dxil_form.specs.Sound.{InstrFits}
use Rattle.spirv_code.specs.declared.key.Sort.TheVariants as sort
use Rattle.spirv_code.specs.declared.key.Slot.TheVariants.{Want, Pick}
use Rattle.spirv_code.specs.declared.key.Global.TheVariants.{Plain, Number}
use Rattle.spirv_code.specs.declared.way.Way.TheVariants.{Splits}
use Rattle.spirv_code.specs.Leaves.{way_of}
use Rattle.spirv_code.specs.Needed.{lines_keys, tested_keys}
use Rattle.spirv_code.specs.Exits.{no_block, tested}
use Rattle.spirv_code.specs.Trees.{Tree, Missing, Leaf, Then, Loop, Dispatch, Arms, No_arm, Arm, arm_label}
use Rattle.spirv_code.specs.Rows.{block_at}
use Rattle.line_runs.specs.Held.{Setting, Uses}
use Rattle.leaf_runs.specs.BlockReady.{HasVariable, BlockReady}
use Rattle.region_runs.proofs.Members.{Among}
use Rattle.ruled_lines.specs.Kept.{AreUsed}
use Rattle.ruled_exits.specs.Exits.{CanWant}

-- A store that a block is wanted, and a test whether it is, can be written.
pub record CanTest (s : Setting) (k : ℕ) : Type 0 where
  pub can : CanWant s k
  pub bool : Uses s (Plain sort.Bool)

-- a switch that several selections test has both variables, and each of its targets and of its arms has a number
pub record SplitReady (s : Setting) (block : Block) (arms : Arms) : Type 0 where
  pub pick : HasVariable s Pick
  pub bool : Uses s (Plain sort.Bool)
  pub targets_can : (k : ℕ) → has k (targets block.term) ≡ true → CanWant s k
  pub arms_can : (k : ℕ) (tree : Tree) → Among arms k tree → CanWant s k

-- The block of a leaf is ready, its lines are such as a file may have, and name what is declared; a target without an arm may be wanted.
pub record LeafReady (s : Setting) (b : ℕ) (block : Block) (arms : Arms) : Type 0 where
  pub ready : (place : ℕ) → BlockReady s b block place
  pub fits : (n : ℕ) (line : Instr) → slice_get block.instrs n ≡ Some line → InstrFits s.program line
  pub lines_used : AreUsed s (lines_keys s.program block.instrs)
  pub test_used : AreUsed s (tested_keys (tested block.term))
  pub loose : (k : ℕ) → has k (targets block.term) ≡ true → arm_label arms k ≡ None → CanWant s k
  pub ends : HasVariable s Want → Uses s (Number (no_block s.context))
  pub split : way_of block.term ≡ Splits → SplitReady s block arms

abbrev mutual
  pub Ready : Setting → Tree → Type 0
  Ready s Missing = ⊥
  Ready s (Leaf r b arms) = LeafReady s b (block_at s.context b) arms × AreReady s arms
  Ready s (Then r first second target) = CanTest s target × Ready s first × Ready s second
  Ready s (Loop r body head) = CanTest s head × Ready s body
  Ready s (Dispatch r arms) = CanTest s (no_block s.context) × AreReady s arms

  pub AreReady : Setting → Arms → Type 0
  AreReady s No_arm = Unit {0}
  AreReady s (Arm target tree arms) = Ready s tree × AreReady s arms
