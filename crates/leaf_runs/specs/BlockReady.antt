-- What the code of a block asks of the variables and of what the module declares.
use Rattle.std.specs.Prelude.{◌≡◌, ℕ, ◌+◌, Some, length, slice_get}
use Rattle.dxil_form.specs.declared.value.Ty.TheVariants as ty
use Rattle.dxil_form.specs.declared.block.Phi.{Phi}
use Rattle.dxil_form.specs.declared.block.Block.{Block}
use Rattle.dxil_form.specs.declared.block.Term.{Term}
use Rattle.dxil_form.specs.declared.block.Term.TheVariants.{Ret, Unreachable, Go, If, Switch}
use Rattle.dxil_form.specs.Graphs.{In}
use Rattle.spirv_code.specs.declared.key.Slot.{Slot}
use Rattle.spirv_code.specs.declared.way.Way.{Way}
use Rattle.spirv_code.specs.declared.way.Way.TheVariants.{Ends, Goes, Chooses, Splits}
use Rattle.spirv_code.specs.Plans.{kept, coming}
use Rattle.spirv_code.specs.Reads.{Env, no_register}
use Rattle.spirv_code.specs.Leaves.{entry_operand, phis_of, group_code, group_env, next_blocks, way_of, block_env}
use Rattle.line_runs.specs.Held.{Setting}
use Rattle.line_runs.specs.Ready.{Ready, IsSet}
use Rattle.block_runs.specs.Inside.{StepsReady}

-- the slot has a variable
abbrev pub HasVariable : Setting → Slot → Type 0
HasVariable s slot = (id : ℕ) × (s.context.slot slot ≡ Some id)

-- a phi has its two variables, and its register is set with its type alone
pub record PhiReady (s : Setting) (phi : Phi) : Type 0 where
  pub next : HasVariable s (coming phi.to phi.ty)
  pub own : HasVariable s (kept phi.to phi.ty)
  pub one : IsSet s phi.to phi.ty

-- a phi of a next block has the variable that it reads, and its entry for block `from` can be read
pub record EdgeReady (s : Setting) (env : Env) (from : ℕ) (phi : Phi) : Type 0 where
  pub next : HasVariable s (coming phi.to phi.ty)
  pub entry : Ready s env (entry_operand from phi.ty phi.entries) phi.ty

-- what a terminator tests can be read
abbrev pub TestedReady : Setting → Env → Term → Type 0
TestedReady s env Ret = Unit {0}
TestedReady s env Unreachable = Unit {0}
TestedReady s env (Go k) = Unit {0}
TestedReady s env (If cond there other) = Ready s env cond ty.Bool
TestedReady s env (Switch value default cases) = Ready s env value ty.Int

-- nothing is tested where only one block may follow
abbrev pub WayReady : Setting → Env → Term → Way → Type 0
WayReady s env term Ends = Unit {0}
WayReady s env term (Goes k) = Unit {0}
WayReady s env term Chooses = TestedReady s env term
WayReady s env term Splits = TestedReady s env term

-- block b, whose code stands at the place
pub record BlockReady (s : Setting) (b : ℕ) (block : Block) (place : ℕ) : Type 0 where
  pub phis : (n : ℕ) (phi : Phi) → slice_get block.phis n ≡ Some phi → PhiReady s phi
  pub lines : StepsReady s (group_env s.context no_register place block.phis) (place + length (group_code s.context place block.phis)) block.instrs
  pub nexts : (k n : ℕ) (phi : Phi) → In k (next_blocks block.term) → slice_get (phis_of (slice_get s.context.blocks k)) n ≡ Some phi → EdgeReady s (block_env s.context place block) b phi
  pub way : WayReady s (block_env s.context place block) block.term (way_of block.term)
