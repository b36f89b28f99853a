-- The states at the beginning of a block, in both machines.
use Rattle.std.specs.Prelude.{◌≡◌, ℕ, ◌+◌, Some, slice_get}
use Rattle.dxil_form.specs.declared.block.Phi.{Phi}
use Rattle.dxil_form.specs.declared.block.Block.{Block}
use Rattle.dxil_meaning.specs.Source.{Registers, entry_value, first_spot}
use Rattle.dxil_meaning.specs.Source as source
use Rattle.spirv_meaning.specs.Target.{Value, State}
use Rattle.spirv_code.specs.Plans.{coming}
use Rattle.spirv_code.specs.Reads.{no_register}
use Rattle.line_runs.specs.Held.{Setting, Held, IsOf, as_value}

-- the variable that the phi reads has a value of the phi's type: that of the entry for block `from`, where the entry has one
abbrev pub Fills : Setting → Registers → (from : ℕ) → Phi → State → Type 0
Fills s regs from phi t =
    (id : ℕ) → s.context.slot (coming phi.to phi.ty) ≡ Some id → (w : Value) × (t.locals id ≡ Some w) × IsOf phi.ty w × ((v : source.Value) → entry_value regs from phi.entries ≡ Some v → w ≡ as_value v)

-- Block b begins in the program's machine, and the module's is behind the block's label: it holds the registers, of which none is known, and the variables of the block's phis have what the phis take.
pub record Begun (s : Setting) (b : ℕ) (block : Block) (site : ℕ) (x : source.State) (t : State) : Type 0 where
  pub block_is : x.block ≡ b
  pub spot_is : x.spot ≡ first_spot (slice_get s.program.blocks b)
  pub held : Held s no_register (site + 1) x.regs t
  pub phis : (n : ℕ) (phi : Phi) → slice_get block.phis n ≡ Some phi → Fills s x.regs x.previous phi t
