-- The registers that code behind a range test needs variables for.
use Rattle.std.specs.Prelude.{◌≡◌, ℕ, ◌<◌, List, length, Some, slice_get, Contains}
use Rattle.std.specs.List.{flat_map}
use Rattle.dxil_form.specs.declared.value.Ty.{Ty}
use Rattle.dxil_form.specs.declared.value.Reg.{Reg}
use Rattle.dxil_form.specs.declared.value.Operand.TheVariants as operand
use Rattle.dxil_form.specs.declared.instr.Instr.{Instr}
use Rattle.dxil_form.specs.declared.instr.Instr.TheVariants.{Load, Store, Atomic, Swap}
use Rattle.dxil_form.specs.declared.block.Term.{Term}
use Rattle.dxil_form.specs.declared.block.Block.{Block}
use Rattle.dxil_form.specs.declared.program.Program.{Program}
use Rattle.dxil_form.specs.Registers.{Spot, At_phi, Sets, IsCrossing, typed, set_by, reads, term_operands}
use Rattle.dxil_form.specs.Sound.{LineAt, EndAt}

-- a load, a store, an atomic or a swap
abbrev pub IsAccess : Instr → Type 0
IsAccess (Load to mask target addr) = Unit {0}
IsAccess (Store mask target addr x y z w) = Unit {0}
IsAccess (Atomic to op target addr value) = Unit {0}
IsAccess (Swap to target addr compare value) = Unit {0}
IsAccess _ = ⊥

-- line n of block b is an access
pub record AccessAt (p : Program) (b n : ℕ) : Type 0 where
  pub instr : Instr
  pub line : LineAt p b n instr
  pub access : IsAccess instr

-- The register is crossing, an access sets it, an access reads it, or the block that sets it reads it behind an access, in a line or in its terminator.
pub data IsNeeded (p : Program) (reg : Reg) : Type 0 where
  crosses : IsCrossing p reg → IsNeeded p reg
  set_by_access : (b n : ℕ) (instr : Instr) (ty : Ty) → LineAt p b n instr → IsAccess instr → Contains (set_by instr) (typed reg ty) → IsNeeded p reg
  read_by_access : (b n : ℕ) (instr : Instr) (ty : Ty) → LineAt p b n instr → IsAccess instr → Contains (reads instr) (operand.Reg reg ty) → IsNeeded p reg
  read_behind : (b m n : ℕ) (instr : Instr) (spot : Spot) (t ty : Ty) → Sets p b spot reg t → AccessAt p b m → m < n → LineAt p b n instr → Contains (reads instr) (operand.Reg reg ty) → IsNeeded p reg
  read_at_end : (b m : ℕ) (term : Term) (spot : Spot) (t u ty : Ty) → Sets p b spot reg t → AccessAt p b m → EndAt p b term → Contains (term_operands term) (typed (operand.Reg reg ty) u) → IsNeeded p reg

-- and no phi sets it
pub record IsHeld (p : Program) (reg : Reg) : Type 0 where
  pub needed : IsNeeded p reg
  pub no_phi : (b n : ℕ) (ty : Ty) → Sets p b (At_phi n) reg ty → ⊥

-- such registers, each once
pub record AreHeld (p : Program) (registers : List Reg) : Type 0 where
  pub each : (i : ℕ) (reg : Reg) → slice_get registers i ≡ Some reg → IsHeld p reg
  pub once : (i j : ℕ) (reg : Reg) → slice_get registers i ≡ Some reg → slice_get registers j ≡ Some reg → i ≡ j

-- the phis of all blocks
abbrev pub phi_count : Program → ℕ
phi_count p = length (flat_map (λ (block : Block). block.phis) p.blocks)
