-- What the code of a line asks of the registers that are known and of what the module declares.
use Rattle.std.specs.Prelude.{◌≡◌, ◌≢◌, ℕ, None, Some, false, slice_get}
use Rattle.dxil_form.specs.declared.value.Ty.{Ty}
use Rattle.dxil_form.specs.declared.value.Ty.TheVariants as ty
use Rattle.dxil_form.specs.declared.value.Reg.{Reg}
use Rattle.dxil_form.specs.declared.value.Operand.{Operand}
use Rattle.dxil_form.specs.declared.value.Operand.TheVariants as operand
use Rattle.dxil_form.specs.declared.instr.CastOp.{CastOp}
use Rattle.dxil_form.specs.declared.instr.CastOp.TheVariants as cast
use Rattle.dxil_form.specs.declared.instr.Instr.{Instr}
use Rattle.dxil_form.specs.declared.instr.Instr.TheVariants.{Bin, Cmp, Cast, Select, Copy, One, Two, Mad, Id, Size, Load, Store, Atomic, Swap, Barrier, Nothing}
use Rattle.dxil_form.specs.declared.program.Resource.{Resource}
use Rattle.dxil_form.specs.Registers.{Spot, Sets, cast_to, cast_from}
use Rattle.dxil_form.specs.Sound.{HasType, PartFits}
use Rattle.spirv_code.specs.declared.key.Global.TheVariants as global
use Rattle.spirv_code.specs.Plans.{zero_of, kept}
use Rattle.spirv_code.specs.Reads.{Env}
use Rattle.spirv_code.specs.Lines.{built_in_of}
use Rattle.line_runs.specs.Held.{Setting, Uses}
use Rattle.line_runs.specs.Declared.{has_rows}

-- what an operand needs declared
abbrev pub NeedsOf : Setting → Operand → Type 0
NeedsOf s (operand.Reg reg type) = Unit {0}
NeedsOf s (operand.Int n) = Uses s (global.Number n)
NeedsOf s (operand.Bool b) = Uses s (global.Truth b)
NeedsOf s (operand.Undef type) = Uses s (zero_of type)

-- a register that is read is known since the label, or has a variable
abbrev pub CanRead : Setting → Env → Operand → Type 0
CanRead s env (operand.Reg reg type) = env reg ≡ None → s.context.slot (kept reg type) ≢ None
CanRead s env (operand.Int n) = Unit {0}
CanRead s env (operand.Bool b) = Unit {0}
CanRead s env (operand.Undef type) = Unit {0}

-- an operand that can be read where these registers are known
pub record Ready (s : Setting) (env : Env) (a : Operand) (type : Ty) : Type 0 where
  pub typed : HasType s.program a type
  pub needs : NeedsOf s a
  pub can : CanRead s env a

-- the register is set with this type, at one place alone
pub record IsSet (s : Setting) (to : Reg) (type : Ty) : Type 0 where
  pub one : (b : ℕ) (spot : Spot) (u : Ty) → Sets s.program b spot to u → u ≡ type

-- what a cast needs declared
abbrev pub CastNeeds : Setting → CastOp → Type 0
CastNeeds s cast.Trunc = Uses s (global.Number 1) × Uses s (global.Number 0)
CastNeeds s cast.Zext = Uses s (global.Number 1) × Uses s (global.Number 0)
CastNeeds s cast.Sext = Uses s (global.Number 0xFFFF_FFFF) × Uses s (global.Number 0)

-- what a line without an event needs: its operands can be read, its register is set by it alone, and what its code names is declared
abbrev pub LineReady : Setting → Env → Instr → Type 0
LineReady s env (Bin to op type a b) = Ready s env a type × Ready s env b type × IsSet s to type
LineReady s env (Cmp to op type a b) = Ready s env a type × Ready s env b type × IsSet s to ty.Bool
LineReady s env (Cast to op a) = Ready s env a (cast_from op) × CastNeeds s op × IsSet s to (cast_to op)
LineReady s env (Select to type c a b) = Ready s env c ty.Bool × Ready s env a type × Ready s env b type × IsSet s to type
LineReady s env (Copy to type a) = Ready s env a type × IsSet s to type
LineReady s env (One to op a) = Ready s env a ty.Int × IsSet s to ty.Int
LineReady s env (Two to op a b) = Ready s env a ty.Int × Ready s env b ty.Int × IsSet s to ty.Int
LineReady s env (Mad to a b c) = Ready s env a ty.Int × Ready s env b ty.Int × Ready s env c ty.Int × IsSet s to ty.Int
LineReady s env (Id to op part) = Uses s (global.Input (built_in_of op)) × PartFits op part × IsSet s to ty.Int
LineReady s env (Size to buffer) =
    Uses s (global.Buffer buffer) × ((resource : Resource) × (slice_get s.program.resources buffer ≡ Some resource) × (has_rows resource.kind ≡ false)) × IsSet s to ty.Int
LineReady s env (Load to mask target addr) = ⊥
LineReady s env (Store mask target addr x y z w) = ⊥
LineReady s env (Atomic to op target addr value) = ⊥
LineReady s env (Swap to target addr compare value) = ⊥
LineReady s env (Barrier sync scope uav shared) = ⊥
LineReady s env Nothing = Unit {0}
