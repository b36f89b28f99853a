-- When a state of a module's machine holds the registers of a state of a program's machine.
use Rattle.std.specs.Prelude.{◌≡◌, ℕ, ◌+◌, ◌≤◌, true, List, [], ◌∷◌, Some, None, slice_get}
use Rattle.dxil_form.specs.declared.value.Ty.{Ty}
use Rattle.dxil_form.specs.declared.value.Ty.TheVariants as ty
use Rattle.dxil_form.specs.declared.value.Reg.{Reg}
use Rattle.dxil_form.specs.declared.program.Program.{Program}
use Rattle.dxil_form.specs.Registers.{Spot, Sets}
use Rattle.spv_form.specs.declared.module.Inst.{Inst}
use Rattle.spv_form.specs.declared.module.Module.{Module}
use Rattle.dxil_meaning.specs.Launches.{Machine}
use Rattle.dxil_meaning.specs.Source as source
use Rattle.dxil_meaning.specs.Source.{Launch, Registers}
use Rattle.spirv_meaning.specs.Bindings.{Bindings}
use Rattle.spirv_meaning.specs.Target.{Value, Word, Truth, State, target, value_of}
use Rattle.spirv_code.specs.declared.key.Global.{Global}
use Rattle.spirv_code.specs.Keys.{has_key}
use Rattle.spirv_code.specs.Plans.{Context, result, kept, coming}
use Rattle.spirv_code.specs.Reads.{Env}

-- a program and a module in one launch, the ids that the module's code goes by, and what it declares
pub record Setting : Type 0 where
  pub program : Program
  pub made : Module
  pub bindings : Bindings
  pub launch : Launch
  pub context : Context
  pub table : List Global

-- the machine of the module
abbrev pub machine : Setting → Machine State
machine s = target s.made s.bindings s.launch

-- the module declares it
abbrev pub Uses : Setting → Global → Type 0
Uses s g = has_key s.table g ≡ true

-- a value of the program, in the module
abbrev pub as_value : source.Value → Value
as_value (source.Number n) = Word n
as_value (source.Truth b) = Truth b

-- the value is of the type
abbrev pub IsOf : Ty → Value → Type 0
IsOf ty.Int (Word n) = Unit {0}
IsOf ty.Int _ = ⊥
IsOf ty.Bool (Truth b) = Unit {0}
IsOf ty.Bool _ = ⊥

-- these instructions stand at this place of the module
abbrev pub Has : Module → ℕ → List Inst → Type 0
Has m place [] = Unit {0}
Has m place (i ∷ is) = (slice_get m.insts place ≡ Some i) × Has m (place + 1) is

-- The instruction at the place comes next. A register that is known since the label has its value in a result wherever it is set, and one with a variable has it there; where it is not set, some value of its type stands there. And no result stands ahead.
pub record Held (s : Setting) (env : Env) (place : ℕ) (regs : Registers) (t : State) : Type 0 where
  pub at : t.at ≡ place
  pub known : (reg : Reg) (id : ℕ) → env reg ≡ Some id → (w : Value) × (value_of s.made t id ≡ Some w) × ((b : ℕ) (spot : Spot) (type : Ty) → Sets s.program b spot reg type → IsOf type w) × ((x : source.Value) → regs reg.value reg.part ≡ Some x → w ≡ as_value x)
  pub stored : (reg : Reg) (type : Ty) (id : ℕ) → s.context.slot (kept reg type) ≡ Some id → (w : Value) × (t.locals id ≡ Some w) × IsOf type w × ((x : source.Value) → regs reg.value reg.part ≡ Some x → w ≡ as_value x)
  pub next : (reg : Reg) (type : Ty) (id : ℕ) → s.context.slot (coming reg type) ≡ Some id → (w : Value) × (t.locals id ≡ Some w) × IsOf type w
  pub typed : (b : ℕ) (spot : Spot) (reg : Reg) (type : Ty) (x : source.Value) → Sets s.program b spot reg type → regs reg.value reg.part ≡ Some x → IsOf type (as_value x)
  pub fresh : (k : ℕ) → place ≤ k → t.results (result s.context k) ≡ None
