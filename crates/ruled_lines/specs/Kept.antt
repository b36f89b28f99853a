-- What an instruction of a module has to keep: it uses ids that are in reach, its operands fit, and it writes no memory that is read only.
use Rattle.std.specs.Prelude.{◌≡◌, ◌⊎◌, ℕ, ◌+◌, ◌<◌, true, List, [], ◌∷◌, length, Some, slice_get, Contains}
use Rattle.dxil_form.specs.declared.program.Class.TheVariants.{Srv}
use Rattle.dxil_form.specs.declared.program.Resource.{Resource}
use Rattle.dxil_form.specs.declared.program.Program.{Program}
use Rattle.dxil_form.specs.declared.value.Ty.{Ty}
use Rattle.dxil_form.specs.declared.value.Reg.{Reg}
use Rattle.dxil_form.specs.Registers.{Spot, Sets}
use Rattle.spv_form.specs.declared.module.Inst.{Inst}
use Rattle.spv_ids.specs.Roles.{result_of, type_of}
use Rattle.spv_ids.specs.Places.{block_of}
use Rattle.id_rules.specs.Uses.{Misuses}
use Rattle.type_rules.specs.Fits.{fits}
use Rattle.decoration_rules.specs.Decorations.{marks_of}
use Rattle.decoration_rules.specs.ReadOnly.{IsReadOnly, written_by}
use Rattle.spirv_code.specs.declared.key.Storage.TheVariants as storage
use Rattle.spirv_code.specs.declared.key.Global.{Global}
use Rattle.spirv_code.specs.declared.key.Global.TheVariants.{Plain, Pointer, Number, Truth, Input, Buffer, Shared}
use Rattle.spirv_code.specs.declared.key.Slot.{Slot}
use Rattle.spirv_code.specs.Plans.{type_id}
use Rattle.spirv_code.specs.Reads.{Env}
use Rattle.spirv_code.specs.Frame.{needs, declaration, slot_sort, slot_start, slot_variable}
use Rattle.line_runs.specs.Held.{Setting, Uses}
use Rattle.frame_facts.specs.Serves.{AreKeys}
use Rattle.ruled_ids.specs.Laws.{DefineOnce}

pub record KeepsRules (insts : List Inst) (at : ℕ) (x : Inst) : Type 0 where
  pub in_reach : Misuses insts at x → ⊥
  pub fitting : fits insts x ≡ true
  pub writable : (pointer : ℕ) → written_by x ≡ Some pointer → IsReadOnly insts pointer → ⊥

-- each instruction of the code that stands at a place
abbrev pub AreKept : List Inst → ℕ → List Inst → Type 0
AreKept insts place [] = Unit {0}
AreKept insts place (x ∷ code) = KeepsRules insts place x × AreKept insts (place + 1) code

-- The id is a value of this type, and may be used at a place: the instruction that defines it stands before, ahead of all labels or in the same block.
pub record IsValueAt (insts : List Inst) (at id type : ℕ) : Type 0 where
  pub place : ℕ
  pub by : Inst
  pub there : slice_get insts place ≡ Some by
  pub defines : result_of by ≡ Some id
  pub typed : type_of by ≡ Some type
  pub before : place < at
  pub near : (block_of insts place ≡ 0) ⊎ (block_of insts place ≡ block_of insts at)

-- each register that is known is such a value, of the type with which it is set
abbrev pub KnownAt : Setting → Env → (at : ℕ) → Type 0
KnownAt s env at =
    (reg : Reg) (id : ℕ) → env reg ≡ Some id → (b : ℕ) (spot : Spot) (t : Ty) → Sets s.program b spot reg t → IsValueAt s.made.insts at id (type_id s.context t)

-- a groupshared array is one of the program's
abbrev pub IsOf : Program → Global → Type 0
IsOf p (Plain s) = Unit {0}
IsOf p (Pointer s to) = Unit {0}
IsOf p (Number n) = Unit {0}
IsOf p (Truth b) = Unit {0}
IsOf p (Input b) = Unit {0}
IsOf p (Buffer r) = Unit {0}
IsOf p (Shared a) = a < length p.shared

-- these keys are declared
abbrev pub AreUsed : Setting → List Global → Type 0
AreUsed s gs = (g : Global) → Contains gs g → IsOf s.program g → Uses s g

-- the id of the variable of a buffer that is read only, and of nothing else that is declared
pub record IsReadBuffer (s : Setting) (id : ℕ) : Type 0 where
  pub r : ℕ
  pub resource : Resource
  pub is : slice_get s.program.resources r ≡ Some resource
  pub class : resource.class ≡ Srv
  pub stands : (place : ℕ) × (slice_get s.made.insts place ≡ Some (declaration s.program s.context.key id (Buffer r)))
  pub only : (g : Global) → Uses s g → s.context.key g ≡ id → g ≡ Buffer r

-- Where what the code names is declared, ahead of the place `low`: a key's declaration stands before every label, with all that it names, and a variable of the function behind one. No id is defined twice, and only buffers that are read only are NonWritable.
pub record StandsAhead (s : Setting) (low : ℕ) : Type 0 where
  pub once : DefineOnce s.made.insts
  pub marks : (id : ℕ) → (marks_of s.made.insts id).non_writable ≡ true → IsReadBuffer s id
  pub keys : (g : Global) → Uses s g → (place : ℕ) × (slice_get s.made.insts place ≡ Some (declaration s.program s.context.key (s.context.key g) g)) × (place < low) × (block_of s.made.insts place ≡ 0)
  pub closed : (g : Global) → Uses s g → AreKeys s.table (needs s.program g)
  pub slots : (slot : Slot) (id : ℕ) → s.context.slot slot ≡ Some id → (place : ℕ) × (slice_get s.made.insts place ≡ Some (slot_variable s.context.key id slot)) × (place < low) × AreKeys s.table (Pointer storage.Function (slot_sort slot) ∷ slot_start slot ∷ [])
