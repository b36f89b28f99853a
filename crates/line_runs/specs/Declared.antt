-- What the words of a module before its blocks declare.
use Rattle.std.specs.Prelude.{◌≡◌, ℕ, true, Bool, false, Some, None, [], slice_get, slice_index, ◌∷◌}
use Rattle.dxil_form.specs.declared.value.Ty.{Ty}
use Rattle.dxil_form.specs.declared.value.Ty.TheVariants as ty
use Rattle.dxil_form.specs.declared.value.Reg.{Reg}
use Rattle.dxil_form.specs.declared.program.Resource.{Resource}
use Rattle.dxil_form.specs.declared.program.Kind.{Kind}
use Rattle.dxil_form.specs.declared.program.Kind.TheVariants as kind
use Rattle.dxil_form.specs.Registers.{Spot, Sets}
use Rattle.spv_form.specs.declared.module.Inst.{Inst}
use Rattle.spirv_meaning.specs.Names.{begun_at}
use Rattle.spirv_meaning.specs.Target as spv
use Rattle.spirv_meaning.specs.Target.{Value, Pointer, Word, Truth, Loads, Chains, Lengths, Extracts, Chooses, One_operand, Two_operands, Atomics, Swaps, kind_of, fixed, is_integer, has_type, pointee, is_class, label_at, decoration, local_size, buffer_of, over_vectors, shared_number, shared_size}
use Rattle.spirv_code.specs.declared.key.Global.TheVariants as global
use Rattle.spirv_code.specs.declared.key.Sort.TheVariants as sort
use Rattle.spirv_code.specs.declared.key.BuiltIn.{BuiltIn}
use Rattle.spirv_code.specs.declared.key.Slot.{Slot}
use Rattle.spirv_code.specs.declared.key.Slot.TheVariants.{Next, Kept, Want, Pick}
use Rattle.spirv_code.specs.Keys.{built_in_number}
use Rattle.spirv_code.specs.Plans.{inst, result, kept}
use Rattle.line_runs.specs.Held.{Setting, Uses, IsOf}

-- the type of a register, by whether it holds truth values
abbrev pub type_of : Bool → Ty
type_of true = ty.Bool
type_of false = ty.Int

-- the type of what a variable of the function holds
abbrev pub held_type : Slot → Ty
held_type (Next value part truth) = type_of truth
held_type (Kept value part truth) = type_of truth
held_type Want = ty.Int
held_type Pick = ty.Int

-- the id is a variable of this storage class
pub record IsVariable (s : Setting) (id class : ℕ) : Type 0 where
  pub pointer : fixed s.made id ≡ Some (Pointer id [])
  pub class_is : is_class s.made id class ≡ true

-- a variable of the function takes values of its type
pub record IsLocal (s : Setting) (slot : Slot) (id : ℕ) : Type 0 where
  pub variable : IsVariable s id 7
  pub takes : (w : Value) → IsOf (held_type slot) w → has_type s.made (pointee s.made id) w ≡ true

-- a built-in input
pub record IsInput (s : Setting) (b : BuiltIn) (id : ℕ) : Type 0 where
  pub variable : IsVariable s id 1
  pub holds : decoration s.made.insts id 11 ≡ Some (built_in_number b)

-- whether a resource is a list of rows
abbrev pub has_rows : Kind → Bool
has_rows kind.Raw = false
has_rows (kind.Structured stride) = false
has_rows (kind.Constant rows) = true

abbrev pub buffer_class : Kind → ℕ
buffer_class kind.Raw = 12
buffer_class (kind.Structured stride) = 12
buffer_class (kind.Constant rows) = 2

-- the variable over a resource
pub record IsBuffer (s : Setting) (r : ℕ) (resource : Resource) (id : ℕ) : Type 0 where
  pub variable : IsVariable s id (buffer_class resource.kind)
  pub rows : over_vectors s.made id ≡ has_rows resource.kind
  pub stands_for : buffer_of s.made s.bindings id ≡ Some r

-- the variable of a groupshared array
pub record IsArray (s : Setting) (a id : ℕ) : Type 0 where
  pub variable : IsVariable s id 4
  pub number : shared_number s.made.insts id 0 ≡ Some a
  pub size : shared_size s.made id ≡ slice_index s.program.shared a

-- an instruction of the kind gives a value to an id of its own
abbrev pub gives_result : spv.Kind → Bool
gives_result Loads = true
gives_result Chains = true
gives_result Lengths = true
gives_result Extracts = true
gives_result Chooses = true
gives_result (One_operand f) = true
gives_result (Two_operands f) = true
gives_result (Atomics op) = true
gives_result Swaps = true
gives_result _ = false

-- an instruction of such a kind stands at the place
pub record HasResult (s : Setting) (place : ℕ) : Type 0 where
  pub i : Inst
  pub kind : spv.Kind
  pub here : slice_get s.made.insts place ≡ Some i
  pub known : kind_of i.opcode ≡ Some kind
  pub gives : gives_result kind ≡ true

-- Constants and variables have the values that their keys say; the thread counts are the program's; the result of an instruction is declared nowhere; a label inside a leaf stands at its own place alone and begins no block; no two variables of the function share an id; and a register's variable is of the type with which it is set.
pub record Declares (s : Setting) : Type 0 where
  pub numbers : (n : ℕ) → Uses s (global.Number n) → fixed s.made (s.context.key (global.Number n)) ≡ Some (Word n)
  pub truths : (b : Bool) → Uses s (global.Truth b) → fixed s.made (s.context.key (global.Truth b)) ≡ Some (Truth b)
  pub integers : Uses s (global.Plain sort.Int) → is_integer s.made (s.context.key (global.Plain sort.Int)) ≡ true
  pub inputs : (b : BuiltIn) → Uses s (global.Input b) → IsInput s b (s.context.key (global.Input b))
  pub buffers : (r : ℕ) (resource : Resource) → Uses s (global.Buffer r) → slice_get s.program.resources r ≡ Some resource → IsBuffer s r resource (s.context.key (global.Buffer r))
  pub arrays : (a : ℕ) → Uses s (global.Shared a) → IsArray s a (s.context.key (global.Shared a))
  pub local : local_size s.made.insts ≡ s.program.local
  pub results : (place : ℕ) → HasResult s place → fixed s.made (result s.context place) ≡ None
  pub inner : (place : ℕ) → slice_get s.made.insts place ≡ Some (inst 248 (result s.context place ∷ [])) → (label_at s.made.insts (result s.context place) 0 ≡ Some place) × (begun_at s.made place ≡ [])
  pub locals : (slot : Slot) (id : ℕ) → s.context.slot slot ≡ Some id → IsLocal s slot id
  pub apart : (a b : Slot) (id : ℕ) → s.context.slot a ≡ Some id → s.context.slot b ≡ Some id → a ≡ b
  pub set : (reg : Reg) (type : Ty) (id : ℕ) → s.context.slot (kept reg type) ≡ Some id → (b : ℕ) × (spot : Spot) × Sets s.program b spot reg type
