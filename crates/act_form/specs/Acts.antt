-- Which accesses, atomics and barriers stand in the words of a program's module, and which of the operations on values that neither addresses nor tests need.
--
-- Opcodes, storage classes, scopes and semantics are those of SPIR-V 1.6: Load 61, Store 62, ControlBarrier 224, MemoryBarrier 225, AtomicExchange 229, AtomicCompareExchange 230, other atomics 234 to 242; Input 1, Function 7; Device 1, Workgroup 2; AcquireRelease 8, UniformMemory 0x40, WorkgroupMemory 0x100. No other instruction on memory stands in a module that is formed (`IsFormed`). The operations are SDiv 135, UMod 137, SRem 138, BitReverse 204 and BitCount 205.
use Rattle.std.specs.Prelude.{◌≡◌, ℕ, ◌+◌, ◌*◌, Bool, true, false, ◌&&◌, ◌||◌, nat_eq, nat_le, if◌then◌else◌, List, [], ◌∷◌, Option, Some, None, slice_get, option_and_then}
use Rattle.std.specs.List.{flat_map}
use Rattle.dxil_form.specs.declared.instr.BinOp.{BinOp}
use Rattle.dxil_form.specs.declared.instr.BinOp.TheVariants as bin
use Rattle.dxil_form.specs.declared.instr.OneOp.{OneOp}
use Rattle.dxil_form.specs.declared.instr.OneOp.TheVariants as one
use Rattle.dxil_form.specs.declared.instr.Addr.{Addr}
use Rattle.dxil_form.specs.declared.instr.Addr.TheVariants.{Byte, Element, Row, Index}
use Rattle.dxil_form.specs.declared.instr.Target.{Target}
use Rattle.dxil_form.specs.declared.instr.Target.TheVariants.{Buffer, Shared}
use Rattle.dxil_form.specs.declared.instr.Scope.{Scope}
use Rattle.dxil_form.specs.declared.instr.Scope.TheVariants.{Nobody, Group, Device}
use Rattle.dxil_form.specs.declared.instr.Instr.{Instr}
use Rattle.dxil_form.specs.declared.instr.Instr.TheVariants as instr
use Rattle.dxil_form.specs.declared.block.Block.{Block}
use Rattle.dxil_form.specs.declared.program.Program.{Program}
use Rattle.dxil_form.specs.declared.region.Region.{Region}
use Rattle.dxil_form.specs.Branches.{declared_graph}
use Rattle.dxil_form.specs.Graphs.{Reached}
use Rattle.dxil_form.specs.Registers.{parts_of}
use Rattle.dxil_form.specs.Sound.{Sound}
use Rattle.dxil_form.specs.Wired.{Wired}
use Rattle.spv_form.specs.declared.module.Inst.{Inst}
use Rattle.spv_form.specs.declared.module.Module.{Module}
use Rattle.spv_form.specs.declared.module.Version.{Version}
use Rattle.spirv_meaning.specs.Names.{is_some_at}
use Rattle.spirv_meaning.specs.Bindings.{Bindings, AreApart}
use Rattle.spirv_meaning.specs.Target.{Value, Word, storage, fixed}
use Rattle.phi_demotion.specs.declared.slots.Slots.{Slots}
use Rattle.phi_demotion.specs.Slots.{AreSlots}
use Rattle.spirv_code.specs.Accesses.{atomic_opcode}
use Rattle.spirv_code.specs.Frame.{module_of}
use Rattle.chosen_plan.specs.Chosen.{plan_for}
use Rattle.module_form.specs.Form.{gather}

-- what an instruction does with memory that others see, or how it orders such memory, with the values of its scopes and semantics; or which operation it is
pub data Act : Type 0 where
  Loads : Act
  Stores : Act
  -- an atomic of this opcode
  Updates : (opcode : ℕ) → (scope semantics : Option Value) → Act
  -- a compare and exchange
  Swaps : (scope equal unequal : Option Value) → Act
  -- a barrier at which invocations wait, and one at which none does
  Syncs : (execution memory semantics : Option Value) → Act
  Orders : (memory semantics : Option Value) → Act
  -- an operation of this opcode
  Computes : (opcode : ℕ) → Act

-- ---- in the words

-- a variable of the invocation's own: one in Function, or an input
abbrev pub is_own : Module → Option ℕ → Bool
is_own m None = false
is_own m (Some id) = is_some_at (storage m id) 7 || is_some_at (storage m id) 1

-- the value of the constant that an operand names
abbrev pub constant : Module → List ℕ → ℕ → Option Value
constant m operands place = option_and_then (fixed m) (slice_get operands place)

-- an operation that neither addresses nor tests need
abbrev pub is_operation : ℕ → Bool
is_operation n = nat_eq n 135 || (nat_eq n 137 || (nat_eq n 138 || (nat_eq n 204 || nat_eq n 205)))

abbrev pub act_of : Module → ℕ → List ℕ → List Act
act_of m opcode operands =
    if nat_eq opcode 61 then (if is_own m (slice_get operands 2) then [] else Loads ∷ [])
    else
    (if nat_eq opcode 62 then (if is_own m (slice_get operands 0) then [] else Stores ∷ [])
    else
    (if nat_eq opcode 230 then Swaps (constant m operands 3) (constant m operands 4) (constant m operands 5) ∷ []
    else
    (if nat_eq opcode 229 || nat_le 234 opcode && nat_le opcode 242 then Updates opcode (constant m operands 3) (constant m operands 4) ∷ []
    else
    (if nat_eq opcode 224 then Syncs (constant m operands 0) (constant m operands 1) (constant m operands 2) ∷ []
    else
    (if nat_eq opcode 225 then Orders (constant m operands 0) (constant m operands 1) ∷ []
    else (if is_operation opcode then Computes opcode ∷ [] else []))))))

-- what an instruction does, if anything
abbrev pub acts_in : Module → Inst → List Act
acts_in m i = act_of m i.opcode i.operands

-- ---- in the program

-- the scope of an atomic: the device for a buffer, the group for a groupshared array
abbrev pub atomic_scope : Target → ℕ
atomic_scope (Buffer r) = 1
atomic_scope (Shared a) = 2

-- the memory scope of a barrier
abbrev pub memory_scope : Scope → ℕ
memory_scope Device = 1
memory_scope Group = 2
memory_scope Nobody = 2

-- acquire and release, of the memories that are named; or none
abbrev pub barrier_semantics : (uav shared : Bool) → ℕ
barrier_semantics uav shared =
    if uav || shared then 8 + (if uav then 0x40 else 0) + (if shared then 0x100 else 0) else 0

abbrev pub word : ℕ → Option Value
word n = Some (Word n)

-- a part of an element that has no room in it is in range nowhere, and nothing is done for it
abbrev pub has_room : Addr → (part : ℕ) → Bool
has_room (Byte at) part = true
has_room (Element index at stride) part = nat_le (4 * part + 4) stride
has_room (Row index) part = true
has_room (Index index) part = true

abbrev pub with_room : Act → Addr → (part : ℕ) → List Act
with_room act addr part = if has_room addr part then act ∷ [] else []

abbrev pub bin_acts : BinOp → List Act
bin_acts bin.SDiv = Computes 135 ∷ []
bin_acts bin.URem = Computes 137 ∷ []
bin_acts bin.SRem = Computes 138 ∷ []
bin_acts _ = []

abbrev pub one_acts : OneOp → List Act
one_acts one.Bfrev = Computes 204 ∷ []
one_acts one.Countbits = Computes 205 ∷ []

-- what a line does: each part is loaded or stored on its own
abbrev pub line_acts : Instr → List Act
line_acts (instr.Load to mask t addr) = flat_map (with_room Loads addr) (parts_of mask)
line_acts (instr.Store mask t addr x y z w) = flat_map (with_room Stores addr) (parts_of mask)
line_acts (instr.Atomic to op t addr value) =
    with_room (Updates (atomic_opcode op) (word (atomic_scope t)) (word 0)) addr 0
line_acts (instr.Swap to t addr compare value) = with_room (Swaps (word (atomic_scope t)) (word 0) (word 0)) addr 0
line_acts (instr.Barrier true scope uav shared) =
    Syncs (word 2) (word (memory_scope scope)) (word (barrier_semantics uav shared)) ∷ []
line_acts (instr.Barrier false scope uav shared) =
    Orders (word (memory_scope scope)) (word (barrier_semantics uav shared)) ∷ []
line_acts (instr.Bin to op t a b) = bin_acts op
line_acts (instr.One to op a) = one_acts op
line_acts _ = []

abbrev pub acts_at : Option Block → List Act
acts_at None = []
acts_at (Some block) = flat_map line_acts block.instrs

abbrev pub block_acts : Program → ℕ → List Act
block_acts p b = acts_at (slice_get p.blocks b)

-- ---- the form

-- In word order stand the acts of the blocks that are reached, each block once and each in the order of its lines; and nothing else does anything with such memory.
pub record HasActs (p : Program) (m : Module) : Type 0 where
  pub order : List ℕ
  pub every : (b : ℕ) → Reached (declared_graph p) b → (k : ℕ) × (slice_get order k ≡ Some b)
  pub reached : (k b : ℕ) → slice_get order k ≡ Some b → Reached (declared_graph p) b
  pub once : (j k b : ℕ) → slice_get order j ≡ Some b → slice_get order k ≡ Some b → j ≡ k
  pub acts : gather (acts_in m) m.insts ≡ flat_map (block_acts p) order

-- The module of every sound program has such acts.
abbrev pub ModulesHaveActs : Type 0
ModulesHaveActs =
    (p : Program) (list : List Region) (slots : Slots) (at : Bindings) (v : Version) → Sound p → Wired p list → AreSlots p slots → AreApart p at → HasActs p (module_of p list at v (plan_for p list slots))
