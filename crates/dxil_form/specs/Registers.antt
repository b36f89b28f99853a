-- Which registers the instructions of a program set and read, of which types, and which registers cross from one place to another.
use Rattle.std.specs.Prelude.{◌≡◌, ℕ, ◌/◌, ◌%◌, ◌^◌, ◌<◌, nat_eq, if◌then◌else◌, List, [], ◌∷◌, ◌++◌, map, filter, Some, slice_get, Contains}
use Rattle.dxil_form.specs.declared.value.Ty.{Ty}
use Rattle.dxil_form.specs.declared.value.Ty.TheVariants.{Bool, Int}
use Rattle.dxil_form.specs.declared.value.Reg.{Reg}
use Rattle.dxil_form.specs.declared.value.Operand.{Operand}
use Rattle.dxil_form.specs.declared.value.Operand.TheVariants as operand
use Rattle.dxil_form.specs.declared.instr.Addr.{Addr}
use Rattle.dxil_form.specs.declared.instr.Addr.TheVariants.{Byte, Element, Row, Index}
use Rattle.dxil_form.specs.declared.instr.CastOp.{CastOp}
use Rattle.dxil_form.specs.declared.instr.CastOp.TheVariants.{Trunc, Zext, Sext}
use Rattle.dxil_form.specs.declared.instr.Instr.{Instr}
use Rattle.dxil_form.specs.declared.instr.Instr.TheVariants.{Bin, Cmp, Cast, Select, Copy, One, Two, Mad, Id, Size, Load, Store, Atomic, Swap, Barrier, Nothing}
use Rattle.dxil_form.specs.declared.block.Term.{Term}
use Rattle.dxil_form.specs.declared.block.Term.TheVariants.{Ret, Unreachable, Go, If, Switch}
use Rattle.dxil_form.specs.declared.block.Entry.{Entry}
use Rattle.dxil_form.specs.declared.block.Phi.{Phi}
use Rattle.dxil_form.specs.declared.block.Block.{Block}
use Rattle.dxil_form.specs.declared.program.Program.{Program}

-- the parts of a mask, by rising part
abbrev pub parts_of : ℕ → List ℕ
parts_of mask = filter (λ c. nat_eq (mask / 2 ^ c % 2) 1) (0 ∷ 1 ∷ 2 ∷ 3 ∷ [])

-- the one of four values that belongs to a part
abbrev pub pick : ℕ → Operand → Operand → Operand → Operand → Operand
pick c x y z w = if nat_eq c 0 then x else (if nat_eq c 1 then y else (if nat_eq c 2 then z else w))

-- a register or another operand, and its type
pub record Typed (A : Type 0) : Type 0 where
  pub item : A
  pub ty : Ty

abbrev pub typed : {A : Type 0} → A → Ty → Typed A
typed item ty = record { item = item; ty = ty }

-- a part of a value
abbrev pub part_of : ℕ → ℕ → Reg
part_of value part = record { value = value; part = part }

abbrev pub cast_to : CastOp → Ty
cast_to Trunc = Bool
cast_to Zext = Int
cast_to Sext = Int

abbrev pub cast_from : CastOp → Ty
cast_from Trunc = Int
cast_from Zext = Bool
cast_from Sext = Bool

-- the registers that an instruction sets
abbrev pub set_by : Instr → List (Typed Reg)
set_by (Bin to op ty a b) = typed to ty ∷ []
set_by (Cmp to op ty a b) = typed to Bool ∷ []
set_by (Cast to op a) = typed to (cast_to op) ∷ []
set_by (Select to ty cond a b) = typed to ty ∷ []
set_by (Copy to ty a) = typed to ty ∷ []
set_by (One to op a) = typed to Int ∷ []
set_by (Two to op a b) = typed to Int ∷ []
set_by (Mad to a b c) = typed to Int ∷ []
set_by (Id to op part) = typed to Int ∷ []
set_by (Size to buffer) = typed to Int ∷ []
set_by (Load to mask target addr) = map (λ c. typed (part_of to c) Int) (parts_of mask)
set_by (Store mask target addr x y z w) = []
set_by (Atomic to op target addr value) = typed to Int ∷ []
set_by (Swap to target addr compare value) = typed (part_of to 0) Int ∷ typed (part_of to 1) Bool ∷ []
set_by (Barrier sync scope uav shared) = []
set_by Nothing = []

abbrev pub in_address : Addr → List Operand
in_address (Byte at) = at ∷ []
in_address (Element index at stride) = index ∷ at ∷ []
in_address (Row index) = index ∷ []
in_address (Index index) = index ∷ []

-- these operands, all of type i32
abbrev pub numbers : List Operand → List (Typed Operand)
numbers operands = map (λ a. typed a Int) operands

-- all operands of an instruction, the unread ones too, with the types that their places take
abbrev pub operands_of : Instr → List (Typed Operand)
operands_of (Bin to op ty a b) = typed a ty ∷ typed b ty ∷ []
operands_of (Cmp to op ty a b) = typed a ty ∷ typed b ty ∷ []
operands_of (Cast to op a) = typed a (cast_from op) ∷ []
operands_of (Select to ty cond a b) = typed cond Bool ∷ typed a ty ∷ typed b ty ∷ []
operands_of (Copy to ty a) = typed a ty ∷ []
operands_of (One to op a) = typed a Int ∷ []
operands_of (Two to op a b) = typed a Int ∷ typed b Int ∷ []
operands_of (Mad to a b c) = typed a Int ∷ typed b Int ∷ typed c Int ∷ []
operands_of (Id to op part) = []
operands_of (Size to buffer) = []
operands_of (Load to mask target addr) = numbers (in_address addr)
operands_of (Store mask target addr x y z w) = numbers (in_address addr ++ (x ∷ y ∷ z ∷ w ∷ []))
operands_of (Atomic to op target addr value) = numbers (in_address addr ++ (value ∷ []))
operands_of (Swap to target addr compare value) = numbers (in_address addr ++ (compare ∷ value ∷ []))
operands_of (Barrier sync scope uav shared) = []
operands_of Nothing = []

abbrev pub term_operands : Term → List (Typed Operand)
term_operands Ret = []
term_operands Unreachable = []
term_operands (Go k) = []
term_operands (If cond there other) = typed cond Bool ∷ []
term_operands (Switch value default cases) = typed value Int ∷ []

-- the operands, or none where there are no parts
abbrev pub unless_empty : List ℕ → List Operand → List Operand
unless_empty [] operands = []
unless_empty (c ∷ cs) operands = operands

-- the operands that an instruction may read: those outside a store's mask are unread, and a load of no part reads nothing
abbrev pub reads : Instr → List Operand
reads (Load to mask target addr) = unless_empty (parts_of mask) (in_address addr)
reads (Store mask target addr x y z w) = in_address addr ++ map (λ c. pick c x y z w) (parts_of mask)
reads instr = map (λ a. a.item) (operands_of instr)

-- where a block sets registers: in one of its phis, or in one of its instructions
pub data Spot : Type 0 where
  At_phi : ℕ → Spot
  At_line : ℕ → Spot

-- the block sets the register there, with this type
abbrev pub SetsAt : Block → Spot → Reg → Ty → Type 0
SetsAt block (At_phi n) reg ty = (phi : Phi) × (slice_get block.phis n ≡ Some phi) × (phi.to ≡ reg) × (phi.ty ≡ ty)
SetsAt block (At_line n) reg ty =
    (instr : Instr) × (slice_get block.instrs n ≡ Some instr) × Contains (set_by instr) (typed reg ty)

-- block b of the program sets the register there, with this type
pub record Sets (p : Program) (b : ℕ) (spot : Spot) (reg : Reg) (ty : Ty) : Type 0 where
  pub block : Block
  pub stands : slice_get p.blocks b ≡ Some block
  pub sets : SetsAt block spot reg ty

-- the register is read where it need not have been set in the same block: a phi's entry names it, or an instruction or terminator reads it and no earlier instruction of its block sets it
pub data Crosses (p : Program) (reg : Reg) : Type 0 where
  by_entry : (b n k : ℕ) (block : Block) (phi : Phi) (entry : Entry) (ty : Ty) → slice_get p.blocks b ≡ Some block → slice_get block.phis n ≡ Some phi → slice_get phi.entries k ≡ Some entry → entry.value ≡ operand.Reg reg ty → Crosses p reg
  by_line : (b n : ℕ) (block : Block) (instr : Instr) (ty : Ty) → slice_get p.blocks b ≡ Some block → slice_get block.instrs n ≡ Some instr → Contains (reads instr) (operand.Reg reg ty) → ((k : ℕ) (t : Ty) → k < n → SetsAt block (At_line k) reg t → ⊥) → Crosses p reg
  by_end : (b : ℕ) (block : Block) (t ty : Ty) → slice_get p.blocks b ≡ Some block → Contains (term_operands block.term) (typed (operand.Reg reg ty) t) → ((k : ℕ) (t : Ty) → SetsAt block (At_line k) reg t → ⊥) → Crosses p reg

-- a crossing register, which no phi sets
pub record IsCrossing (p : Program) (reg : Reg) : Type 0 where
  pub crosses : Crosses p reg
  pub no_phi : (b n : ℕ) (ty : Ty) → Sets p b (At_phi n) reg ty → ⊥
