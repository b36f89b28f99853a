-- What is true of each program that the reader of a file makes.
use Rattle.std.specs.Prelude.{◌≡◌, ◌≢◌, ◌↔◌, ◌⊎◌, ℕ, ◌+◌, ◌*◌, ◌/◌, ◌%◌, ◌^◌, ◌<◌, ◌≤◌, true, false, nat_eq, not, ◌||◌, ◌&&◌, if◌then◌else◌, List, [], ◌∷◌, length, Option, Some, None, slice_get, slice_index, sum, Contains, All}
use Rattle.std.specs.Prelude as std
use Rattle.dxil_form.specs.declared.value.Ty.{Ty}
use Rattle.dxil_form.specs.declared.value.Ty.TheVariants.{Bool, Int}
use Rattle.dxil_form.specs.declared.value.Reg.{Reg}
use Rattle.dxil_form.specs.declared.value.Operand.{Operand}
use Rattle.dxil_form.specs.declared.value.Operand.TheVariants as operand
use Rattle.dxil_form.specs.declared.instr.Addr.{Addr}
use Rattle.dxil_form.specs.declared.instr.Addr.TheVariants.{Byte, Element, Row, Index}
use Rattle.dxil_form.specs.declared.instr.Target.{Target}
use Rattle.dxil_form.specs.declared.instr.Target.TheVariants.{Buffer, Shared}
use Rattle.dxil_form.specs.declared.instr.BinOp.{BinOp}
use Rattle.dxil_form.specs.declared.instr.BinOp.TheVariants.{And, Or, Xor}
use Rattle.dxil_form.specs.declared.instr.CmpOp.{CmpOp}
use Rattle.dxil_form.specs.declared.instr.CmpOp.TheVariants.{Eq, Ne}
use Rattle.dxil_form.specs.declared.instr.IdOp.{IdOp}
use Rattle.dxil_form.specs.declared.instr.IdOp.TheVariants.{Flat}
use Rattle.dxil_form.specs.declared.instr.Scope.{Scope}
use Rattle.dxil_form.specs.declared.instr.Scope.TheVariants.{Nobody, Group, Device}
use Rattle.dxil_form.specs.declared.instr.Instr.{Instr}
use Rattle.dxil_form.specs.declared.instr.Instr.TheVariants.{Bin, Cmp, Id, Size, Load, Store, Atomic, Swap, Barrier}
use Rattle.dxil_form.specs.declared.block.Term.{Term}
use Rattle.dxil_form.specs.declared.block.Term.TheVariants.{Switch}
use Rattle.dxil_form.specs.declared.block.Entry.{Entry}
use Rattle.dxil_form.specs.declared.block.Phi.{Phi}
use Rattle.dxil_form.specs.declared.block.Block.{Block}
use Rattle.dxil_form.specs.declared.program.Class.{Class}
use Rattle.dxil_form.specs.declared.program.Class.TheVariants.{Srv, Uav, Cbv}
use Rattle.dxil_form.specs.declared.program.Kind.{Kind}
use Rattle.dxil_form.specs.declared.program.Kind.TheVariants.{Raw, Structured, Constant}
use Rattle.dxil_form.specs.declared.program.Resource.{Resource}
use Rattle.dxil_form.specs.declared.program.Program.{Program}
use Rattle.dxil_form.specs.Branches.{branches}
use Rattle.dxil_form.specs.Registers.{Typed, Spot, Sets, in_address, operands_of, term_operands}

-- ---- registers and operands

-- the block stands at b, and the instruction or the phi at n in it
pub record LineAt (p : Program) (b n : ℕ) (instr : Instr) : Type 0 where
  pub block : Block
  pub stands : slice_get p.blocks b ≡ Some block
  pub line : slice_get block.instrs n ≡ Some instr

pub record PhiAt (p : Program) (b n : ℕ) (phi : Phi) : Type 0 where
  pub block : Block
  pub stands : slice_get p.blocks b ≡ Some block
  pub line : slice_get block.phis n ≡ Some phi

pub record EndAt (p : Program) (b : ℕ) (term : Term) : Type 0 where
  pub block : Block
  pub stands : slice_get p.blocks b ≡ Some block
  pub ends : block.term ≡ term

-- an operand has this type; a register is one that some place sets with this type
abbrev pub HasType : Program → Operand → Ty → Type 0
HasType p (operand.Reg reg ty) t = (ty ≡ t) × ((b : ℕ) × (spot : Spot) × Sets p b spot reg ty)
HasType p (operand.Int n) t = Int ≡ t
HasType p (operand.Bool b) t = Bool ≡ t
HasType p (operand.Undef ty) t = ty ≡ t

-- the entries of a phi in block b name exactly the predecessors of b, and entries of one block are equal
pub record EntriesFit (p : Program) (b : ℕ) (entries : List Entry) : Type 0 where
  pub all : (a : ℕ) → branches p a b ≡ true → (k : ℕ) × (e : Entry) × (slice_get entries k ≡ Some e) × (e.from ≡ a)
  pub only : (k : ℕ) (e : Entry) → slice_get entries k ≡ Some e → branches p e.from b ≡ true
  pub equal : (j k : ℕ) (d e : Entry) → slice_get entries j ≡ Some d → slice_get entries k ≡ Some e → d.from ≡ e.from → d.value ≡ e.value

-- ---- single instructions

-- on truth values only the operations on bits
abbrev pub BinFits : BinOp → Ty → Type 0
BinFits op Int = Unit {0}
BinFits op Bool = (op ≡ And) ⊎ (op ≡ Or) ⊎ (op ≡ Xor)

-- on truth values only equality
abbrev pub CmpFits : CmpOp → Ty → Type 0
CmpFits op Int = Unit {0}
CmpFits op Bool = (op ≡ Eq) ⊎ (op ≡ Ne)

-- what an access does: a load may read any class, and all else writes
pub data Use : Type 0 where
  Loads : Use
  Writes : Use

-- the class of a raw or structured buffer that is used so
abbrev pub ClassFits : Use → Class → Type 0
ClassFits Loads class = (class ≡ Srv) ⊎ (class ≡ Uav)
ClassFits Writes class = class ≡ Uav

-- the resource has this layout, and its class fits the use
abbrev pub BufferFits : Use → Kind → Resource → Type 0
BufferFits use_as kind resource = (resource.kind ≡ kind) × ClassFits use_as resource.class

abbrev pub RowFits : Use → Resource → Type 0
RowFits Loads resource = resource.class ≡ Cbv
RowFits Writes resource = ⊥

-- the form of an address fits the layout of its resource
abbrev pub AddrFits : Use → Addr → Resource → Type 0
AddrFits use_as (Byte at) resource = BufferFits use_as Raw resource
AddrFits use_as (Element index at stride) resource = BufferFits use_as (Structured stride) resource
AddrFits use_as (Row index) resource = RowFits use_as resource
AddrFits use_as (Index index) resource = ⊥

abbrev pub IsIndex : Addr → Type 0
IsIndex (Index index) = Unit {0}
IsIndex _ = ⊥

-- the target is in its list, and the address is of the form that it takes
abbrev pub AccessFits : Program → Use → Target → Addr → Type 0
AccessFits p use_as (Buffer r) addr =
    (resource : Resource) × (slice_get p.resources r ≡ Some resource) × AddrFits use_as addr resource
AccessFits p use_as (Shared a) addr = (a < length p.shared) × IsIndex addr

-- the resource is laid out as words without rows
abbrev pub IsBuffer : Kind → Type 0
IsBuffer Raw = Unit {0}
IsBuffer (Structured stride) = Unit {0}
IsBuffer (Constant rows) = ⊥

-- a size is that of a raw or structured buffer of the list, which may be read only or written too
abbrev pub SizedFits : Program → ℕ → Type 0
SizedFits p buffer =
    (resource : Resource) × (slice_get p.resources buffer ≡ Some resource) × IsBuffer resource.kind × ClassFits Loads resource.class

-- the bit of a barrier mode
abbrev pub mode_bit : ℕ → ℕ → std.Bool
mode_bit mode i = nat_eq (mode / 2 ^ i % 2) 1

-- the fields that a barrier mode gives: bit 1 syncs the group, 2 orders buffers for the device, 4 orders them for the group, and 8 orders groupshared memory
pub record IsBarrier (sync : std.Bool) (scope : Scope) (uav shared : std.Bool) : Type 0 where
  pub mode : ℕ
  pub least : 1 ≤ mode
  pub most : mode ≤ 15
  pub sync_is : sync ≡ mode_bit mode 0
  pub uav_is : uav ≡ (mode_bit mode 1 || mode_bit mode 2)
  pub shared_is : shared ≡ mode_bit mode 3
  pub scope_is : scope ≡ (if mode_bit mode 1 then Device else (if mode_bit mode 2 || mode_bit mode 3 then Group else Nobody))

-- the component of a thread number; the number in the group has component 0 alone
abbrev pub PartFits : IdOp → ℕ → Type 0
PartFits Flat part = part ≡ 0
PartFits _ part = part ≤ 2

-- operations, masks, components, sizes, accesses and barriers are in their ranges
abbrev pub InstrFits : Program → Instr → Type 0
InstrFits p (Bin to op ty a b) = BinFits op ty
InstrFits p (Cmp to op ty a b) = CmpFits op ty
InstrFits p (Id to op part) = PartFits op part
InstrFits p (Size to buffer) = SizedFits p buffer
InstrFits p (Load to mask target addr) = (mask ≤ 15) × AccessFits p Loads target addr
InstrFits p (Store mask target addr x y z w) = (1 ≤ mask) × (mask ≤ 15) × AccessFits p Writes target addr
InstrFits p (Atomic to op target addr value) = AccessFits p Writes target addr
InstrFits p (Swap to target addr compare value) = AccessFits p Writes target addr
InstrFits p (Barrier sync scope uav shared) = IsBarrier sync scope uav shared
InstrFits p instr = Unit {0}

-- no two cases of a switch are equal
abbrev pub TermFits : Term → Type 0
TermFits (Switch value default cases) =
    (j k : ℕ) (d : ℕ × ℕ) (e : ℕ × ℕ) → slice_get cases j ≡ Some d → slice_get cases k ≡ Some e → d.0 ≡ e.0 → j ≡ k
TermFits term = Unit {0}

-- ---- resources and counts

-- strides are from 4 to 2,048 and multiples of 4; a constant buffer has from 1 to 65,536 bytes, in rows of 16; and a resource is a constant buffer exactly where its class says so
abbrev pub KindFits : Kind → Class → Type 0
KindFits Raw class = class ≢ Cbv
KindFits (Structured stride) class = (class ≢ Cbv) × (4 ≤ stride) × (stride ≤ 2048) × (stride % 4 ≡ 0)
KindFits (Constant rows) class = (class ≡ Cbv) × (1 ≤ rows) × (rows ≤ 4096)

pub record ResourceFits (resource : Resource) : Type 0 where
  pub kind : KindFits resource.kind resource.class
  pub lower : resource.lower ≤ 2 ^ 30

-- two resources are told apart by class, space and lower bound
pub record IsSamePlace (a b : Resource) : Type 0 where
  pub class : a.class ≡ b.class
  pub space : a.space ≡ b.space
  pub lower : a.lower ≡ b.lower

-- thread counts are at least 1, x and y at most 1,024, z at most 64, and their product at most 1,024
pub record LocalFits (local : List ℕ) : Type 0 where
  pub three : length local ≡ 3
  pub least : All (λ n. 1 ≤ n) local
  pub x : slice_index local 0 ≤ 1024
  pub y : slice_index local 1 ≤ 1024
  pub z : slice_index local 2 ≤ 64
  pub product : slice_index local 0 * slice_index local 1 * slice_index local 2 ≤ 1024

-- a groupshared array has a word at least, and together they have at most 32,768 bytes
pub record SharedFits (shared : List ℕ) : Type 0 where
  pub least : All (λ n. 1 ≤ n) shared
  pub most : 4 * sum shared ≤ 32768

-- the instruction records of the body: its phis, instructions and terminators
abbrev pub lines_of : List Block → ℕ
lines_of [] = 0
lines_of (block ∷ blocks) = length block.phis + length block.instrs + 1 + lines_of blocks

abbrev pub cases_in : Term → ℕ
cases_in (Switch value default cases) = length cases
cases_in term = 0

abbrev pub cases_of : List Block → ℕ
cases_of [] = 0
cases_of (block ∷ blocks) = cases_in block.term + cases_of blocks

abbrev pub entries_in : List Phi → ℕ
entries_in [] = 0
entries_in (phi ∷ phis) = length phi.entries + entries_in phis

abbrev pub entries_of : List Block → ℕ
entries_of [] = 0
entries_of (block ∷ blocks) = entries_in block.phis + entries_of blocks

-- the counts that have limits
pub record CountsFit (p : Program) : Type 0 where
  pub blocks : length p.blocks ≤ 8192
  pub instructions : lines_of p.blocks ≤ 32768
  pub cases : cases_of p.blocks ≤ 65536
  pub entries : entries_of p.blocks ≤ 262144
  pub resources : length p.resources ≤ 1024

-- ---- the whole

pub record Sound (p : Program) : Type 0 where
  -- there is a block
  pub begins : 1 ≤ length p.blocks
  -- each register is set at one place
  pub set_once : (a b : ℕ) (x y : Spot) (reg : Reg) (t u : Ty) → Sets p a x reg t → Sets p b y reg u → (a ≡ b) × (x ≡ y)
  -- targets are blocks, and not block 0
  pub targets : (b k : ℕ) → branches p b k ≡ true → (1 ≤ k) × (k < length p.blocks)
  -- phis have an entry for each predecessor, of their type
  pub entries : (b n : ℕ) (phi : Phi) → PhiAt p b n phi → EntriesFit p b phi.entries
  pub entry_types : (b n k : ℕ) (phi : Phi) (e : Entry) → PhiAt p b n phi → slice_get phi.entries k ≡ Some e → HasType p e.value phi.ty
  -- each operand has the type that its place takes
  pub line_types : (b n k : ℕ) (instr : Instr) (a : Typed Operand) → LineAt p b n instr → slice_get (operands_of instr) k ≡ Some a → HasType p a.item a.ty
  pub end_types : (b k : ℕ) (term : Term) (a : Typed Operand) → EndAt p b term → slice_get (term_operands term) k ≡ Some a → HasType p a.item a.ty
  -- operations, masks, components, sizes, accesses, barriers and cases are such as a file may have
  pub lines : (b n : ℕ) (instr : Instr) → LineAt p b n instr → InstrFits p instr
  pub ends : (b : ℕ) (term : Term) → EndAt p b term → TermFits term
  -- no address of a load names a register of the load's own value: a load of a buffer gives parts, which no address takes, and the index of a groupshared load is a value of its own
  pub own_value : (b n to mask : ℕ) (target : Target) (addr : Addr) (reg : Reg) (ty : Ty) → LineAt p b n (Load to mask target addr) → Contains (in_address addr) (operand.Reg reg ty) → reg.value ≢ to
  -- resources, thread counts, groupshared arrays and counts are in their bounds
  pub resources : (r : ℕ) (resource : Resource) → slice_get p.resources r ≡ Some resource → ResourceFits resource
  pub apart : (r s : ℕ) (a b : Resource) → slice_get p.resources r ≡ Some a → slice_get p.resources s ≡ Some b → IsSamePlace a b → r ≡ s
  pub local : LocalFits p.local
  pub shared : SharedFits p.shared
  pub counts : CountsFit p
