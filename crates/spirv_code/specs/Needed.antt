-- Which keys the code of a program names, and the table that declares them, each behind what it names.
use Rattle.std.specs.Prelude.{ℕ, zero, suc, ◌+◌, ◌-◌, ◌*◌, ◌/◌, ◌^◌, ◌<◌, Bool, true, false, List, [], ◌∷◌, ◌++◌, length, Option, Some, None, slice_get, slice_index, if◌then◌else◌}
use Rattle.dxil_form.specs.declared.value.Ty.{Ty}
use Rattle.dxil_form.specs.declared.value.Ty.TheVariants as ty
use Rattle.dxil_form.specs.declared.value.Operand.{Operand}
use Rattle.dxil_form.specs.declared.value.Operand.TheVariants as operand
use Rattle.dxil_form.specs.declared.instr.Addr.{Addr}
use Rattle.dxil_form.specs.declared.instr.Addr.TheVariants.{Byte, Element, Row, Index}
use Rattle.dxil_form.specs.declared.instr.Target.{Target}
use Rattle.dxil_form.specs.declared.instr.Target.TheVariants as target
use Rattle.dxil_form.specs.declared.instr.CastOp.{CastOp}
use Rattle.dxil_form.specs.declared.instr.CastOp.TheVariants.{Trunc, Zext, Sext}
use Rattle.dxil_form.specs.declared.instr.Scope.{Scope}
use Rattle.dxil_form.specs.declared.instr.Instr.{Instr}
use Rattle.dxil_form.specs.declared.instr.Instr.TheVariants.{Bin, Cmp, Cast, Select, Copy, One, Two, Mad, Id, Size, Load, Store, Atomic, Swap, Barrier, Nothing}
use Rattle.dxil_form.specs.declared.block.Entry.{Entry}
use Rattle.dxil_form.specs.declared.block.Phi.{Phi}
use Rattle.dxil_form.specs.declared.block.Term.{Term}
use Rattle.dxil_form.specs.declared.block.Block.{Block}
use Rattle.dxil_form.specs.declared.program.Program.{Program}
use Rattle.dxil_form.specs.declared.region.Region.{Region}
use Rattle.dxil_form.specs.declared.region.Region.TheVariants as region
use Rattle.dxil_form.specs.Branches.{targets}
use Rattle.dxil_form.specs.Registers.{parts_of}
use Rattle.spirv_code.specs.declared.key.Sort.{Sort}
use Rattle.spirv_code.specs.declared.key.Sort.TheVariants as sort
use Rattle.spirv_code.specs.declared.key.Storage.{Storage}
use Rattle.spirv_code.specs.declared.key.Storage.TheVariants as storage
use Rattle.spirv_code.specs.declared.key.Global.{Global}
use Rattle.spirv_code.specs.declared.key.Global.TheVariants.{Plain, Pointer, Number, Truth, Input, Buffer, Shared}
use Rattle.spirv_code.specs.declared.key.Slot.{Slot}
use Rattle.spirv_code.specs.declared.event.Event.{Event}
use Rattle.spirv_code.specs.declared.event.Event.TheVariants as event
use Rattle.spirv_code.specs.Keys.{add_key, has_key}
use Rattle.spirv_code.specs.Plans.{sort_of, zero_of, limit_of, rows_of}
use Rattle.spirv_code.specs.Accesses.{is_never, scope_of}
use Rattle.spirv_code.specs.Lines.{built_in_of, barrier_scope, barrier_semantics, load_event, store_event, swap_event}
use Rattle.spirv_code.specs.Exits.{tested}
use Rattle.spirv_code.specs.Frame.{rowed, buffer_storage, input_sort, slot_sort, slot_start}

abbrev pub int : Global
int = Plain sort.Int

abbrev pub bool : Global
bool = Plain sort.Bool

-- ---- lines

-- a read: the type that is loaded, or the constant
abbrev pub operand_keys : Operand → List Global
operand_keys (operand.Reg reg t) = Plain (sort_of t) ∷ zero_of t ∷ []
operand_keys (operand.Int n) = Number n ∷ []
operand_keys (operand.Bool b) = Truth b ∷ []
operand_keys (operand.Undef t) = zero_of t ∷ []

abbrev pub two_keys : Operand → Operand → List Global
two_keys a b = operand_keys a ++ operand_keys b

abbrev pub target_key : Target → Global
target_key (target.Buffer r) = Buffer r
target_key (target.Shared a) = Shared a

abbrev pub word_pointer : Storage → Global
word_pointer s = Pointer s sort.Int

-- the operands of an address
abbrev pub place_reads : Addr → List Global
place_reads (Byte at) = operand_keys at
place_reads (Element index at stride) = two_keys at index
place_reads (Row index) = operand_keys index
place_reads (Index index) = operand_keys index

-- what the address and the range test of a part name besides
abbrev pub place_numbers : Program → Target → Addr → ℕ → List Global
place_numbers p t (Byte at) part =
    Number 2 ∷ Number 0 ∷ Number part ∷ word_pointer storage.StorageBuffer ∷ []
place_numbers p t (Element index at stride) part =
    Number 2 ∷ Number 0 ∷ Number part ∷ Number (stride / 4) ∷ Number (stride - (4 + 4 * part)) ∷ word_pointer storage.StorageBuffer ∷ []
place_numbers p t (Row index) part =
    Number (limit_of p t) ∷ Number 0 ∷ Number part ∷ word_pointer storage.Uniform ∷ []
place_numbers p t (Index index) part = Number (limit_of p t) ∷ word_pointer storage.Workgroup ∷ []

abbrev pub address_keys : Program → Target → Addr → ℕ → List Global
address_keys p t addr part = place_reads addr ++ place_numbers p t addr part

-- what an event reads and sets
abbrev pub event_keys : Target → Event → List Global
event_keys t (event.Load to) = Number 0 ∷ []
event_keys t (event.Store value) = operand_keys value
event_keys t (event.Atomic to op value) = Number (scope_of t) ∷ Number 0 ∷ operand_keys value
event_keys t (event.Swap old same compare value) =
    Number (scope_of t) ∷ Number 0 ∷ Truth false ∷ two_keys value compare

-- a part that is never in range has no test and no event
abbrev pub place_keys : Program → Target → Addr → ℕ → List Global
place_keys p t addr part = if is_never addr part then [] else target_key t ∷ address_keys p t addr part

abbrev pub access_keys : Program → Target → Addr → ℕ → Event → List Global
access_keys p t addr part e = int ∷ bool ∷ (event_keys t e ++ place_keys p t addr part)

abbrev pub parts_keys : Program → Target → Addr → (ℕ → Event) → List ℕ → List Global
parts_keys p t addr event_of [] = []
parts_keys p t addr event_of (part ∷ parts) =
    access_keys p t addr part (event_of part) ++ parts_keys p t addr event_of parts

abbrev pub cast_keys : CastOp → List Global
cast_keys Trunc = int ∷ bool ∷ Number 1 ∷ Number 0 ∷ []
cast_keys Zext = int ∷ Number 1 ∷ Number 0 ∷ []
cast_keys Sext = int ∷ Number 0xFFFF_FFFF ∷ Number 0 ∷ []

-- a type and the operands of an instruction
abbrev pub typed_keys : Ty → Operand → Operand → List Global
typed_keys t a b = Plain (sort_of t) ∷ two_keys a b

abbrev pub three_keys : Ty → Operand → Operand → Operand → List Global
three_keys t x a b = Plain (sort_of t) ∷ (operand_keys x ++ two_keys a b)

abbrev pub barrier_keys : Scope → (uav shared : Bool) → List Global
barrier_keys s uav shared =
    Number 2 ∷ Number (barrier_scope s) ∷ Number (barrier_semantics uav shared) ∷ []

abbrev pub line_keys : Program → Instr → List Global
line_keys p (Bin to op t a b) = typed_keys t a b
line_keys p (Cmp to op t a b) = typed_keys ty.Bool a b
line_keys p (Cast to op a) = cast_keys op ++ operand_keys a
line_keys p (Select to t x a b) = three_keys t x a b
line_keys p (Copy to t a) = operand_keys a
line_keys p (One to op a) = int ∷ operand_keys a
line_keys p (Two to op a b) = int ∷ typed_keys ty.Bool a b
line_keys p (Mad to x a b) = three_keys ty.Int x a b
line_keys p (Id to op part) = int ∷ Input (built_in_of op) ∷ []
line_keys p (Size to buffer) = int ∷ Buffer buffer ∷ []
line_keys p (Load to mask t addr) = parts_keys p t addr (load_event to) (parts_of mask)
line_keys p (Store mask t addr x y z w) = parts_keys p t addr (store_event x y z w) (parts_of mask)
line_keys p (Atomic to op t addr value) = access_keys p t addr 0 (event.Atomic to op value)
line_keys p (Swap to t addr compare value) = access_keys p t addr 0 (swap_event to compare value)
line_keys p (Barrier sync s uav shared) = barrier_keys s uav shared
line_keys p Nothing = []

abbrev pub lines_keys : Program → List Instr → List Global
lines_keys p [] = []
lines_keys p (line ∷ lines) = line_keys p line ++ lines_keys p lines

-- ---- blocks

-- what a phi loads, and what its entries leave for it
abbrev pub entries_keys : List Entry → List Global
entries_keys [] = []
entries_keys (e ∷ es) = operand_keys e.value ++ entries_keys es

abbrev pub phi_keys : Phi → List Global
phi_keys phi = Plain (sort_of phi.ty) ∷ entries_keys phi.entries

abbrev pub phis_keys : List Phi → List Global
phis_keys [] = []
phis_keys (phi ∷ phis) = phi_keys phi ++ phis_keys phis

abbrev pub tested_keys : Option Operand → List Global
tested_keys None = []
tested_keys (Some a) = operand_keys a

abbrev pub numbers_keys : List ℕ → List Global
numbers_keys [] = []
numbers_keys (k ∷ ks) = Number k ∷ numbers_keys ks

-- what the end of a block tests, and the numbers of the blocks that it may want, if any block is ever wanted
abbrev pub end_keys : Bool → Term → List Global
end_keys wants term = tested_keys (tested term) ++ (if wants then numbers_keys (targets term) else [])

abbrev pub block_keys : Program → Bool → Block → List Global
block_keys p wants block =
    phis_keys block.phis ++ (lines_keys p block.instrs ++ end_keys wants block.term)

-- ---- regions: the number of the block for which a region runs or runs again

abbrev pub block_keys_at : Program → Bool → Option Block → List Global
block_keys_at p wants None = []
block_keys_at p wants (Some block) = block_keys p wants block

abbrev pub region_keys : Program → Bool → Region → List Global
region_keys p wants (region.Leaf b) = block_keys_at p wants (slice_get p.blocks b)
region_keys p wants (region.Then first second target) = Number target ∷ []
region_keys p wants (region.Loop body head) = Number head ∷ []
region_keys p wants (region.Dispatch arms) = []
region_keys p wants (region.Arms first arms) = []

abbrev pub regions_keys : Program → Bool → List Region → List Global
regions_keys p wants [] = []
regions_keys p wants (x ∷ list) = region_keys p wants x ++ regions_keys p wants list

-- a test whether a block is wanted, and the number for no block
abbrev pub want_keys : Program → Bool → List Global
want_keys p true = int ∷ bool ∷ Number (length p.blocks) ∷ []
want_keys p false = []

-- ---- variables of the function

abbrev pub slot_keys : Slot → List Global
slot_keys s = Pointer storage.Function (slot_sort s) ∷ slot_start s ∷ []

abbrev pub slots_keys : List Slot → List Global
slots_keys [] = []
slots_keys (s ∷ slots) = slot_keys s ++ slots_keys slots

-- ---- the table: each key behind what its declaration names

abbrev pub words_keys : Program → Bool → ℕ → List Global
words_keys p true r = int ∷ Plain sort.Row ∷ Number (rows_of (slice_get p.resources r)) ∷ Plain (sort.Words r) ∷ []
words_keys p false r = int ∷ Plain (sort.Words r) ∷ []

abbrev pub sort_keys : Program → Sort → List Global
sort_keys p sort.Int = int ∷ []
sort_keys p sort.Bool = bool ∷ []
sort_keys p sort.Triple = int ∷ Plain sort.Triple ∷ []
sort_keys p sort.Row = int ∷ Plain sort.Row ∷ []
sort_keys p (sort.Words r) = words_keys p (rowed p r) r
sort_keys p (sort.Block r) = words_keys p (rowed p r) r ++ (Plain (sort.Block r) ∷ [])
sort_keys p (sort.Array a) = int ∷ Number (slice_index p.shared a) ∷ Plain (sort.Array a) ∷ []

abbrev pub array_keys : Program → ℕ → List Global
array_keys p a =
    sort_keys p (sort.Array a) ++ (Pointer storage.Workgroup (sort.Array a) ∷ Shared a ∷ [])

-- the first n groupshared arrays of the program, in their order
abbrev pub arrays_keys : Program → ℕ → List Global
arrays_keys p zero = []
arrays_keys p (suc a) = arrays_keys p a ++ array_keys p a

-- a key, behind all that it needs. With one groupshared array all of them are declared, so that each has its number
abbrev pub whole : Program → Global → List Global
whole p (Plain s) = sort_keys p s
whole p (Pointer s to) = sort_keys p to ++ (Pointer s to ∷ [])
whole p (Number n) = int ∷ Number n ∷ []
whole p (Truth b) = bool ∷ Truth b ∷ []
whole p (Input b) = sort_keys p (input_sort b) ++ (Pointer storage.Input (input_sort b) ∷ Input b ∷ [])
whole p (Buffer r) =
    sort_keys p (sort.Block r) ++ (Pointer (buffer_storage (rowed p r)) (sort.Block r) ∷ Buffer r ∷ [])
whole p (Shared a) = arrays_keys p (length p.shared)

abbrev pub add_each : List Global → List Global → List Global
add_each table [] = table
add_each table (g ∷ gs) = add_each (add_key table g) gs

-- the table with a key that is not there yet, and with all that it needs
abbrev pub add_whole : Program → List Global → Global → List Global
add_whole p table g = if has_key table g then table else add_each table (whole p g)

abbrev pub add_all : Program → List Global → List Global → List Global
add_all p table [] = table
add_all p table (g ∷ gs) = add_all p (add_whole p table g) gs

-- the table of a program with these variables; `wants` tells whether any block is ever wanted
abbrev pub table_of : Program → List Region → (wants : Bool) → List Slot → List Global
table_of p list wants slots =
    add_all p [] (slots_keys slots ++ (want_keys p wants ++ regions_keys p wants list))

-- the blocks and the groupshared arrays of a program are numbered by words
pub record AreWords (p : Program) : Type 0 where
  pub blocks : length p.blocks < 2 ^ 32
  pub shared : length p.shared < 2 ^ 32
