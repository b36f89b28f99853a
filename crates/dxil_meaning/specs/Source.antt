-- What a DXIL program does: the machine of one invocation, over the plain data of the program.
--
-- Sources: the LLVM 3.7 Language Reference for arithmetic, shifts, divisions, compares, casts, selects, phis, branches and switches; DXIL.rst for thread numbers, the bits, minima and maxima, buffers, atomics and barriers. What is undefined there is a wrong step here. An access out of range is defined: it gives 0, changes nothing and is no event.
use Rattle.std.specs.Prelude.{ℕ, zero, suc, ◌+◌, ◌-◌, ◌*◌, ◌/◌, ◌%◌, ◌^◌, min, max, Bool, true, false, ◌&&◌, ◌||◌, not, List, [], ◌∷◌, map, Option, Some, None, nat_eq, nat_lt, nat_le, if◌then◌else◌, slice_get, slice_index, bit_and, bit_or, bit_xor, option_map, option_and_then}
use Rattle.dxil_form.specs.declared.value.Ty.{Ty}
use Rattle.dxil_form.specs.declared.value.Ty.TheVariants as ty
use Rattle.dxil_form.specs.declared.value.Reg.{Reg}
use Rattle.dxil_form.specs.declared.value.Operand.{Operand}
use Rattle.dxil_form.specs.declared.value.Operand.TheVariants as operand
use Rattle.dxil_form.specs.declared.instr.Target.{Target}
use Rattle.dxil_form.specs.declared.instr.Target.TheVariants as target
use Rattle.dxil_form.specs.declared.instr.Addr.{Addr}
use Rattle.dxil_form.specs.declared.instr.Addr.TheVariants.{Byte, Element, Row, Index}
use Rattle.dxil_form.specs.declared.instr.BinOp.{BinOp}
use Rattle.dxil_form.specs.declared.instr.BinOp.TheVariants.{Add, Sub, Mul, UDiv, SDiv, URem, SRem, Shl, LShr, AShr, And, Or, Xor}
use Rattle.dxil_form.specs.declared.instr.CmpOp.{CmpOp}
use Rattle.dxil_form.specs.declared.instr.CmpOp.TheVariants.{Eq, Ne, UGt, UGe, ULt, ULe, SGt, SGe, SLt, SLe}
use Rattle.dxil_form.specs.declared.instr.CastOp.{CastOp}
use Rattle.dxil_form.specs.declared.instr.CastOp.TheVariants.{Trunc, Zext, Sext}
use Rattle.dxil_form.specs.declared.instr.OneOp.{OneOp}
use Rattle.dxil_form.specs.declared.instr.OneOp.TheVariants.{Bfrev, Countbits}
use Rattle.dxil_form.specs.declared.instr.TwoOp.{TwoOp}
use Rattle.dxil_form.specs.declared.instr.TwoOp.TheVariants.{IMax, IMin, UMax, UMin}
use Rattle.dxil_form.specs.declared.instr.IdOp.{IdOp}
use Rattle.dxil_form.specs.declared.instr.IdOp.TheVariants as id
use Rattle.dxil_form.specs.declared.instr.AtomicOp.{AtomicOp}
use Rattle.dxil_form.specs.declared.instr.Instr.{Instr}
use Rattle.dxil_form.specs.declared.instr.Instr.TheVariants.{Bin, Cmp, Cast, Select, Copy, One, Two, Mad, Id, Size, Load, Store, Atomic, Swap, Barrier, Nothing}
use Rattle.dxil_form.specs.declared.block.Term.{Term}
use Rattle.dxil_form.specs.declared.block.Term.TheVariants.{Ret, Unreachable, Go, If, Switch}
use Rattle.dxil_form.specs.declared.block.Entry.{Entry}
use Rattle.dxil_form.specs.declared.block.Phi.{Phi}
use Rattle.dxil_form.specs.declared.block.Block.{Block}
use Rattle.dxil_form.specs.declared.program.Kind.{Kind}
use Rattle.dxil_form.specs.declared.program.Kind.TheVariants.{Raw, Structured, Constant}
use Rattle.dxil_form.specs.declared.program.Resource.{Resource}
use Rattle.dxil_form.specs.declared.program.Program.{Program}
use Rattle.dxil_form.specs.Registers.{parts_of, pick}
use Rattle.dxil_meaning.specs.Arithmetic.{word_add, word_sub, word_mul, word_shl, word_shr, word_sar, word_sdiv, word_srem, signed_lt, signed_min, signed_max, word_reverse, word_count, is_overflowing, unless}
use Rattle.dxil_meaning.specs.Launches as launch
use Rattle.dxil_meaning.specs.Launches.{Step, Wrong, Quiet, Acts, Machine, Place, Shape, End}

-- ---- values: `i32` by its number below 2 ^ 32, and `i1` by its truth

pub data Value : Type 0 where
  Number : ℕ → Value
  Truth : Bool → Value

-- each register, by its value number and its part; it may be unset
abbrev pub Registers : Type 0
Registers = ℕ → ℕ → Option Value

abbrev pub with_reg : ℕ → ℕ → Option Value → Registers → Registers
with_reg value part v regs n k = if nat_eq n value && nat_eq k part then v else regs n k

-- the value of an operand; none where it is undef or unset
abbrev pub value_of : Registers → Operand → Option Value
value_of regs (operand.Reg reg ty) = regs reg.value reg.part
value_of regs (operand.Int n) = Some (Number n)
value_of regs (operand.Bool b) = Some (Truth b)
value_of regs (operand.Undef ty) = None

abbrev pub as_number : Option Value → Option ℕ
as_number (Some (Number n)) = Some n
as_number (Some (Truth b)) = None
as_number None = None

abbrev pub as_truth : Option Value → Option Bool
as_truth (Some (Truth b)) = Some b
as_truth (Some (Number n)) = None
as_truth None = None

abbrev pub number_of : Registers → Operand → Option ℕ
number_of regs a = as_number (value_of regs a)

-- two numbers, and what is made of them
abbrev pub on_both : {A B C : Type 0} → (A → B → Option C) → Option A → Option B → Option C
on_both f None y = None
on_both f (Some x) None = None
on_both f (Some x) (Some y) = f x y

-- ---- operations; none where they are undefined
-- (LLVM 3.7 Language Reference, "Binary Operations", "Bitwise Binary Operations", 'icmp', 'trunc', 'zext' and 'sext', without the flags for wrapping and exactness; DXIL.rst for those of its own)

abbrev pub number_op : BinOp → ℕ → ℕ → Option ℕ
number_op Add x y = Some (word_add x y)
number_op Sub x y = Some (word_sub x y)
number_op Mul x y = Some (word_mul x y)
number_op UDiv x y = unless (nat_eq y 0) (x / y)
number_op SDiv x y = unless (nat_eq y 0 || is_overflowing x y) (word_sdiv x y)
number_op URem x y = unless (nat_eq y 0) (x % y)
number_op SRem x y = unless (nat_eq y 0 || is_overflowing x y) (word_srem x y)
number_op Shl x y = unless (nat_le 32 y) (word_shl x y)
number_op LShr x y = unless (nat_le 32 y) (word_shr x y)
number_op AShr x y = unless (nat_le 32 y) (word_sar x y)
number_op And x y = Some (bit_and x y)
number_op Or x y = Some (bit_or x y)
number_op Xor x y = Some (bit_xor x y)

abbrev pub truth_op : BinOp → Bool → Bool → Option Bool
truth_op And x y = Some (x && y)
truth_op Or x y = Some (x || y)
truth_op Xor x y = Some (if x then not y else y)
truth_op _ x y = None

abbrev pub bin_value : BinOp → Ty → Option Value → Option Value → Option Value
bin_value op ty.Int a b = option_map Number (on_both (number_op op) (as_number a) (as_number b))
bin_value op ty.Bool a b = option_map Truth (on_both (truth_op op) (as_truth a) (as_truth b))

abbrev pub number_test : CmpOp → ℕ → ℕ → Bool
number_test Eq x y = nat_eq x y
number_test Ne x y = not (nat_eq x y)
number_test UGt x y = nat_lt y x
number_test UGe x y = nat_le y x
number_test ULt x y = nat_lt x y
number_test ULe x y = nat_le x y
number_test SGt x y = signed_lt y x
number_test SGe x y = not (signed_lt x y)
number_test SLt x y = signed_lt x y
number_test SLe x y = not (signed_lt y x)

abbrev pub truth_test : CmpOp → Bool → Bool → Option Bool
truth_test Eq x y = Some (if x then y else not y)
truth_test Ne x y = Some (if x then not y else y)
truth_test _ x y = None

abbrev pub cmp_value : CmpOp → Ty → Option Value → Option Value → Option Value
cmp_value op ty.Int a b = on_both (λ x y. Some (Truth (number_test op x y))) (as_number a) (as_number b)
cmp_value op ty.Bool a b = option_map Truth (on_both (truth_test op) (as_truth a) (as_truth b))

abbrev pub cast : CastOp → Value → Option Value
cast Trunc (Number x) = Some (Truth (nat_eq (x % 2) 1))
cast Zext (Truth b) = Some (Number (if b then 1 else 0))
cast Sext (Truth b) = Some (Number (if b then 2 ^ 32 - 1 else 0))
cast _ _ = None

abbrev pub one_op : OneOp → ℕ → ℕ
one_op Bfrev x = word_reverse x
one_op Countbits x = word_count x

abbrev pub two_op : TwoOp → ℕ → ℕ → ℕ
two_op IMax x y = signed_max x y
two_op IMin x y = signed_min x y
two_op UMax x y = max x y
two_op UMin x y = min x y

-- ---- thread numbers (DXIL.rst, ThreadId, GroupId, ThreadIdInGroup and FlattenedThreadIdInGroup)

-- a launch: how many groups there are in each direction, and how many words each resource has
pub record Launch : Type 0 where
  pub groups : List ℕ
  pub sizes : List ℕ

-- all counts multiplied
abbrev pub product : List ℕ → ℕ
product [] = 1
product (n ∷ ns) = n * product ns

-- the place of number i in a box, x first, then y, then z
abbrev pub coordinate : List ℕ → ℕ → ℕ → ℕ
coordinate [] part i = 0
coordinate (n ∷ ns) zero i = i % n
coordinate (n ∷ ns) (suc part) i = coordinate ns part (i / n)

-- how many groups there are, and how many invocations in each
abbrev pub shape_of : Program → Launch → Shape
shape_of p l = record { groups = product l.groups; size = product p.local }

-- a number of invocation i, by component
abbrev pub id_of : Program → Launch → ℕ → IdOp → ℕ → ℕ
id_of p l i id.Flat part = i % product p.local
id_of p l i id.InGroup part = coordinate p.local part (i % product p.local)
id_of p l i id.Group part = coordinate l.groups part (i / product p.local)
id_of p l i id.Thread part =
    coordinate l.groups part (i / product p.local) * slice_index p.local part + coordinate p.local part (i % product p.local)

-- ---- addresses, in words of 32 bits (DXIL.rst, BufferLoad, BufferStore, CBufferLoadLegacy, RawBufferLoad and RawBufferStore)

-- how many words the target has
abbrev pub words_of : Program → Launch → Target → ℕ
words_of p l (target.Buffer r) = slice_index l.sizes r
words_of p l (target.Shared a) = slice_index p.shared a

-- how many rows a resource declares: those of a constant buffer
abbrev pub rows_of : Kind → ℕ
rows_of Raw = 0
rows_of (Structured stride) = 0
rows_of (Constant rows) = rows

abbrev pub rows_in : Option Resource → ℕ
rows_in None = 0
rows_in (Some resource) = rows_of resource.kind

abbrev pub rows_at : Program → Target → ℕ
rows_at p (target.Buffer r) = rows_in (slice_get p.resources r)
rows_at p (target.Shared a) = 0

abbrev pub if_in : Bool → ℕ → Option ℕ
if_in inside word = if inside then Some word else None

-- the word of each part of an access; none where the part is out of range
abbrev pub Words : Type 0
Words = ℕ → Option ℕ

-- The words of an access. There are none at all, and the access is undefined, where an operand of the address is undefined or the offset is no multiple of 4. Words are whole numbers, so nothing wraps.
abbrev pub address : Program → Launch → Registers → Target → Addr → Option Words
address p l regs to (Byte at) =
    option_and_then (λ at. if nat_eq (at % 4) 0 then Some (λ c. if_in (nat_lt (at / 4 + c) (words_of p l to)) (at / 4 + c)) else None) (number_of regs at)
address p l regs to (Element index at stride) =
    on_both (λ index at.
    if nat_eq (at % 4) 0
    then
    Some (λ c. if_in (nat_le (at + 4 * c + 4) stride && nat_lt index (words_of p l to / (stride / 4))) ((index * stride + at) / 4 + c))
    else None) (number_of regs index) (number_of regs at)
address p l regs to (Row index) =
    option_map (λ index c. if_in (nat_lt index (rows_at p to)) (4 * index + c)) (number_of regs index)
address p l regs to (Index index) =
    option_map (λ index c. if_in (nat_lt index (words_of p l to)) index) (number_of regs index)

abbrev pub place_of : Target → ℕ → Place
place_of (target.Buffer r) word = launch.Buffer r word
place_of (target.Shared a) word = launch.Shared a word

-- ---- states: block, place in it, registers and the block that ran before; the walk is kept by the launch

-- a place in a block: its phi group, the instruction or terminator of a number, or the parts of that load or store that are left, each with its place where it is in range
pub data Spot : Type 0 where
  Phis : Spot
  Line : ℕ → Spot
  Loading : ℕ → (to : ℕ) → List (ℕ × Option Place) → Spot
  Storing : ℕ → List (Option Place × ℕ) → Spot

pub record State : Type 0 where
  pub block : ℕ
  pub spot : Spot
  pub regs : Registers
  pub previous : ℕ

abbrev pub is_empty : {A : Type 0} → List A → Bool
is_empty [] = true
is_empty (x ∷ xs) = false

-- the first place of a block: its phi group, if it has phis
abbrev pub first_spot : Option Block → Spot
first_spot None = Line 0
first_spot (Some block) = if is_empty block.phis then Line 0 else Phis

-- block k begins, after the block of this state
abbrev pub enter : Program → ℕ → State → Step State
enter p k s =
    Quiet (k ∷ []) (record { block = k; spot = first_spot (slice_get p.blocks k); regs = s.regs; previous = s.block })

-- ---- steps: a phi group, a quiet instruction, an event, a part of a load or store that is out of range, or a terminator

-- the value of a phi's entry for the block that ran before; an undef or unset entry gives none
abbrev pub entry_value : Registers → ℕ → List Entry → Option Value
entry_value regs previous [] = None
entry_value regs previous (e ∷ es) = if nat_eq e.from previous then value_of regs e.value else entry_value regs previous es

-- each phi of the group reads the registers as they were before the group
abbrev pub after_phis : Registers → ℕ → List Phi → Registers → Registers
after_phis old previous [] regs = regs
after_phis old previous (phi ∷ phis) regs =
    after_phis old previous phis (with_reg phi.to.value phi.to.part (entry_value old previous phi.entries) regs)

abbrev pub at_line : ℕ → Registers → State → State
at_line k regs s = record { block = s.block; spot = Line k; regs = regs; previous = s.previous }

-- a quiet instruction sets its register, unless it is undefined
abbrev pub sets : ℕ → Reg → Option Value → State → Step State
sets k to None s = Wrong
sets k to (Some v) s = Quiet [] (at_line (suc k) (with_reg to.value to.part (Some v) s.regs) s)

-- a load goes on with these registers: to its parts that are left, or to the next line
abbrev pub loads : ℕ → ℕ → List (ℕ × Option Place) → Registers → State → State
loads k to [] regs s = at_line (suc k) regs s
loads k to (part ∷ left) regs s = record { block = s.block; spot = Loading k to (part ∷ left); regs = regs; previous = s.previous }

-- part c is loaded, or is out of range and 0
abbrev pub load_step : ℕ → ℕ → List (ℕ × Option Place) → State → Step State
load_step k to [] s = Quiet [] (at_line (suc k) s.regs s)
load_step k to ((c, None) ∷ left) s = Quiet [] (loads k to left (with_reg to c (Some (Number 0)) s.regs) s)
load_step k to ((c, Some place) ∷ left) s =
    Acts (launch.Load place) (λ v. loads k to left (with_reg to c (Some (Number v)) s.regs) s)

-- a store goes on: to its parts that are left, or to the next line
abbrev pub stores : ℕ → List (Option Place × ℕ) → State → State
stores k [] s = at_line (suc k) s.regs s
stores k (part ∷ left) s = record { block = s.block; spot = Storing k (part ∷ left); regs = s.regs; previous = s.previous }

-- a part is stored, or is out of range and dropped
abbrev pub store_step : ℕ → List (Option Place × ℕ) → State → Step State
store_step k [] s = Quiet [] (at_line (suc k) s.regs s)
store_step k ((None, v) ∷ left) s = Quiet [] (stores k left s)
store_step k ((Some place, v) ∷ left) s = Acts (launch.Store place v) (λ answer. stores k left s)

-- an atomic sets its register to the word that was there; out of range it sets it to 0
abbrev pub atomic_step : ℕ → Reg → AtomicOp → Option Place → ℕ → State → Step State
atomic_step k to op None v s = sets k to (Some (Number 0)) s
atomic_step k to op (Some place) v s =
    Acts (launch.Atomic place op v) (λ old. at_line (suc k) (with_reg to.value to.part (Some (Number old)) s.regs) s)

-- a swap sets its part 0 to the word that was there, and its part 1 to whether that was equal
abbrev pub swapped : ℕ → ℕ → ℕ → Bool → State → State
swapped k to old equal s =
    at_line (suc k) (with_reg to 1 (Some (Truth equal)) (with_reg to 0 (Some (Number old)) s.regs)) s

-- out of range these are 0 and false
abbrev pub swap_step : ℕ → ℕ → Option Place → (compare value : ℕ) → State → Step State
swap_step k to None c v s = Quiet [] (swapped k to 0 false s)
swap_step k to (Some place) c v s = Acts (launch.Swap place c v) (λ old. swapped k to old (nat_eq old c) s)

-- goes on with a value, or is undefined
abbrev pub given : {A : Type 0} → Option A → (A → Step State) → Step State
given None go = Wrong
given (Some a) go = go a

-- a select reads its condition and the chosen arm
abbrev pub chosen : Registers → Option Bool → Operand → Operand → Option Value
chosen regs None a b = None
chosen regs (Some true) a b = value_of regs a
chosen regs (Some false) a b = value_of regs b

-- the values of the parts of a store; none at all where one of them is undefined
abbrev pub with_values : List (Option Place × Option ℕ) → Option (List (Option Place × ℕ))
with_values [] = Some []
with_values ((place, v) ∷ parts) = on_both (λ v parts. Some ((place, v) ∷ parts)) v (with_values parts)

-- One instruction, the k-th of its block. An access reads its address and all its values before its first part.
abbrev pub instr_step : Program → Launch → ℕ → ℕ → Instr → State → Step State
instr_step p l i k (Bin to op type a b) s = sets k to (bin_value op type (value_of s.regs a) (value_of s.regs b)) s
instr_step p l i k (Cmp to op type a b) s = sets k to (cmp_value op type (value_of s.regs a) (value_of s.regs b)) s
instr_step p l i k (Cast to op a) s = sets k to (option_and_then (cast op) (value_of s.regs a)) s
instr_step p l i k (Select to ty c a b) s = sets k to (chosen s.regs (as_truth (value_of s.regs c)) a b) s
instr_step p l i k (Copy to ty a) s = sets k to (value_of s.regs a) s
instr_step p l i k (One to op a) s = sets k to (option_map (λ x. Number (one_op op x)) (number_of s.regs a)) s
instr_step p l i k (Two to op a b) s =
    sets k to (on_both (λ x y. Some (Number (two_op op x y))) (number_of s.regs a) (number_of s.regs b)) s
instr_step p l i k (Mad to a b c) s =
    sets k to (on_both (λ xy z. Some (Number (word_add xy z))) (on_both (λ x y. Some (word_mul x y)) (number_of s.regs a) (number_of s.regs b)) (number_of s.regs c)) s
instr_step p l i k (Id to op part) s = sets k to (Some (Number (id_of p l i op part))) s
instr_step p l i k (Size to buffer) s = sets k to (Some (Number (words_of p l (target.Buffer buffer)))) s
instr_step p l i k (Load to mask target addr) s =
    if is_empty (parts_of mask) then Quiet [] (at_line (suc k) s.regs s)
    else
    given (address p l s.regs target addr) λ words.
    load_step k to (map (λ c. (c, option_map (place_of target) (words c))) (parts_of mask)) s
instr_step p l i k (Store mask target addr x y z w) s =
    given (address p l s.regs target addr) λ words.
    given (with_values (map (λ c. (option_map (place_of target) (words c), number_of s.regs (pick c x y z w))) (parts_of mask))) λ parts.
    store_step k parts s
instr_step p l i k (Atomic to op target addr value) s =
    given (address p l s.regs target addr) λ words.
    given (number_of s.regs value) λ v.
    atomic_step k to op (option_map (place_of target) (words 0)) v s
instr_step p l i k (Swap to target addr compare value) s =
    given (address p l s.regs target addr) λ words.
    given (number_of s.regs compare) λ c.
    given (number_of s.regs value) λ v.
    swap_step k to (option_map (place_of target) (words 0)) c v s
instr_step p l i k (Barrier sync scope uav shared) s =
    Acts (launch.Barrier sync scope uav shared) (λ answer. at_line (suc k) s.regs s)
instr_step p l i k Nothing s = Quiet [] (at_line (suc k) s.regs s)

-- the block of the case whose value this is, or the default
abbrev pub case_of : ℕ → List (ℕ × ℕ) → ℕ → ℕ
case_of v [] default = default
case_of v (c ∷ cs) default = if nat_eq c.0 v then c.1 else case_of v cs default

abbrev pub term_step : Program → Term → State → Step State
term_step p Ret s = Acts End (λ answer. s)
term_step p Unreachable s = Wrong
term_step p (Go k) s = enter p k s
term_step p (If c there other) s =
    given (as_truth (value_of s.regs c)) λ b. enter p (if b then there else other) s
term_step p (Switch value default cases) s = given (number_of s.regs value) λ v. enter p (case_of v cases default) s

-- the instruction of this number, or the terminator after the last one
abbrev pub line_step : Program → Launch → ℕ → ℕ → Block → Option Instr → State → Step State
line_step p l i k block (Some instr) s = instr_step p l i k instr s
line_step p l i k block None s = term_step p block.term s

abbrev pub spot_step : Program → Launch → ℕ → Block → Spot → State → Step State
spot_step p l i block Phis s = Quiet [] (at_line 0 (after_phis s.regs s.previous block.phis s.regs) s)
spot_step p l i block (Line k) s = line_step p l i k block (slice_get block.instrs k) s
spot_step p l i block (Loading k to left) s = load_step k to left s
spot_step p l i block (Storing k left) s = store_step k left s

abbrev pub block_step : Program → Launch → ℕ → Option Block → State → Step State
block_step p l i None s = Wrong
block_step p l i (Some block) s = spot_step p l i block s.spot s

-- the machine of a program in a launch. The first entry of an invocation begins block 0
abbrev pub source : Program → Launch → Machine State
source p l =
    record {
      start = record { block = 0; spot = first_spot (slice_get p.blocks 0); regs = λ value part. None; previous = 0 };
      first = 0 ∷ [];
      step = λ i s. block_step p l i (slice_get p.blocks s.block) s;
    }
