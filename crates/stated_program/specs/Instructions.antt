-- What each line of a body states: an instruction, a phi, or the end of a block.
use Rattle.std.specs.Prelude.{ℕ, ◌+◌, ◌/◌, ◌%◌, ◌^◌, ◌==◌, ◌&&◌, ◌||◌, List, [], ◌∷◌, map, length, get_or, nat_eq, Bool, true, false, if◌then◌else◌, Option, Some, None, unwrap_or}
use Rattle.dxil_form.specs.declared.value.Operand.{Operand}
use Rattle.dxil_form.specs.declared.value.Operand.TheVariants as operand
use Rattle.dxil_form.specs.declared.value.Reg.{Reg}
use Rattle.dxil_form.specs.declared.value.Ty.{Ty}
use Rattle.dxil_form.specs.declared.value.Ty.TheVariants as ty
use Rattle.dxil_form.specs.declared.instr.Addr.{Addr}
use Rattle.dxil_form.specs.declared.instr.Target.{Target}
use Rattle.dxil_form.specs.declared.instr.BinOp.{BinOp}
use Rattle.dxil_form.specs.declared.instr.BinOp.TheVariants as bin
use Rattle.dxil_form.specs.declared.instr.CmpOp.{CmpOp}
use Rattle.dxil_form.specs.declared.instr.CmpOp.TheVariants as cmp
use Rattle.dxil_form.specs.declared.instr.CastOp.{CastOp}
use Rattle.dxil_form.specs.declared.instr.CastOp.TheVariants as cast
use Rattle.dxil_form.specs.declared.instr.OneOp.TheVariants as one
use Rattle.dxil_form.specs.declared.instr.TwoOp.TheVariants as two
use Rattle.dxil_form.specs.declared.instr.IdOp.TheVariants as id
use Rattle.dxil_form.specs.declared.instr.AtomicOp.{AtomicOp}
use Rattle.dxil_form.specs.declared.instr.AtomicOp.TheVariants as atomic
use Rattle.dxil_form.specs.declared.instr.Scope.{Scope}
use Rattle.dxil_form.specs.declared.instr.Scope.TheVariants.{Nobody, Group, Device}
use Rattle.dxil_form.specs.declared.instr.Instr.{Instr}
use Rattle.dxil_form.specs.declared.instr.Instr.TheVariants.{Bin, Cmp, Cast, Select, Copy, One, Two, Mad, Id, Load, Store, Atomic, Swap, Barrier, Nothing}
use Rattle.dxil_form.specs.declared.block.Term.{Term}
use Rattle.dxil_form.specs.declared.block.Term.TheVariants.{Ret, Unreachable, Go, If, Switch}
use Rattle.dxil_form.specs.declared.block.Entry.{Entry}
use Rattle.dxil_form.specs.declared.block.Phi.{Phi}
use Rattle.dxil_form.specs.declared.op.OpKind.{OpKind}
use Rattle.dxil_form.specs.declared.op.OpKind.TheVariants as op
use Rattle.llvm_bodies.specs.Bodies.{is_terminator}
use Rattle.llvm_bodies.specs.declared.line.Line.{Line}
use Rattle.llvm_facts.specs.declared.facts.Row.{Row}
use Rattle.profile_lines.specs.Pool.{constant, constant_given}
use Rattle.profile_lines.specs.Calls.{operand as number_at, plain, argument, operation}
use Rattle.profile_tables.specs.EntryBody.{EntryBody, kind_at}
use Rattle.profile_tables.specs.Kinds.{ty_of}
use Rattle.profile_tables.specs.Places.{place_named}
use Rattle.profile_tables.specs.Resources.{handle_row, row_at}
use Rattle.profile_tables.specs.Parts.{mask_of, entries_of, cases_of}
use Rattle.profile_tables.specs.Operands.{operand_of}
use Rattle.stated_program.specs.Accesses.{buffer, address, array, index}

-- ---- codes

-- BINOP: add 0, sub 1, mul 2, udiv 3, sdiv 4, urem 5, srem 6, shl 7, lshr 8, ashr 9, and 10, or 11, xor 12
abbrev pub bin_of : ℕ → BinOp
bin_of code =
    if code == 0 then bin.Add
    else if code == 1 then bin.Sub
    else if code == 2 then bin.Mul
    else if code == 3 then bin.UDiv
    else if code == 4 then bin.SDiv
    else if code == 5 then bin.URem
    else if code == 6 then bin.SRem
    else if code == 7 then bin.Shl
    else if code == 8 then bin.LShr
    else if code == 9 then bin.AShr
    else if code == 10 then bin.And
    else if code == 11 then bin.Or
    else bin.Xor

-- predicates from 32 on: eq, ne, ugt, uge, ult, ule, sgt, sge, slt, sle
abbrev pub cmp_of : ℕ → CmpOp
cmp_of code =
    if code == 32 then cmp.Eq
    else if code == 33 then cmp.Ne
    else if code == 34 then cmp.UGt
    else if code == 35 then cmp.UGe
    else if code == 36 then cmp.ULt
    else if code == 37 then cmp.ULe
    else if code == 38 then cmp.SGt
    else if code == 39 then cmp.SGe
    else if code == 40 then cmp.SLt
    else cmp.SLe

-- CAST: trunc 0, zext 1, sext 2
abbrev pub cast_of : ℕ → CastOp
cast_of code =
    if code == 0 then cast.Trunc
    else if code == 1 then cast.Zext
    else cast.Sext

-- ATOMICRMW: xchg 0, add 1, sub 2, and 3, or 5, xor 6, max 7, min 8, umax 9, umin 10
abbrev pub rmw_of : ℕ → AtomicOp
rmw_of code =
    if code == 0 then atomic.Exchange
    else if code == 1 then atomic.Add
    else if code == 2 then atomic.Sub
    else if code == 3 then atomic.And
    else if code == 5 then atomic.Or
    else if code == 6 then atomic.Xor
    else if code == 7 then atomic.SMax
    else if code == 8 then atomic.SMin
    else if code == 9 then atomic.UMax
    else atomic.UMin

-- AtomicBinOp: add 0, and 1, or 2, xor 3, signed min 4, signed max 5, unsigned min 6, unsigned max 7, exchange 8
abbrev pub atomic_of : ℕ → AtomicOp
atomic_of kind =
    if kind == 0 then atomic.Add
    else if kind == 1 then atomic.And
    else if kind == 2 then atomic.Or
    else if kind == 3 then atomic.Xor
    else if kind == 4 then atomic.SMin
    else if kind == 5 then atomic.SMax
    else if kind == 6 then atomic.UMin
    else if kind == 7 then atomic.UMax
    else atomic.Exchange

-- ---- parts of instructions

-- the register of a line's value: its number, and part 0
abbrev pub number_of : Line → ℕ
number_of line = unwrap_or line.value 0

abbrev pub set_by : Line → Reg
set_by line = record { value = number_of line; part = 0 }

-- the operand at a place, and the type of its value
abbrev pub at : EntryBody → Line → ℕ → Operand
at x line place = operand_of x (number_at line place)

abbrev pub ty_at : EntryBody → Line → ℕ → Ty
ty_at x line place = ty_of (kind_at x (number_at line place))

-- the type of a line's own value
abbrev pub own_ty : EntryBody → Line → Ty
own_ty x line = ty_of (kind_at x (number_of line))

-- a constant argument, by its place behind the opcode
abbrev pub constant_at : EntryBody → Line → ℕ → ℕ → ℕ
constant_at x line n width = unwrap_or (constant_given x.pool width (argument line n)) 0

abbrev pub no_value : Operand
no_value = operand.Undef ty.Int

-- the part of a value that an EXTRACTVAL takes
abbrev pub part_taken : EntryBody → Line → Operand
part_taken x line = operand.Reg (record { value = number_at line 0; part = plain line 0 }) (own_ty x line)

-- ---- barriers

abbrev pub has_mode : ℕ → ℕ → Bool
has_mode mode i = nat_eq (mode / 2 ^ i % 2) 1

abbrev pub scope_of : ℕ → Scope
scope_of mode = if has_mode mode 1 then Device else (if has_mode mode 2 || has_mode mode 3 then Group else Nobody)

-- Bit 1 syncs the group; bits 2 and 4 order buffers, for the device or for the group; bit 8 orders groupshared memory.
abbrev pub barrier_of : ℕ → Instr
barrier_of mode = Barrier (has_mode mode 0) (scope_of mode) (has_mode mode 1 || has_mode mode 2) (has_mode mode 3)

-- ---- calls

-- the address that a call with a handle names, by its coordinates at these places behind the opcode
abbrev pub address_at : EntryBody → Line → ℕ → ℕ → Addr
address_at x line first second = address (row_at x (handle_row x line)) (at x line (first + 1)) (at x line (second + 1))

abbrev pub target : EntryBody → Line → Target
target x line = buffer x (handle_row x line)

abbrev pub load_of : EntryBody → Line → Instr
load_of x line = Load (number_of line) (mask_of x (number_of line)) (target x line) (address_at x line 2 3)

abbrev pub store_of : EntryBody → Line → Instr
store_of x line = Store (constant_at x line 8 8) (target x line) (address_at x line 2 3) (at x line 5) (at x line 6) (at x line 7) (at x line 8)

abbrev pub call_of : EntryBody → Line → OpKind → Instr
call_of x line op.Bfrev = One (set_by line) one.Bfrev (at x line 2)
call_of x line op.Countbits = One (set_by line) one.Countbits (at x line 2)
call_of x line op.IMax = Two (set_by line) two.IMax (at x line 2) (at x line 3)
call_of x line op.IMin = Two (set_by line) two.IMin (at x line 2) (at x line 3)
call_of x line op.UMax = Two (set_by line) two.UMax (at x line 2) (at x line 3)
call_of x line op.UMin = Two (set_by line) two.UMin (at x line 2) (at x line 3)
call_of x line op.IMad = Mad (set_by line) (at x line 2) (at x line 3) (at x line 4)
call_of x line op.UMad = Mad (set_by line) (at x line 2) (at x line 3) (at x line 4)
call_of x line op.CreateHandle = Nothing
call_of x line op.CBufferLoad = load_of x line
call_of x line op.BufferLoad = load_of x line
call_of x line op.BufferStore = store_of x line
call_of x line op.AtomicBinOp = Atomic (set_by line) (atomic_of (constant_at x line 2 32)) (target x line) (address_at x line 3 4) (at x line 7)
call_of x line op.AtomicCompareExchange = Swap (number_of line) (target x line) (address_at x line 2 3) (at x line 6) (at x line 7)
call_of x line op.Barrier = barrier_of (constant_at x line 1 32)
call_of x line op.ThreadId = Id (set_by line) id.Thread (constant_at x line 1 32)
call_of x line op.GroupId = Id (set_by line) id.Group (constant_at x line 1 32)
call_of x line op.ThreadIdInGroup = Id (set_by line) id.InGroup (constant_at x line 1 32)
call_of x line op.FlatId = Id (set_by line) id.Flat 0
call_of x line op.RawLoad = load_of x line
call_of x line op.RawStore = store_of x line

abbrev pub called : EntryBody → Line → Option OpKind → Instr
called x line None = Nothing
called x line (Some op) = call_of x line op

-- ---- lines

-- the phi that a line states: its entries stand in record order
abbrev pub entry_of : EntryBody → ℕ × ℕ → Entry
entry_of x pair = record { from = pair.1; value = operand_of x pair.0 }

abbrev pub phi_at : EntryBody → Line → Phi
phi_at x line = record { to = set_by line; ty = own_ty x line; entries = map (entry_of x) (entries_of line) }

abbrev pub phi_of : EntryBody → Line → Option Phi
phi_of x line = if line.code == 16 then Some (phi_at x line) else None

-- BINOP, CAST, LOAD, EXTRACTVAL, CMP2, VSELECT, CALL, ATOMICRMW, GEP, STORE and CMPXCHG; a GEP gives its index
unfoldable pub instruction : EntryBody → Line → Instr
instruction x line =
    if line.code == 2 then Bin (set_by line) (bin_of (plain line 0)) (ty_at x line 0) (at x line 0) (at x line 1)
    else if line.code == 3 then Cast (set_by line) (cast_of (plain line 0)) (at x line 0)
    else if line.code == 20 then Load (number_of line) 1 (array x (place_named x line)) (index x (place_named x line))
    else if line.code == 26 then Copy (set_by line) (own_ty x line) (part_taken x line)
    else if line.code == 28 then Cmp (set_by line) (cmp_of (plain line 0)) (ty_at x line 0) (at x line 0) (at x line 1)
    else if line.code == 29 then Select (set_by line) (ty_at x line 0) (at x line 2) (at x line 0) (at x line 1)
    else if line.code == 34 then called x line (operation x.pool line)
    else if line.code == 38 then Atomic (set_by line) (rmw_of (plain line 0)) (array x (place_named x line)) (index x (place_named x line)) (at x line 1)
    else if line.code == 43 then Copy (set_by line) ty.Int (at x line 2)
    else if line.code == 44 then Store 1 (array x (place_named x line)) (index x (place_named x line)) (at x line 1) no_value no_value no_value
    else if line.code == 46 then Swap (number_of line) (array x (place_named x line)) (index x (place_named x line)) (at x line 1) (at x line 2)
    else Nothing

-- a line that is neither a phi nor a terminator states an instruction
abbrev pub instruction_of : EntryBody → Line → Option Instr
instruction_of x line = if line.code == 16 || is_terminator line.code then None else Some (instruction x line)

-- a case is a constant and a block
abbrev pub case_of : EntryBody → ℕ × ℕ → ℕ × ℕ
case_of x pair = (unwrap_or (constant x.pool 32 pair.0) 0, pair.1)

abbrev pub branch_of : EntryBody → Line → Term
branch_of x line = if length line.numbers == 1 then Go (number_at line 0) else If (at x line 2) (number_at line 0) (number_at line 1)

-- RET, BR, SWITCH and UNREACHABLE
unfoldable pub end_of : EntryBody → Line → Term
end_of x line =
    if line.code == 10 then Ret
    else if line.code == 11 then branch_of x line
    else if line.code == 12 then Switch (at x line 0) (number_at line 1) (map (case_of x) (cases_of line))
    else Unreachable
