-- How an instruction of a block is lowered, and which registers are known then.
use Rattle.std.specs.Prelude.{ℕ, ◌+◌, Bool, true, false, List, [], ◌∷◌, ◌++◌, length}
use Rattle.dxil_form.specs.declared.value.Ty.{Ty}
use Rattle.dxil_form.specs.declared.value.Ty.TheVariants as ty
use Rattle.dxil_form.specs.declared.value.Reg.{Reg}
use Rattle.dxil_form.specs.declared.value.Operand.{Operand}
use Rattle.dxil_form.specs.declared.instr.BinOp.{BinOp}
use Rattle.dxil_form.specs.declared.instr.BinOp.TheVariants as bin
use Rattle.dxil_form.specs.declared.instr.CmpOp.{CmpOp}
use Rattle.dxil_form.specs.declared.instr.CmpOp.TheVariants as cmp
use Rattle.dxil_form.specs.declared.instr.CastOp.{CastOp}
use Rattle.dxil_form.specs.declared.instr.CastOp.TheVariants as cast
use Rattle.dxil_form.specs.declared.instr.OneOp.{OneOp}
use Rattle.dxil_form.specs.declared.instr.OneOp.TheVariants as one
use Rattle.dxil_form.specs.declared.instr.TwoOp.{TwoOp}
use Rattle.dxil_form.specs.declared.instr.TwoOp.TheVariants as two
use Rattle.dxil_form.specs.declared.instr.IdOp.{IdOp}
use Rattle.dxil_form.specs.declared.instr.IdOp.TheVariants as thread
use Rattle.dxil_form.specs.declared.instr.Scope.{Scope}
use Rattle.dxil_form.specs.declared.instr.Scope.TheVariants as scope
use Rattle.dxil_form.specs.declared.instr.Addr.{Addr}
use Rattle.dxil_form.specs.declared.instr.Target.{Target}
use Rattle.dxil_form.specs.declared.instr.Target.TheVariants as target
use Rattle.dxil_form.specs.declared.instr.Instr.{Instr}
use Rattle.dxil_form.specs.declared.instr.Instr.TheVariants.{Bin, Cmp, Cast, Select, Copy, One, Two, Mad, Id, Size, Load, Store, Atomic, Swap, Barrier, Nothing}
use Rattle.dxil_form.specs.Registers.{parts_of, part_of, pick}
use Rattle.spv_form.specs.declared.module.Inst.{Inst}
use Rattle.spirv_code.specs.declared.key.Sort.TheVariants as sort
use Rattle.spirv_code.specs.declared.key.BuiltIn.{BuiltIn}
use Rattle.spirv_code.specs.declared.key.BuiltIn.TheVariants as builtin
use Rattle.spirv_code.specs.declared.key.Global.TheVariants as global
use Rattle.spirv_code.specs.declared.event.Event.{Event}
use Rattle.spirv_code.specs.declared.event.Event.TheVariants as event
use Rattle.spirv_code.specs.Plans.{Context, inst, result, number, type_id}
use Rattle.spirv_code.specs.Reads.{Env, with_id, read_size, read_code, read_id, keep_code, two_size, two_code, second_id, three_size, three_code}
use Rattle.spirv_code.specs.Accesses.{int_inst, bool_inst, length_inst, part_code, part_env}

-- ---- opcodes (SPIR-V 1.6, sections 3.42.13 to 3.42.15)

-- on truth values only the operations on bits occur
abbrev pub bin_opcode : BinOp → Ty → ℕ
bin_opcode bin.Add t = 128
bin_opcode bin.Sub t = 130
bin_opcode bin.Mul t = 132
bin_opcode bin.UDiv t = 134
bin_opcode bin.SDiv t = 135
bin_opcode bin.URem t = 137
bin_opcode bin.SRem t = 138
bin_opcode bin.Shl t = 196
bin_opcode bin.LShr t = 194
bin_opcode bin.AShr t = 195
bin_opcode bin.And ty.Int = 199
bin_opcode bin.And ty.Bool = 167
bin_opcode bin.Or ty.Int = 197
bin_opcode bin.Or ty.Bool = 166
bin_opcode bin.Xor ty.Int = 198
bin_opcode bin.Xor ty.Bool = 165

-- on truth values only equality occurs
abbrev pub cmp_opcode : CmpOp → Ty → ℕ
cmp_opcode cmp.Eq ty.Int = 170
cmp_opcode cmp.Eq ty.Bool = 164
cmp_opcode cmp.Ne ty.Int = 171
cmp_opcode cmp.Ne ty.Bool = 165
cmp_opcode cmp.UGt t = 172
cmp_opcode cmp.UGe t = 174
cmp_opcode cmp.ULt t = 176
cmp_opcode cmp.ULe t = 178
cmp_opcode cmp.SGt t = 173
cmp_opcode cmp.SGe t = 175
cmp_opcode cmp.SLt t = 177
cmp_opcode cmp.SLe t = 179

abbrev pub one_opcode : OneOp → ℕ
one_opcode one.Bfrev = 204
one_opcode one.Countbits = 205

-- the compare that chooses the second operand of a maximum or a minimum
abbrev pub two_opcode : TwoOp → ℕ
two_opcode two.IMax = 177
two_opcode two.IMin = 173
two_opcode two.UMax = 176
two_opcode two.UMin = 172

-- ---- lines without an event

-- an instruction whose result a register takes
abbrev pub value_code : Context → ℕ → Reg → Ty → ℕ → List ℕ → List Inst
value_code c place to t opcode operands =
    inst opcode (type_id c t ∷ result c place ∷ operands) ∷ keep_code c to t (result c place)

abbrev pub bin_code : Context → Env → ℕ → Reg → Ty → ℕ → Operand → Operand → List Inst
bin_code c env place to t opcode a b =
    two_code c env place a b ++ value_code c (place + two_size c env a b) to t opcode (read_id c env place a ∷ second_id c env place a b ∷ [])

-- how many instructions of a cast stand between its operand and its result
abbrev pub cast_before : CastOp → ℕ
cast_before cast.Trunc = 1
cast_before cast.Zext = 0
cast_before cast.Sext = 0

-- behind the operand, which has this id: the lowest bit of a number is not zero, or a number is chosen by a truth value
abbrev pub cast_tail : Context → (place : ℕ) → Reg → CastOp → (id : ℕ) → List Inst
cast_tail c place to cast.Trunc id =
    int_inst c place 199 (id ∷ number c 1 ∷ []) ∷
    value_code c (place + 1) to ty.Bool 171 (result c place ∷ number c 0 ∷ [])
cast_tail c place to cast.Zext id =
    value_code c place to ty.Int 169 (id ∷ number c 1 ∷ number c 0 ∷ [])
cast_tail c place to cast.Sext id =
    value_code c place to ty.Int 169 (id ∷ number c 0xFFFF_FFFF ∷ number c 0 ∷ [])

abbrev pub cast_code : Context → Env → ℕ → Reg → CastOp → Operand → List Inst
cast_code c env place to op a =
    read_code c env place a ++ cast_tail c (place + read_size c env a) to op (read_id c env place a)

abbrev pub select_code : Context → Env → ℕ → Reg → Ty → Operand → Operand → Operand → List Inst
select_code c env place to t x a b =
    three_code c env place x a b ++ value_code c (place + three_size c env x a b) to t 169 (read_id c env place x ∷ read_id c env (place + read_size c env x) a ∷ second_id c env (place + read_size c env x) a b ∷ [])

abbrev pub one_code : Context → Env → ℕ → Reg → OneOp → Operand → List Inst
one_code c env place to op a =
    read_code c env place a ++ value_code c (place + read_size c env a) to ty.Int (one_opcode op) (read_id c env place a ∷ [])

-- the compare, and the choice by it
abbrev pub extreme_code : Context → Env → ℕ → Reg → TwoOp → Operand → Operand → List Inst
extreme_code c env place to op a b =
    two_code c env place a b ++
    (bool_inst c (place + two_size c env a b) (two_opcode op) (read_id c env place a ∷ second_id c env place a b ∷ []) ∷
    value_code c (place + (two_size c env a b + 1)) to ty.Int 169 (result c (place + two_size c env a b) ∷ second_id c env place a b ∷ read_id c env place a ∷ []))

abbrev pub mad_code : Context → Env → ℕ → Reg → Operand → Operand → Operand → List Inst
mad_code c env place to x a b =
    three_code c env place x a b ++
    (int_inst c (place + three_size c env x a b) 132 (read_id c env place x ∷ read_id c env (place + read_size c env x) a ∷ []) ∷
    value_code c (place + (three_size c env x a b + 1)) to ty.Int 128 (result c (place + three_size c env x a b) ∷ second_id c env (place + read_size c env x) a b ∷ []))

-- the built-in of a number of the invocation
abbrev pub built_in_of : IdOp → BuiltIn
built_in_of thread.Thread = builtin.GlobalInvocationId
built_in_of thread.Group = builtin.WorkgroupId
built_in_of thread.InGroup = builtin.LocalInvocationId
built_in_of thread.Flat = builtin.LocalInvocationIndex

-- a component of a vector that is loaded whole
abbrev pub component_code : Context → ℕ → Reg → BuiltIn → ℕ → List Inst
component_code c place to b part =
    inst 61 (c.key (global.Plain sort.Triple) ∷ result c place ∷ c.key (global.Input b) ∷ []) ∷
    value_code c (place + 1) to ty.Int 81 (result c place ∷ part ∷ [])

abbrev pub id_code : Context → ℕ → Reg → IdOp → ℕ → List Inst
id_code c place to thread.Thread part = component_code c place to (built_in_of thread.Thread) part
id_code c place to thread.Group part = component_code c place to (built_in_of thread.Group) part
id_code c place to thread.InGroup part = component_code c place to (built_in_of thread.InGroup) part
id_code c place to thread.Flat part =
    value_code c place to ty.Int 61 (c.key (global.Input (built_in_of thread.Flat)) ∷ [])

-- how many instructions stand before the result
abbrev pub id_before : IdOp → ℕ
id_before thread.Thread = 1
id_before thread.Group = 1
id_before thread.InGroup = 1
id_before thread.Flat = 0

abbrev pub copy_code : Context → Env → ℕ → Reg → Ty → Operand → List Inst
copy_code c env place to t a =
    read_code c env place a ++ keep_code c to t (read_id c env place a)

-- the memory scope of a barrier: the device's or the group's
abbrev pub barrier_scope : Scope → ℕ
barrier_scope scope.Device = 1
barrier_scope scope.Group = 2
barrier_scope scope.Nobody = 2

-- the memory semantics: acquire and release, of the memories that are named; or none
abbrev pub barrier_semantics : (uav shared : Bool) → ℕ
barrier_semantics true true = 0x148
barrier_semantics true false = 0x48
barrier_semantics false true = 0x108
barrier_semantics false false = 0

abbrev pub barrier_code : Context → Bool → Scope → (uav shared : Bool) → List Inst
barrier_code c true s uav shared =
    inst 224 (number c 2 ∷ number c (barrier_scope s) ∷ number c (barrier_semantics uav shared) ∷ []) ∷ []
barrier_code c false s uav shared =
    inst 225 (number c (barrier_scope s) ∷ number c (barrier_semantics uav shared) ∷ []) ∷ []

-- ---- lines with events

-- a part and what is done with its word
abbrev pub load_event : ℕ → ℕ → Event
load_event to part = event.Load (part_of to part)

abbrev pub store_event : Operand → Operand → Operand → Operand → ℕ → Event
store_event x y z w part = event.Store (pick part x y z w)

abbrev pub swap_event : ℕ → Operand → Operand → Event
swap_event to compare value = event.Swap (part_of to 0) (part_of to 1) compare value

abbrev pub parts_code : Context → Env → ℕ → Target → Addr → (ℕ → Event) → List ℕ → List Inst
parts_code c env place t addr event_of [] = []
parts_code c env place t addr event_of (part ∷ parts) =
    part_code c env place t addr part (event_of part) ++ parts_code c (part_env c env addr part (event_of part)) (place + length (part_code c env place t addr part (event_of part))) t addr event_of parts

abbrev pub parts_env : Context → Env → Addr → (ℕ → Event) → List ℕ → Env
parts_env c env addr event_of [] = env
parts_env c env addr event_of (part ∷ parts) =
    parts_env c (part_env c env addr part (event_of part)) addr event_of parts

-- ---- the lines of a block

abbrev pub line_code : Context → Env → ℕ → Instr → List Inst
line_code c env place (Bin to op t a b) = bin_code c env place to t (bin_opcode op t) a b
line_code c env place (Cmp to op t a b) = bin_code c env place to ty.Bool (cmp_opcode op t) a b
line_code c env place (Cast to op a) = cast_code c env place to op a
line_code c env place (Select to t x a b) = select_code c env place to t x a b
line_code c env place (Copy to t a) = copy_code c env place to t a
line_code c env place (One to op a) = one_code c env place to op a
line_code c env place (Two to op a b) = extreme_code c env place to op a b
line_code c env place (Mad to x a b) = mad_code c env place to x a b
line_code c env place (Id to op part) = id_code c place to op part
line_code c env place (Size to buffer) =
    length_inst c place (target.Buffer buffer) ∷ keep_code c to ty.Int (result c place)
line_code c env place (Load to mask t addr) =
    parts_code c env place t addr (load_event to) (parts_of mask)
line_code c env place (Store mask t addr x y z w) =
    parts_code c env place t addr (store_event x y z w) (parts_of mask)
line_code c env place (Atomic to op t addr value) =
    part_code c env place t addr 0 (event.Atomic to op value)
line_code c env place (Swap to t addr compare value) =
    part_code c env place t addr 0 (swap_event to compare value)
line_code c env place (Barrier sync s uav shared) = barrier_code c sync s uav shared
line_code c env place Nothing = []

abbrev pub line_env : Context → Env → ℕ → Instr → Env
line_env c env place (Bin to op t a b) = with_id to (result c (place + two_size c env a b)) env
line_env c env place (Cmp to op t a b) = with_id to (result c (place + two_size c env a b)) env
line_env c env place (Cast to op a) =
    with_id to (result c (place + (read_size c env a + cast_before op))) env
line_env c env place (Select to t x a b) = with_id to (result c (place + three_size c env x a b)) env
line_env c env place (Copy to t a) = with_id to (read_id c env place a) env
line_env c env place (One to op a) = with_id to (result c (place + read_size c env a)) env
line_env c env place (Two to op a b) = with_id to (result c (place + (two_size c env a b + 1))) env
line_env c env place (Mad to x a b) = with_id to (result c (place + (three_size c env x a b + 1))) env
line_env c env place (Id to op part) = with_id to (result c (place + id_before op)) env
line_env c env place (Size to buffer) = with_id to (result c place) env
line_env c env place (Load to mask t addr) = parts_env c env addr (load_event to) (parts_of mask)
line_env c env place (Store mask t addr x y z w) =
    parts_env c env addr (store_event x y z w) (parts_of mask)
line_env c env place (Atomic to op t addr value) =
    part_env c env addr 0 (event.Atomic to op value)
line_env c env place (Swap to t addr compare value) =
    part_env c env addr 0 (swap_event to compare value)
line_env c env place (Barrier sync s uav shared) = env
line_env c env place Nothing = env

abbrev pub lines_code : Context → Env → ℕ → List Instr → List Inst
lines_code c env place [] = []
lines_code c env place (line ∷ lines) =
    line_code c env place line ++ lines_code c (line_env c env place line) (place + length (line_code c env place line)) lines

abbrev pub lines_env : Context → Env → ℕ → List Instr → Env
lines_env c env place [] = env
lines_env c env place (line ∷ lines) =
    lines_env c (line_env c env place line) (place + length (line_code c env place line)) lines
