-- The code of the lines of a block but for range tests has no label, merge instruction or terminator.
use Rattle.std.proofs.Common.{ℕ, ◌+◌, ◌<◌, Bool, true, false, List, [], ◌∷◌, ◌++◌, Option, Some, None, arith}
use Rattle.std.specs.Prelude.{nat_eq, if◌then◌else◌}
use Rattle.dxil_form.specs.declared.value.Ty.{Ty}
use Rattle.dxil_form.specs.declared.value.Ty.TheVariants as ty
use Rattle.dxil_form.specs.declared.value.Reg.{Reg}
use Rattle.dxil_form.specs.declared.value.Operand.{Operand}
use Rattle.dxil_form.specs.declared.value.Operand.TheVariants as operand
use Rattle.dxil_form.specs.declared.instr.BinOp.{BinOp}
use Rattle.dxil_form.specs.declared.instr.BinOp.TheVariants as bin
use Rattle.dxil_form.specs.declared.instr.CmpOp.{CmpOp}
use Rattle.dxil_form.specs.declared.instr.CmpOp.TheVariants as cmp
use Rattle.dxil_form.specs.declared.instr.CastOp.{CastOp}
use Rattle.dxil_form.specs.declared.instr.CastOp.TheVariants as cast
use Rattle.dxil_form.specs.declared.instr.OneOp.{OneOp}
use Rattle.dxil_form.specs.declared.instr.OneOp.TheVariants as one
use Rattle.dxil_form.specs.declared.instr.TwoOp.{TwoOp}
use Rattle.dxil_form.specs.declared.instr.TwoOp.TheVariants as two
use Rattle.dxil_form.specs.declared.instr.IdOp.{IdOp}
use Rattle.dxil_form.specs.declared.instr.IdOp.TheVariants as thread
use Rattle.dxil_form.specs.declared.instr.AtomicOp.{AtomicOp}
use Rattle.dxil_form.specs.declared.instr.AtomicOp.TheVariants as atomic
use Rattle.dxil_form.specs.declared.instr.Scope.{Scope}
use Rattle.dxil_form.specs.declared.instr.Addr.{Addr}
use Rattle.dxil_form.specs.declared.instr.Addr.TheVariants.{Byte, Element, Row, Index}
use Rattle.dxil_form.specs.declared.instr.Target.{Target}
use Rattle.spv_form.specs.declared.module.Inst.{Inst}
use Rattle.spirv_code.specs.declared.key.BuiltIn.{BuiltIn}
use Rattle.spirv_code.specs.declared.event.Event.{Event}
use Rattle.spirv_code.specs.declared.event.Event.TheVariants as event
use Rattle.spirv_code.specs.Plans.{Context, result, kept, number, zero_id}
use Rattle.spirv_code.specs.Reads.{Env, reg_code, read_size, read_code, two_size, two_code, three_code, store_code, keep_code}
use Rattle.spirv_code.specs.Accesses.{base_size, base_code, base_id, adds, word_code, chain_code, int_inst, bool_inst, byte_tests, index_test, test_code, atomic_opcode, event_code, zeros_code, length_inst}
use Rattle.spirv_code.specs.Lines.{bin_opcode, cmp_opcode, one_opcode, two_opcode, cast_tail, id_code, built_in_of, component_code, barrier_code}
use Rattle.written_rows.specs.Code.{AreInner}

pub inner_append : (xs ys : List Inst) → AreInner xs → AreInner ys → AreInner (xs ++ ys)
inner_append [] ys h k = k
inner_append (x ∷ xs) ys h k = (h.0, inner_append xs ys h.1 k)

-- ---- reads and stores

pub reg_low : (c : Context) (place : ℕ) (t : Ty) (env slot : Option ℕ) → AreInner (reg_code c place t env slot)
reg_low c place t (Some id) slot = tt
reg_low c place t None (Some variable) = (omega arith, tt)
reg_low c place t None None = tt

pub read_low : (c : Context) (env : Env) (place : ℕ) (a : Operand) → AreInner (read_code c env place a)
read_low c env place (operand.Reg reg t) = reg_low c place t (env reg) (c.slot (kept reg t))
read_low c env place (operand.Int n) = tt
read_low c env place (operand.Bool b) = tt
read_low c env place (operand.Undef t) = tt

pub two_low : (c : Context) (env : Env) (place : ℕ) (a b : Operand) → AreInner (two_code c env place a b)
two_low c env place a b =
    inner_append (read_code c env place a) (read_code c env (place + read_size c env a) b) (read_low c env place a) (read_low c env (place + read_size c env a) b)

pub three_low : (c : Context) (env : Env) (place : ℕ) (x a b : Operand) → AreInner (three_code c env place x a b)
three_low c env place x a b =
    inner_append (read_code c env place x) (two_code c env (place + read_size c env x) a b) (read_low c env place x) (two_low c env (place + read_size c env x) a b)

pub store_low : (slot : Option ℕ) (id : ℕ) → AreInner (store_code slot id)
store_low None id = tt
store_low (Some variable) id = (omega arith, tt)

pub keep_low : (c : Context) (reg : Reg) (t : Ty) (id : ℕ) → AreInner (keep_code c reg t id)
keep_low c reg t id = store_low (c.slot (kept reg t)) id

-- ---- opcodes

pub bin_low : (op : BinOp) (t : Ty) → bin_opcode op t < 246
bin_low bin.Add t = omega arith
bin_low bin.Sub t = omega arith
bin_low bin.Mul t = omega arith
bin_low bin.UDiv t = omega arith
bin_low bin.SDiv t = omega arith
bin_low bin.URem t = omega arith
bin_low bin.SRem t = omega arith
bin_low bin.Shl t = omega arith
bin_low bin.LShr t = omega arith
bin_low bin.AShr t = omega arith
bin_low bin.And ty.Int = omega arith
bin_low bin.And ty.Bool = omega arith
bin_low bin.Or ty.Int = omega arith
bin_low bin.Or ty.Bool = omega arith
bin_low bin.Xor ty.Int = omega arith
bin_low bin.Xor ty.Bool = omega arith

pub cmp_low : (op : CmpOp) (t : Ty) → cmp_opcode op t < 246
cmp_low cmp.Eq ty.Int = omega arith
cmp_low cmp.Eq ty.Bool = omega arith
cmp_low cmp.Ne ty.Int = omega arith
cmp_low cmp.Ne ty.Bool = omega arith
cmp_low cmp.UGt t = omega arith
cmp_low cmp.UGe t = omega arith
cmp_low cmp.ULt t = omega arith
cmp_low cmp.ULe t = omega arith
cmp_low cmp.SGt t = omega arith
cmp_low cmp.SGe t = omega arith
cmp_low cmp.SLt t = omega arith
cmp_low cmp.SLe t = omega arith

pub one_low : (op : OneOp) → one_opcode op < 246
one_low one.Bfrev = omega arith
one_low one.Countbits = omega arith

pub extreme_low : (op : TwoOp) → two_opcode op < 246
extreme_low two.IMax = omega arith
extreme_low two.IMin = omega arith
extreme_low two.UMax = omega arith
extreme_low two.UMin = omega arith

pub atomic_low : (op : AtomicOp) → atomic_opcode op < 246
atomic_low atomic.Add = omega arith
atomic_low atomic.Sub = omega arith
atomic_low atomic.And = omega arith
atomic_low atomic.Or = omega arith
atomic_low atomic.Xor = omega arith
atomic_low atomic.SMin = omega arith
atomic_low atomic.SMax = omega arith
atomic_low atomic.UMin = omega arith
atomic_low atomic.UMax = omega arith
atomic_low atomic.Exchange = omega arith

-- ---- accesses

pub base_low : (c : Context) (env : Env) (place : ℕ) (addr : Addr) → AreInner (base_code c env place addr)
base_low c env place (Byte at) =
    inner_append (read_code c env place at) _ (read_low c env place at) (omega arith, tt)
base_low c env place (Element index at stride) =
    inner_append (read_code c env place at) _ (read_low c env place at) (omega arith, inner_append (read_code c env (place + (read_size c env at + 1)) index) _ (read_low c env (place + (read_size c env at + 1)) index) (omega arith, (omega arith, tt)))
base_low c env place (Row index) = read_low c env place index
base_low c env place (Index index) = read_low c env place index

pub word_low : (c : Context) (env : Env) (place : ℕ) (addr : Addr) (part : ℕ) → AreInner (word_code c env place addr part)
word_low c env place addr part =
    inner_append (base_code c env place addr) _ (base_low c env place addr) (by_test (adds addr part))
  where
    by_test : (b : Bool) → AreInner (if b then int_inst c (place + base_size c env addr) 128 (base_id c env place addr ∷ number c part ∷ []) ∷ [] else [])
    by_test true = (omega arith, tt)
    by_test false = tt

pub chain_low : (c : Context) (env : Env) (place : ℕ) (t : Target) (addr : Addr) (part : ℕ) → AreInner (chain_code c env place t addr part)
chain_low c env place t addr part =
    inner_append (word_code c env place addr part) _ (word_low c env place addr part) (omega arith, tt)

pub byte_low : (c : Context) (place : ℕ) (t : Target) (part : ℕ) → AreInner (byte_tests c place t part)
byte_low c place t part = by_test (nat_eq part 0)
  where
    by_test : (b : Bool) → AreInner (if b then length_inst c (place + 1) t ∷ bool_inst c (place + 2) 176 (result c place ∷ result c (place + 1) ∷ []) ∷ [] else (int_inst c (place + 1) 128 (result c place ∷ number c part ∷ []) ∷ length_inst c (place + 2) t ∷ bool_inst c (place + 3) 176 (result c place ∷ result c (place + 2) ∷ []) ∷ bool_inst c (place + 4) 176 (result c (place + 1) ∷ result c (place + 2) ∷ []) ∷ bool_inst c (place + 5) 167 (result c (place + 3) ∷ result c (place + 4) ∷ []) ∷ []))
    by_test true = (omega arith, (omega arith, tt))
    by_test false = (omega arith, (omega arith, (omega arith, (omega arith, (omega arith, tt)))))

pub index_low : (c : Context) (env : Env) (place : ℕ) (index : Operand) (limit : ℕ) → AreInner (index_test c env place index limit)
index_low c env place index limit =
    inner_append (read_code c env place index) _ (read_low c env place index) (omega arith, tt)

pub test_low : (c : Context) (env : Env) (place : ℕ) (t : Target) (addr : Addr) (part : ℕ) → AreInner (test_code c env place t addr part)
test_low c env place t (Byte at) part =
    inner_append (read_code c env place at) _ (read_low c env place at) (omega arith, byte_low c (place + read_size c env at) t part)
test_low c env place t (Element index at stride) part =
    inner_append (read_code c env place at) _ (read_low c env place at) (omega arith, (omega arith, (omega arith, inner_append (read_code c env (place + (read_size c env at + 3)) index) _ (read_low c env (place + (read_size c env at + 3)) index) (omega arith, (omega arith, tt)))))
test_low c env place t (Row index) part = index_low c env place index (c.limit t)
test_low c env place t (Index index) part = index_low c env place index (c.limit t)

pub event_low : (c : Context) (env : Env) (place pointer : ℕ) (t : Target) (e : Event) → AreInner (event_code c env place pointer t e)
event_low c env place pointer t (event.Load to) = (omega arith, keep_low c to ty.Int (result c place))
event_low c env place pointer t (event.Store value) =
    inner_append (read_code c env place value) _ (read_low c env place value) (omega arith, tt)
event_low c env place pointer t (event.Atomic to op value) =
    inner_append (read_code c env place value) _ (read_low c env place value) (atomic_low op, keep_low c to ty.Int (result c (place + read_size c env value)))
event_low c env place pointer t (event.Swap old same compare value) =
    let q : ℕ = place + two_size c env value compare in
    inner_append (two_code c env place value compare) _ (two_low c env place value compare) (omega arith, inner_append (keep_code c old ty.Int (result c q)) _ (keep_low c old ty.Int (result c q)) (omega arith, keep_low c same ty.Bool _))

pub zeros_low : (c : Context) (e : Event) → AreInner (zeros_code c e)
zeros_low c (event.Load to) = keep_low c to ty.Int (zero_id c ty.Int)
zeros_low c (event.Store value) = tt
zeros_low c (event.Atomic to op value) = keep_low c to ty.Int (zero_id c ty.Int)
zeros_low c (event.Swap old same compare value) =
    inner_append (keep_code c old ty.Int (zero_id c ty.Int)) _ (keep_low c old ty.Int (zero_id c ty.Int)) (keep_low c same ty.Bool (zero_id c ty.Bool))

-- ---- lines

pub cast_low : (c : Context) → (place : ℕ) (to : Reg) (op : CastOp) (id : ℕ) → AreInner (cast_tail c place to op id)
cast_low c place to cast.Trunc id = (omega arith, (omega arith, keep_low c to ty.Bool (result c (place + 1))))
cast_low c place to cast.Zext id = (omega arith, keep_low c to ty.Int (result c place))
cast_low c place to cast.Sext id = (omega arith, keep_low c to ty.Int (result c place))

pub component_low : (c : Context) → (place : ℕ) (to : Reg) (b : BuiltIn) (part : ℕ) → AreInner (component_code c place to b part)
component_low c place to b part = (omega arith, (omega arith, keep_low c to ty.Int (result c (place + 1))))

pub id_low : (c : Context) → (place : ℕ) (to : Reg) (op : IdOp) (part : ℕ) → AreInner (id_code c place to op part)
id_low c place to thread.Thread part = component_low c place to (built_in_of thread.Thread) part
id_low c place to thread.Group part = component_low c place to (built_in_of thread.Group) part
id_low c place to thread.InGroup part = component_low c place to (built_in_of thread.InGroup) part
id_low c place to thread.Flat part = (omega arith, keep_low c to ty.Int (result c place))

pub barrier_low : (c : Context) → (sync : Bool) (s : Scope) (uav shared : Bool) → AreInner (barrier_code c sync s uav shared)
barrier_low c true s uav shared = (omega arith, tt)
barrier_low c false s uav shared = (omega arith, tt)
