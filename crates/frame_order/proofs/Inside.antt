-- The code of the lines of a block but for range tests stays inside a block.
use Rattle.std.proofs.Common.{◌≡◌, ℕ, ◌+◌, Bool, true, false, [], ◌∷◌, Option, Some, None, refl}
use Rattle.std.specs.Prelude.{nat_eq, if◌then◌else◌}
use Rattle.dxil_form.specs.declared.value.Ty.{Ty}
use Rattle.dxil_form.specs.declared.value.Ty.TheVariants as ty
use Rattle.dxil_form.specs.declared.value.Reg.{Reg}
use Rattle.dxil_form.specs.declared.value.Operand.{Operand}
use Rattle.dxil_form.specs.declared.value.Operand.TheVariants as operand
use Rattle.dxil_form.specs.declared.instr.BinOp.{BinOp}
use Rattle.dxil_form.specs.declared.instr.BinOp.TheVariants as bin
use Rattle.dxil_form.specs.declared.instr.CmpOp.{CmpOp}
use Rattle.dxil_form.specs.declared.instr.CmpOp.TheVariants as cmp
use Rattle.dxil_form.specs.declared.instr.CastOp.{CastOp}
use Rattle.dxil_form.specs.declared.instr.CastOp.TheVariants as cast
use Rattle.dxil_form.specs.declared.instr.OneOp.{OneOp}
use Rattle.dxil_form.specs.declared.instr.OneOp.TheVariants as one
use Rattle.dxil_form.specs.declared.instr.TwoOp.{TwoOp}
use Rattle.dxil_form.specs.declared.instr.TwoOp.TheVariants as two
use Rattle.dxil_form.specs.declared.instr.IdOp.{IdOp}
use Rattle.dxil_form.specs.declared.instr.IdOp.TheVariants as thread
use Rattle.dxil_form.specs.declared.instr.AtomicOp.{AtomicOp}
use Rattle.dxil_form.specs.declared.instr.AtomicOp.TheVariants as atomic
use Rattle.dxil_form.specs.declared.instr.Scope.{Scope}
use Rattle.dxil_form.specs.declared.instr.Addr.{Addr}
use Rattle.dxil_form.specs.declared.instr.Addr.TheVariants.{Byte, Element, Row, Index}
use Rattle.dxil_form.specs.declared.instr.Target.{Target}
use Rattle.spirv_code.specs.declared.key.BuiltIn.{BuiltIn}
use Rattle.spirv_code.specs.declared.event.Event.{Event}
use Rattle.spirv_code.specs.declared.event.Event.TheVariants as event
use Rattle.spirv_code.specs.Plans.{Context, result, kept, number, zero_id}
use Rattle.spirv_code.specs.Reads.{Env, reg_code, read_size, read_code, two_size, two_code, three_code, store_code, keep_code}
use Rattle.spirv_code.specs.Accesses.{base_size, base_code, base_id, adds, word_code, chain_code, int_inst, bool_inst, byte_tests, index_test, test_code, atomic_opcode, event_code, zeros_code, length_inst}
use Rattle.spirv_code.specs.Lines.{bin_opcode, cmp_opcode, one_opcode, two_opcode, cast_tail, id_code, built_in_of, component_code, barrier_code}
use Rattle.frame_order.proofs.Leads.{is_inside, AreInside, inside_append}

-- ---- reads and stores

pub reg_inside : (c : Context) (place : ℕ) (t : Ty) (env slot : Option ℕ) → AreInside (reg_code c place t env slot)
reg_inside c place t (Some id) slot = tt
reg_inside c place t None (Some variable) = (refl, tt)
reg_inside c place t None None = tt

pub read_inside : (c : Context) (env : Env) (place : ℕ) (a : Operand) → AreInside (read_code c env place a)
read_inside c env place (operand.Reg reg t) = reg_inside c place t (env reg) (c.slot (kept reg t))
read_inside c env place (operand.Int n) = tt
read_inside c env place (operand.Bool b) = tt
read_inside c env place (operand.Undef t) = tt

pub two_inside : (c : Context) (env : Env) (place : ℕ) (a b : Operand) → AreInside (two_code c env place a b)
two_inside c env place a b =
    inside_append (read_code c env place a) (read_code c env (place + read_size c env a) b) (read_inside c env place a) (read_inside c env (place + read_size c env a) b)

pub three_inside : (c : Context) (env : Env) (place : ℕ) (x a b : Operand) → AreInside (three_code c env place x a b)
three_inside c env place x a b =
    inside_append (read_code c env place x) (two_code c env (place + read_size c env x) a b) (read_inside c env place x) (two_inside c env (place + read_size c env x) a b)

pub store_inside : (slot : Option ℕ) (id : ℕ) → AreInside (store_code slot id)
store_inside None id = tt
store_inside (Some variable) id = (refl, tt)

pub keep_inside : (c : Context) (reg : Reg) (t : Ty) (id : ℕ) → AreInside (keep_code c reg t id)
keep_inside c reg t id = store_inside (c.slot (kept reg t)) id

-- ---- opcodes

pub bin_inside : (op : BinOp) (t : Ty) → is_inside (bin_opcode op t) ≡ true
bin_inside bin.Add t = refl
bin_inside bin.Sub t = refl
bin_inside bin.Mul t = refl
bin_inside bin.UDiv t = refl
bin_inside bin.SDiv t = refl
bin_inside bin.URem t = refl
bin_inside bin.SRem t = refl
bin_inside bin.Shl t = refl
bin_inside bin.LShr t = refl
bin_inside bin.AShr t = refl
bin_inside bin.And ty.Int = refl
bin_inside bin.And ty.Bool = refl
bin_inside bin.Or ty.Int = refl
bin_inside bin.Or ty.Bool = refl
bin_inside bin.Xor ty.Int = refl
bin_inside bin.Xor ty.Bool = refl

pub cmp_inside : (op : CmpOp) (t : Ty) → is_inside (cmp_opcode op t) ≡ true
cmp_inside cmp.Eq ty.Int = refl
cmp_inside cmp.Eq ty.Bool = refl
cmp_inside cmp.Ne ty.Int = refl
cmp_inside cmp.Ne ty.Bool = refl
cmp_inside cmp.UGt t = refl
cmp_inside cmp.UGe t = refl
cmp_inside cmp.ULt t = refl
cmp_inside cmp.ULe t = refl
cmp_inside cmp.SGt t = refl
cmp_inside cmp.SGe t = refl
cmp_inside cmp.SLt t = refl
cmp_inside cmp.SLe t = refl

pub one_inside : (op : OneOp) → is_inside (one_opcode op) ≡ true
one_inside one.Bfrev = refl
one_inside one.Countbits = refl

pub extreme_inside : (op : TwoOp) → is_inside (two_opcode op) ≡ true
extreme_inside two.IMax = refl
extreme_inside two.IMin = refl
extreme_inside two.UMax = refl
extreme_inside two.UMin = refl

pub atomic_inside : (op : AtomicOp) → is_inside (atomic_opcode op) ≡ true
atomic_inside atomic.Add = refl
atomic_inside atomic.Sub = refl
atomic_inside atomic.And = refl
atomic_inside atomic.Or = refl
atomic_inside atomic.Xor = refl
atomic_inside atomic.SMin = refl
atomic_inside atomic.SMax = refl
atomic_inside atomic.UMin = refl
atomic_inside atomic.UMax = refl
atomic_inside atomic.Exchange = refl

-- ---- accesses

pub base_inside : (c : Context) (env : Env) (place : ℕ) (addr : Addr) → AreInside (base_code c env place addr)
base_inside c env place (Byte at) =
    inside_append (read_code c env place at) _ (read_inside c env place at) (refl, tt)
base_inside c env place (Element index at stride) =
    inside_append (read_code c env place at) _ (read_inside c env place at) (refl, inside_append (read_code c env (place + (read_size c env at + 1)) index) _ (read_inside c env (place + (read_size c env at + 1)) index) (refl, (refl, tt)))
base_inside c env place (Row index) = read_inside c env place index
base_inside c env place (Index index) = read_inside c env place index

pub word_inside : (c : Context) (env : Env) (place : ℕ) (addr : Addr) (part : ℕ) → AreInside (word_code c env place addr part)
word_inside c env place addr part =
    inside_append (base_code c env place addr) _ (base_inside c env place addr) (by_test (adds addr part))
  where
    by_test : (b : Bool) → AreInside (if b then int_inst c (place + base_size c env addr) 128 (base_id c env place addr ∷ number c part ∷ []) ∷ [] else [])
    by_test true = (refl, tt)
    by_test false = tt

pub chain_inside : (c : Context) (env : Env) (place : ℕ) (t : Target) (addr : Addr) (part : ℕ) → AreInside (chain_code c env place t addr part)
chain_inside c env place t addr part =
    inside_append (word_code c env place addr part) _ (word_inside c env place addr part) (refl, tt)

pub byte_inside : (c : Context) (place : ℕ) (t : Target) (part : ℕ) → AreInside (byte_tests c place t part)
byte_inside c place t part = by_test (nat_eq part 0)
  where
    by_test : (b : Bool) → AreInside (if b then length_inst c (place + 1) t ∷ bool_inst c (place + 2) 176 (result c place ∷ result c (place + 1) ∷ []) ∷ [] else (int_inst c (place + 1) 128 (result c place ∷ number c part ∷ []) ∷ length_inst c (place + 2) t ∷ bool_inst c (place + 3) 176 (result c place ∷ result c (place + 2) ∷ []) ∷ bool_inst c (place + 4) 176 (result c (place + 1) ∷ result c (place + 2) ∷ []) ∷ bool_inst c (place + 5) 167 (result c (place + 3) ∷ result c (place + 4) ∷ []) ∷ []))
    by_test true = (refl, (refl, tt))
    by_test false = (refl, (refl, (refl, (refl, (refl, tt)))))

pub index_inside : (c : Context) (env : Env) (place : ℕ) (index : Operand) (limit : ℕ) → AreInside (index_test c env place index limit)
index_inside c env place index limit =
    inside_append (read_code c env place index) _ (read_inside c env place index) (refl, tt)

pub test_inside : (c : Context) (env : Env) (place : ℕ) (t : Target) (addr : Addr) (part : ℕ) → AreInside (test_code c env place t addr part)
test_inside c env place t (Byte at) part =
    inside_append (read_code c env place at) _ (read_inside c env place at) (refl, byte_inside c (place + read_size c env at) t part)
test_inside c env place t (Element index at stride) part =
    inside_append (read_code c env place at) _ (read_inside c env place at) (refl, (refl, (refl, inside_append (read_code c env (place + (read_size c env at + 3)) index) _ (read_inside c env (place + (read_size c env at + 3)) index) (refl, (refl, tt)))))
test_inside c env place t (Row index) part = index_inside c env place index (c.limit t)
test_inside c env place t (Index index) part = index_inside c env place index (c.limit t)

pub event_inside : (c : Context) (env : Env) (place pointer : ℕ) (t : Target) (e : Event) → AreInside (event_code c env place pointer t e)
event_inside c env place pointer t (event.Load to) = (refl, keep_inside c to ty.Int (result c place))
event_inside c env place pointer t (event.Store value) =
    inside_append (read_code c env place value) _ (read_inside c env place value) (refl, tt)
event_inside c env place pointer t (event.Atomic to op value) =
    inside_append (read_code c env place value) _ (read_inside c env place value) (atomic_inside op, keep_inside c to ty.Int (result c (place + read_size c env value)))
event_inside c env place pointer t (event.Swap old same compare value) =
    let q : ℕ = place + two_size c env value compare in
    inside_append (two_code c env place value compare) _ (two_inside c env place value compare) (refl, inside_append (keep_code c old ty.Int (result c q)) _ (keep_inside c old ty.Int (result c q)) (refl, keep_inside c same ty.Bool _))

pub zeros_inside : (c : Context) (e : Event) → AreInside (zeros_code c e)
zeros_inside c (event.Load to) = keep_inside c to ty.Int (zero_id c ty.Int)
zeros_inside c (event.Store value) = tt
zeros_inside c (event.Atomic to op value) = keep_inside c to ty.Int (zero_id c ty.Int)
zeros_inside c (event.Swap old same compare value) =
    inside_append (keep_code c old ty.Int (zero_id c ty.Int)) _ (keep_inside c old ty.Int (zero_id c ty.Int)) (keep_inside c same ty.Bool (zero_id c ty.Bool))

-- ---- lines

pub cast_inside : (c : Context) → (place : ℕ) (to : Reg) (op : CastOp) (id : ℕ) → AreInside (cast_tail c place to op id)
cast_inside c place to cast.Trunc id = (refl, (refl, keep_inside c to ty.Bool (result c (place + 1))))
cast_inside c place to cast.Zext id = (refl, keep_inside c to ty.Int (result c place))
cast_inside c place to cast.Sext id = (refl, keep_inside c to ty.Int (result c place))

pub component_inside : (c : Context) → (place : ℕ) (to : Reg) (b : BuiltIn) (part : ℕ) → AreInside (component_code c place to b part)
component_inside c place to b part = (refl, (refl, keep_inside c to ty.Int (result c (place + 1))))

pub id_inside : (c : Context) → (place : ℕ) (to : Reg) (op : IdOp) (part : ℕ) → AreInside (id_code c place to op part)
id_inside c place to thread.Thread part = component_inside c place to (built_in_of thread.Thread) part
id_inside c place to thread.Group part = component_inside c place to (built_in_of thread.Group) part
id_inside c place to thread.InGroup part = component_inside c place to (built_in_of thread.InGroup) part
id_inside c place to thread.Flat part = (refl, keep_inside c to ty.Int (result c place))

pub barrier_inside : (c : Context) → (sync : Bool) (s : Scope) (uav shared : Bool) → AreInside (barrier_code c sync s uav shared)
barrier_inside c true s uav shared = (refl, tt)
barrier_inside c false s uav shared = (refl, tt)
