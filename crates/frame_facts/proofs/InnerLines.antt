-- The code of the lines of a block declares nothing, and each label in it stands at its own place.
use Rattle.std.proofs.Common.{◌≡◌, ℕ, ◌+◌, Bool, true, false, List, [], ◌∷◌, ◌++◌, length, Option, Some, None, refl, sym, ap, subst, arith}
use Rattle.std.specs.Prelude.{nat_eq, if◌then◌else◌}
use Rattle.dxil_form.specs.declared.value.Ty.{Ty}
use Rattle.dxil_form.specs.declared.value.Ty.TheVariants as ty
use Rattle.dxil_form.specs.declared.value.Reg.{Reg}
use Rattle.dxil_form.specs.declared.value.Operand.{Operand}
use Rattle.dxil_form.specs.declared.value.Operand.TheVariants as operand
use Rattle.dxil_form.specs.declared.instr.BinOp.{BinOp}
use Rattle.dxil_form.specs.declared.instr.BinOp.TheVariants as bin
use Rattle.dxil_form.specs.declared.instr.CmpOp.{CmpOp}
use Rattle.dxil_form.specs.declared.instr.CmpOp.TheVariants as cmp
use Rattle.dxil_form.specs.declared.instr.CastOp.{CastOp}
use Rattle.dxil_form.specs.declared.instr.CastOp.TheVariants as cast
use Rattle.dxil_form.specs.declared.instr.OneOp.{OneOp}
use Rattle.dxil_form.specs.declared.instr.OneOp.TheVariants as one
use Rattle.dxil_form.specs.declared.instr.TwoOp.{TwoOp}
use Rattle.dxil_form.specs.declared.instr.TwoOp.TheVariants as two
use Rattle.dxil_form.specs.declared.instr.IdOp.{IdOp}
use Rattle.dxil_form.specs.declared.instr.IdOp.TheVariants as thread
use Rattle.dxil_form.specs.declared.instr.AtomicOp.{AtomicOp}
use Rattle.dxil_form.specs.declared.instr.AtomicOp.TheVariants as atomic
use Rattle.dxil_form.specs.declared.instr.Scope.{Scope}
use Rattle.dxil_form.specs.declared.instr.Addr.{Addr}
use Rattle.dxil_form.specs.declared.instr.Addr.TheVariants.{Byte, Element, Row, Index}
use Rattle.dxil_form.specs.declared.instr.Target.{Target}
use Rattle.dxil_form.specs.declared.instr.Instr.{Instr}
use Rattle.dxil_form.specs.declared.instr.Instr.TheVariants as instr
use Rattle.dxil_form.specs.Registers.{parts_of}
use Rattle.spv_form.specs.declared.module.Inst.{Inst}
use Rattle.spirv_code.specs.declared.key.BuiltIn.{BuiltIn}
use Rattle.spirv_code.specs.declared.event.Event.{Event}
use Rattle.spirv_code.specs.declared.event.Event.TheVariants as event
use Rattle.spirv_code.specs.Plans.{Context, inst, result, kept, number, zero_id}
use Rattle.spirv_code.specs.Reads.{Env, no_register, reg_code, read_size, read_code, read_id, two_size, two_code, three_size, three_code, store_code, keep_code}
use Rattle.spirv_code.specs.Accesses.{base_size, base_code, base_id, adds, word_code, chain_size, chain_code, chain_id, int_inst, bool_inst, byte_tests, index_test, test_size, test_code, test_id, is_never, atomic_opcode, event_size, event_code, zeros_code, zeros_block, other_code, other_size, other_at, meet_at, length_inst, guarded_code, guard_code, part_code, part_env}
use Rattle.spirv_code.specs.Lines.{bin_opcode, cmp_opcode, one_opcode, two_opcode, cast_tail, id_code, built_in_of, component_code, barrier_code, load_event, store_event, swap_event, parts_code, line_code, line_env, lines_code}
use Rattle.access_runs.proofs.Missing.{other_length, event_length, chain_length, test_length}
use Rattle.frame_facts.specs.Inner.{is_plain, plain, own, AreInner}
use Rattle.frame_facts.proofs.Searches.{Each, each_append}

abbrev pub IsPlain : Inst → Type 0
IsPlain i = is_plain i.opcode ≡ true

pub at_place : (c : Context) (M : ℕ → Type 0) (code : List Inst) (p q : ℕ) → p ≡ q → AreInner c M p code → AreInner c M q code
at_place c M code p q e h = subst (λ n. AreInner c M n code) e h

pub inner_append : (c : Context) (M : ℕ → Type 0) (place : ℕ) (a b : List Inst) → AreInner c M place a → AreInner c M (place + length a) b → AreInner c M place (a ++ b)
inner_append c M place [] b h k =
    let e : place + 0 ≡ place = omega arith in
    at_place c M b (place + 0) place e k
inner_append c M place (x ∷ a) b h k =
    let e : place + length (x ∷ a) ≡ place + 1 + length a = omega arith in
    (h.0, inner_append c M (place + 1) a b h.1 (at_place c M b (place + length (x ∷ a)) (place + 1 + length a) e k))

pub plains_inner : (c : Context) (M : ℕ → Type 0) (place : ℕ) (a : List Inst) → Each IsPlain a → AreInner c M place a
plains_inner c M place [] h = tt
plains_inner c M place (x ∷ a) h = (plain h.0, plains_inner c M (place + 1) a h.1)

-- ---- reads and stores

reg_plain : (c : Context) (place : ℕ) (t : Ty) (env slot : Option ℕ) → Each IsPlain (reg_code c place t env slot)
reg_plain c place t (Some id) slot = tt
reg_plain c place t None (Some variable) = (refl, tt)
reg_plain c place t None None = tt

pub read_plain : (c : Context) (env : Env) (place : ℕ) (a : Operand) → Each IsPlain (read_code c env place a)
read_plain c env place (operand.Reg reg t) = reg_plain c place t (env reg) (c.slot (kept reg t))
read_plain c env place (operand.Int n) = tt
read_plain c env place (operand.Bool b) = tt
read_plain c env place (operand.Undef t) = tt

two_plain : (c : Context) (env : Env) (place : ℕ) (a b : Operand) → Each IsPlain (two_code c env place a b)
two_plain c env place a b =
    each_append IsPlain (read_code c env place a) (read_code c env (place + read_size c env a) b) (read_plain c env place a) (read_plain c env (place + read_size c env a) b)

three_plain : (c : Context) (env : Env) (place : ℕ) (x a b : Operand) → Each IsPlain (three_code c env place x a b)
three_plain c env place x a b =
    each_append IsPlain (read_code c env place x) (two_code c env (place + read_size c env x) a b) (read_plain c env place x) (two_plain c env (place + read_size c env x) a b)

pub store_plain : (slot : Option ℕ) (id : ℕ) → Each IsPlain (store_code slot id)
store_plain None id = tt
store_plain (Some variable) id = (refl, tt)

keep_plain : (c : Context) (reg : Reg) (t : Ty) (id : ℕ) → Each IsPlain (keep_code c reg t id)
keep_plain c reg t id = store_plain (c.slot (kept reg t)) id

-- ---- opcodes

bin_plain : (op : BinOp) (t : Ty) → is_plain (bin_opcode op t) ≡ true
bin_plain bin.Add t = refl
bin_plain bin.Sub t = refl
bin_plain bin.Mul t = refl
bin_plain bin.UDiv t = refl
bin_plain bin.SDiv t = refl
bin_plain bin.URem t = refl
bin_plain bin.SRem t = refl
bin_plain bin.Shl t = refl
bin_plain bin.LShr t = refl
bin_plain bin.AShr t = refl
bin_plain bin.And ty.Int = refl
bin_plain bin.And ty.Bool = refl
bin_plain bin.Or ty.Int = refl
bin_plain bin.Or ty.Bool = refl
bin_plain bin.Xor ty.Int = refl
bin_plain bin.Xor ty.Bool = refl

cmp_plain : (op : CmpOp) (t : Ty) → is_plain (cmp_opcode op t) ≡ true
cmp_plain cmp.Eq ty.Int = refl
cmp_plain cmp.Eq ty.Bool = refl
cmp_plain cmp.Ne ty.Int = refl
cmp_plain cmp.Ne ty.Bool = refl
cmp_plain cmp.UGt t = refl
cmp_plain cmp.UGe t = refl
cmp_plain cmp.ULt t = refl
cmp_plain cmp.ULe t = refl
cmp_plain cmp.SGt t = refl
cmp_plain cmp.SGe t = refl
cmp_plain cmp.SLt t = refl
cmp_plain cmp.SLe t = refl

one_plain : (op : OneOp) → is_plain (one_opcode op) ≡ true
one_plain one.Bfrev = refl
one_plain one.Countbits = refl

extreme_plain : (op : TwoOp) → is_plain (two_opcode op) ≡ true
extreme_plain two.IMax = refl
extreme_plain two.IMin = refl
extreme_plain two.UMax = refl
extreme_plain two.UMin = refl

atomic_plain : (op : AtomicOp) → is_plain (atomic_opcode op) ≡ true
atomic_plain atomic.Add = refl
atomic_plain atomic.Sub = refl
atomic_plain atomic.And = refl
atomic_plain atomic.Or = refl
atomic_plain atomic.Xor = refl
atomic_plain atomic.SMin = refl
atomic_plain atomic.SMax = refl
atomic_plain atomic.UMin = refl
atomic_plain atomic.UMax = refl
atomic_plain atomic.Exchange = refl

-- ---- accesses

base_plain : (c : Context) (env : Env) (place : ℕ) (addr : Addr) → Each IsPlain (base_code c env place addr)
base_plain c env place (Byte at) =
    each_append IsPlain (read_code c env place at) _ (read_plain c env place at) (refl, tt)
base_plain c env place (Element index at stride) =
    each_append IsPlain (read_code c env place at) _ (read_plain c env place at) (refl, each_append IsPlain (read_code c env (place + (read_size c env at + 1)) index) _ (read_plain c env (place + (read_size c env at + 1)) index) (refl, (refl, tt)))
base_plain c env place (Row index) = read_plain c env place index
base_plain c env place (Index index) = read_plain c env place index

word_plain : (c : Context) (env : Env) (place : ℕ) (addr : Addr) (part : ℕ) → Each IsPlain (word_code c env place addr part)
word_plain c env place addr part =
    each_append IsPlain (base_code c env place addr) _ (base_plain c env place addr) (by_test (adds addr part))
  where
    by_test : (b : Bool) → Each IsPlain (if b then int_inst c (place + base_size c env addr) 128 (base_id c env place addr ∷ number c part ∷ []) ∷ [] else [])
    by_test true = (refl, tt)
    by_test false = tt

chain_plain : (c : Context) (env : Env) (place : ℕ) (t : Target) (addr : Addr) (part : ℕ) → Each IsPlain (chain_code c env place t addr part)
chain_plain c env place t addr part =
    each_append IsPlain (word_code c env place addr part) _ (word_plain c env place addr part) (refl, tt)

byte_plain : (c : Context) (place : ℕ) (t : Target) (part : ℕ) → Each IsPlain (byte_tests c place t part)
byte_plain c place t part = by_test (nat_eq part 0)
  where
    by_test : (b : Bool) → Each IsPlain (if b then length_inst c (place + 1) t ∷ bool_inst c (place + 2) 176 (result c place ∷ result c (place + 1) ∷ []) ∷ [] else (int_inst c (place + 1) 128 (result c place ∷ number c part ∷ []) ∷ length_inst c (place + 2) t ∷ bool_inst c (place + 3) 176 (result c place ∷ result c (place + 2) ∷ []) ∷ bool_inst c (place + 4) 176 (result c (place + 1) ∷ result c (place + 2) ∷ []) ∷ bool_inst c (place + 5) 167 (result c (place + 3) ∷ result c (place + 4) ∷ []) ∷ []))
    by_test true = (refl, (refl, tt))
    by_test false = (refl, (refl, (refl, (refl, (refl, tt)))))

index_plain : (c : Context) (env : Env) (place : ℕ) (index : Operand) (limit : ℕ) → Each IsPlain (index_test c env place index limit)
index_plain c env place index limit =
    each_append IsPlain (read_code c env place index) _ (read_plain c env place index) (refl, tt)

test_plain : (c : Context) (env : Env) (place : ℕ) (t : Target) (addr : Addr) (part : ℕ) → Each IsPlain (test_code c env place t addr part)
test_plain c env place t (Byte at) part =
    each_append IsPlain (read_code c env place at) _ (read_plain c env place at) (refl, byte_plain c (place + read_size c env at) t part)
test_plain c env place t (Element index at stride) part =
    each_append IsPlain (read_code c env place at) _ (read_plain c env place at) (refl, (refl, (refl, each_append IsPlain (read_code c env (place + (read_size c env at + 3)) index) _ (read_plain c env (place + (read_size c env at + 3)) index) (refl, (refl, tt)))))
test_plain c env place t (Row index) part = index_plain c env place index (c.limit t)
test_plain c env place t (Index index) part = index_plain c env place index (c.limit t)

event_plain : (c : Context) (env : Env) (place pointer : ℕ) (t : Target) (e : Event) → Each IsPlain (event_code c env place pointer t e)
event_plain c env place pointer t (event.Load to) = (refl, keep_plain c to ty.Int (result c place))
event_plain c env place pointer t (event.Store value) =
    each_append IsPlain (read_code c env place value) _ (read_plain c env place value) (refl, tt)
event_plain c env place pointer t (event.Atomic to op value) =
    each_append IsPlain (read_code c env place value) _ (read_plain c env place value) (atomic_plain op, keep_plain c to ty.Int (result c (place + read_size c env value)))
event_plain c env place pointer t (event.Swap old same compare value) =
    let q : ℕ = place + two_size c env value compare in
    each_append IsPlain (two_code c env place value compare) _ (two_plain c env place value compare) (refl, each_append IsPlain (keep_code c old ty.Int (result c q)) _ (keep_plain c old ty.Int (result c q)) (refl, keep_plain c same ty.Bool _))

zeros_plain : (c : Context) (e : Event) → Each IsPlain (zeros_code c e)
zeros_plain c (event.Load to) = keep_plain c to ty.Int (zero_id c ty.Int)
zeros_plain c (event.Store value) = tt
zeros_plain c (event.Atomic to op value) = keep_plain c to ty.Int (zero_id c ty.Int)
zeros_plain c (event.Swap old same compare value) =
    each_append IsPlain (keep_code c old ty.Int (zero_id c ty.Int)) _ (keep_plain c old ty.Int (zero_id c ty.Int)) (keep_plain c same ty.Bool (zero_id c ty.Bool))

module _ (c : Context) (M : ℕ → Type 0) where
  zeros_inner : (place meet : ℕ) (zeros : List Inst) → Each IsPlain zeros → AreInner c M place (zeros_block (result c place) meet zeros)
  zeros_inner place meet zeros h =
      (own refl, plains_inner c M (place + 1) (zeros ++ inst 249 (meet ∷ []) ∷ []) (each_append IsPlain zeros (inst 249 (meet ∷ []) ∷ []) h (refl, tt)))

  other_inner : (place meet : ℕ) (e : Event) → AreInner c M place (other_code c (result c place) meet e)
  other_inner place meet (event.Load to) = zeros_inner place meet (zeros_code c (event.Load to)) (zeros_plain c (event.Load to))
  other_inner place meet (event.Store value) = tt
  other_inner place meet (event.Atomic to op value) =
      zeros_inner place meet (zeros_code c (event.Atomic to op value)) (zeros_plain c (event.Atomic to op value))
  other_inner place meet (event.Swap old same compare value) =
      zeros_inner place meet (zeros_code c (event.Swap old same compare value)) (zeros_plain c (event.Swap old same compare value))

  guarded_inner : (env : Env) (place : ℕ) (t : Target) (addr : Addr) (part : ℕ) (e : Event) (outside meet : ℕ) → place + (event_size c env addr part e + 1) ≡ outside → outside + other_size c e ≡ meet → AreInner c M place (guarded_code c env place t addr part e (result c outside) (result c meet))
  guarded_inner env place t addr part e outside meet at_other at_meet =
      let chain : List Inst = chain_code c env place t addr part in
      let q : ℕ = place + chain_size c env addr part in
      let acting : List Inst = event_code c env q (chain_id c env place addr part) t e in
      let other : List Inst = other_code c (result c outside) (result c meet) e in
      let size = chain_length c env place t addr part in
      let event_is = event_length c env q (chain_id c env place addr part) t e in
      let other_is = other_length c (result c outside) (result c meet) e in
      let here : outside ≡ place + length chain + length acting + 1 = omega (arith, size, event_is, at_other) in
      let meets : place + length chain + length acting + 1 + length other ≡ meet = omega (arith, here, other_is, at_meet) in
      inner_append c M place chain _ (plains_inner c M place chain (chain_plain c env place t addr part)) (inner_append c M (place + length chain) acting _ (plains_inner c M (place + length chain) acting (event_plain c env q (chain_id c env place addr part) t e)) (plain refl, inner_append c M (place + length chain + length acting + 1) other (inst 248 (result c meet ∷ []) ∷ []) (at_place c M other outside (place + length chain + length acting + 1) here (other_inner outside (result c meet) e)) (own (ap (λ n. inst 248 (result c n ∷ [])) (sym meets)), tt)))

  guard_inner : (env : Env) (place test : ℕ) (t : Target) (addr : Addr) (part : ℕ) (e : Event) → AreInner c M place (guard_code c env place test t addr part e)
  guard_inner env place test t addr part e =
      let second : place + 2 ≡ place + 1 + 1 = omega arith in
      let third : place + 3 ≡ place + 1 + 1 + 1 = omega arith in
      let outside : ℕ = place + other_at c env addr part e in
      let meet : ℕ = place + meet_at c env addr part e in
      let at_other : place + 3 + (event_size c env addr part e + 1) ≡ outside = omega arith in
      let at_meet : outside + other_size c e ≡ meet = omega arith in
      (plain refl, (plain refl, (own (ap (λ n. inst 248 (result c n ∷ [])) second), at_place c M (guarded_code c env (place + 3) t addr part e (result c outside) (result c meet)) (place + 3) (place + 1 + 1 + 1) third (guarded_inner env (place + 3) t addr part e outside meet at_other at_meet))))

  pub part_inner : (env : Env) (place : ℕ) (t : Target) (addr : Addr) (part : ℕ) (e : Event) → AreInner c M place (part_code c env place t addr part e)
  part_inner env place t addr part e = by_test (is_never addr part)
    where
      by_test : (b : Bool) → AreInner c M place (if b then zeros_code c e else (test_code c env place t addr part ++ guard_code c no_register (place + test_size c env addr part) (test_id c env place addr part) t addr part e))
      by_test true = plains_inner c M place (zeros_code c e) (zeros_plain c e)
      by_test false =
          let test : List Inst = test_code c env place t addr part in
          let same : place + test_size c env addr part ≡ place + length test = ap (λ n. place + n) (sym (test_length c env place t addr part)) in
          let guard : List Inst = guard_code c no_register (place + test_size c env addr part) (test_id c env place addr part) t addr part e in
          inner_append c M place test guard (plains_inner c M place test (test_plain c env place t addr part)) (at_place c M guard (place + test_size c env addr part) (place + length test) same (guard_inner no_register (place + test_size c env addr part) (test_id c env place addr part) t addr part e))

  parts_inner : (env : Env) (place : ℕ) (t : Target) (addr : Addr) (event_of : ℕ → Event) (parts : List ℕ) → AreInner c M place (parts_code c env place t addr event_of parts)
  parts_inner env place t addr event_of [] = tt
  parts_inner env place t addr event_of (part ∷ parts) =
      let first : List Inst = part_code c env place t addr part (event_of part) in
      inner_append c M place first _ (part_inner env place t addr part (event_of part)) (parts_inner (part_env c env addr part (event_of part)) (place + length first) t addr event_of parts)

  -- ---- lines

  cast_plain : (place : ℕ) (to : Reg) (op : CastOp) (id : ℕ) → Each IsPlain (cast_tail c place to op id)
  cast_plain place to cast.Trunc id = (refl, (refl, keep_plain c to ty.Bool (result c (place + 1))))
  cast_plain place to cast.Zext id = (refl, keep_plain c to ty.Int (result c place))
  cast_plain place to cast.Sext id = (refl, keep_plain c to ty.Int (result c place))

  component_plain : (place : ℕ) (to : Reg) (b : BuiltIn) (part : ℕ) → Each IsPlain (component_code c place to b part)
  component_plain place to b part = (refl, (refl, keep_plain c to ty.Int (result c (place + 1))))

  id_plain : (place : ℕ) (to : Reg) (op : IdOp) (part : ℕ) → Each IsPlain (id_code c place to op part)
  id_plain place to thread.Thread part = component_plain place to (built_in_of thread.Thread) part
  id_plain place to thread.Group part = component_plain place to (built_in_of thread.Group) part
  id_plain place to thread.InGroup part = component_plain place to (built_in_of thread.InGroup) part
  id_plain place to thread.Flat part = (refl, keep_plain c to ty.Int (result c place))

  barrier_plain : (sync : Bool) (s : Scope) (uav shared : Bool) → Each IsPlain (barrier_code c sync s uav shared)
  barrier_plain true s uav shared = (refl, tt)
  barrier_plain false s uav shared = (refl, tt)

  pub line_inner : (env : Env) (place : ℕ) (line : Instr) → AreInner c M place (line_code c env place line)
  line_inner env place (instr.Bin to op t a b) =
      plains_inner c M place _ (each_append IsPlain (two_code c env place a b) _ (two_plain c env place a b) ((bin_plain op t), keep_plain c to t (result c (place + two_size c env a b))))
  line_inner env place (instr.Cmp to op t a b) =
      plains_inner c M place _ (each_append IsPlain (two_code c env place a b) _ (two_plain c env place a b) ((cmp_plain op t), keep_plain c to ty.Bool (result c (place + two_size c env a b))))
  line_inner env place (instr.Cast to op a) =
      plains_inner c M place _ (each_append IsPlain (read_code c env place a) _ (read_plain c env place a) (cast_plain (place + read_size c env a) to op (read_id c env place a)))
  line_inner env place (instr.Select to t x a b) =
      plains_inner c M place _ (each_append IsPlain (three_code c env place x a b) _ (three_plain c env place x a b) (refl, keep_plain c to t (result c (place + three_size c env x a b))))
  line_inner env place (instr.Copy to t a) =
      plains_inner c M place _ (each_append IsPlain (read_code c env place a) _ (read_plain c env place a) (keep_plain c to t (read_id c env place a)))
  line_inner env place (instr.One to op a) =
      plains_inner c M place _ (each_append IsPlain (read_code c env place a) _ (read_plain c env place a) ((one_plain op), keep_plain c to ty.Int (result c (place + read_size c env a))))
  line_inner env place (instr.Two to op a b) =
      plains_inner c M place _ (each_append IsPlain (two_code c env place a b) _ (two_plain c env place a b) (extreme_plain op, (refl, keep_plain c to ty.Int (result c (place + (two_size c env a b + 1))))))
  line_inner env place (instr.Mad to x a b) =
      plains_inner c M place _ (each_append IsPlain (three_code c env place x a b) _ (three_plain c env place x a b) (refl, (refl, keep_plain c to ty.Int (result c (place + (three_size c env x a b + 1))))))
  line_inner env place (instr.Id to op part) = plains_inner c M place _ (id_plain place to op part)
  line_inner env place (instr.Size to buffer) =
      plains_inner c M place (line_code c env place (instr.Size to buffer)) (refl, keep_plain c to ty.Int (result c place))
  line_inner env place (instr.Load to mask t addr) = parts_inner env place t addr (load_event to) (parts_of mask)
  line_inner env place (instr.Store mask t addr x y z w) = parts_inner env place t addr (store_event x y z w) (parts_of mask)
  line_inner env place (instr.Atomic to op t addr value) = part_inner env place t addr 0 (event.Atomic to op value)
  line_inner env place (instr.Swap to t addr compare value) = part_inner env place t addr 0 (swap_event to compare value)
  line_inner env place (instr.Barrier sync s uav shared) = plains_inner c M place _ (barrier_plain sync s uav shared)
  line_inner env place instr.Nothing = tt

  pub lines_inner : (env : Env) (place : ℕ) (lines : List Instr) → AreInner c M place (lines_code c env place lines)
  lines_inner env place [] = tt
  lines_inner env place (line ∷ lines) =
      let first : List Inst = line_code c env place line in
      inner_append c M place first _ (line_inner env place line) (lines_inner (line_env c env place line) (place + length first) lines)
