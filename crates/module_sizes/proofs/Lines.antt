-- How much a line takes, with what it declares and with the variables of the registers that it sets.
use Rattle.std.proofs.Common.{◌≡◌, ℕ, ◌+◌, ◌/◌, ◌%◌, ◌^◌, ◌≤◌, Bool, true, false, List, [], ◌∷◌, ◌++◌, length, refl, arith, inl, inr}
use Rattle.std.specs.Prelude.{nat_eq}
use Rattle.dxil_form.specs.declared.value.Ty.{Ty}
use Rattle.dxil_form.specs.declared.value.Ty.TheVariants as ty
use Rattle.dxil_form.specs.declared.value.Reg.{Reg}
use Rattle.dxil_form.specs.declared.value.Operand.{Operand}
use Rattle.dxil_form.specs.declared.instr.CastOp.{CastOp}
use Rattle.dxil_form.specs.declared.instr.CastOp.TheVariants as cast
use Rattle.dxil_form.specs.declared.instr.IdOp.{IdOp}
use Rattle.dxil_form.specs.declared.instr.IdOp.TheVariants as thread
use Rattle.dxil_form.specs.declared.instr.Addr.{Addr}
use Rattle.dxil_form.specs.declared.instr.Target.{Target}
use Rattle.dxil_form.specs.declared.instr.OneOp.{OneOp}
use Rattle.dxil_form.specs.declared.instr.TwoOp.{TwoOp}
use Rattle.dxil_form.specs.declared.instr.Scope.{Scope}
use Rattle.dxil_form.specs.declared.instr.Scope.TheVariants as scope
use Rattle.dxil_form.specs.declared.instr.Instr.{Instr}
use Rattle.dxil_form.specs.declared.instr.Instr.TheVariants.{Bin, Cmp, Cast, Select, Copy, One, Two, Mad, Id, Size, Load, Store, Atomic, Swap, Barrier, Nothing}
use Rattle.dxil_form.specs.declared.program.Program.{Program}
use Rattle.dxil_form.specs.Registers.{Typed, typed, part_of, parts_of, set_by}
use Rattle.spv_form.specs.declared.module.Inst.{Inst}
use Rattle.spirv_code.specs.declared.key.BuiltIn.{BuiltIn}
use Rattle.spirv_code.specs.declared.key.BuiltIn.TheVariants as builtin
use Rattle.spirv_code.specs.declared.key.Global.{Global}
use Rattle.spirv_code.specs.declared.key.Global.TheVariants.{Plain, Number, Input, Buffer}
use Rattle.spirv_code.specs.declared.event.Event.{Event}
use Rattle.spirv_code.specs.declared.event.Event.TheVariants as event
use Rattle.spirv_code.specs.Plans.{Context, result, number, sort_of}
use Rattle.spirv_code.specs.Reads.{Env, read_size, read_code, read_id, two_size, two_code, second_id, three_size, three_code, keep_code}
use Rattle.spirv_code.specs.Accesses.{int_inst, bool_inst, part_code, part_env}
use Rattle.spirv_code.specs.Lines.{bin_opcode, cmp_opcode, one_opcode, two_opcode, value_code, bin_code, cast_tail, cast_code, select_code, one_code, extreme_code, mad_code, built_in_of, component_code, id_code, copy_code, barrier_scope, barrier_semantics, barrier_code, load_event, store_event, swap_event, parts_code, line_code}
use Rattle.spirv_code.specs.Needed.{operand_keys, two_keys, three_keys, cast_keys, barrier_keys, parts_keys, access_keys, line_keys}
use Rattle.plan_ready.proofs.Among.{Among}
use Rattle.module_sizes.specs.Sizes.{Measure, amount, size}
use Rattle.module_sizes.proofs.Totals.{total, total_map, total_filter, filter_among}
use Rattle.module_sizes.proofs.Common.{AreSmall, is_common, most_number, named, named_common}
use Rattle.module_sizes.proofs.Reading.{size_append, keys, keys_append, operand_fits, two_fit, three_fit, sort_named, read_fits, two_reads, three_reads, keep_fits, value_fits}
use Rattle.module_sizes.proofs.Access.{part_most, six_fit, eight_fit, SmallAccess, part_fits}

-- four of them
abbrev pub four : ℕ → ℕ
four n = n + n + (n + n)

-- a load of one part, whatever its register
abbrev pub load_most : Measure → ℕ
load_most m = part_most m (event.Load (record { value = 0; part = 0 }))

-- a load of four parts is the longest line
abbrev pub line_most : Measure → ℕ
line_most m = four (load_most m) + four (amount m 4)

-- a variable of the function for each register
abbrev pub variable_most : Measure → Typed Reg → ℕ
variable_most m r = amount m 4

-- what a line counts is small, and its target is there
abbrev pub LineSmall : Program → Instr → Type 0
LineSmall p (Load to mask t addr) = SmallAccess p t addr
LineSmall p (Store mask t addr x y z w) = SmallAccess p t addr
LineSmall p (Atomic to op t addr value) = SmallAccess p t addr
LineSmall p (Swap to t addr compare value) = SmallAccess p t addr
LineSmall p (Size to buffer) = is_common p (Buffer buffer) ≡ true
LineSmall p line = Unit {0}

abbrev in_mask : ℕ → ℕ → Bool
in_mask mask c = nat_eq (mask / 2 ^ c % 2) 1

parts_low : (mask c : ℕ) → Among c (parts_of mask) → c ≤ most_number
parts_low mask c h = by_part (filter_among (in_mask mask) (0 ∷ 1 ∷ 2 ∷ 3 ∷ []) c h)
  where
    by_part : Among c (0 ∷ 1 ∷ 2 ∷ 3 ∷ []) → c ≤ most_number
    by_part (inl e) = omega (arith, e)
    by_part (inr (inl e)) = omega (arith, e)
    by_part (inr (inr (inl e))) = omega (arith, e)
    by_part (inr (inr (inr (inl e)))) = omega (arith, e)
    by_part (inr (inr (inr (inr none)))) = absurd none

-- four parts at most
parts_few : (f : ℕ → ℕ) (most mask : ℕ) → ((c : ℕ) → f c ≤ most) → total f (parts_of mask) ≤ four most
parts_few f most mask h =
    let less = total_filter f (in_mask mask) (0 ∷ 1 ∷ 2 ∷ 3 ∷ []) in
    let a = h 0 in
    let b = h 1 in
    let c = h 2 in
    let d = h 3 in
    omega (arith, less, a, b, c, d)

module _ (p : Program) (m : Measure) (small : AreSmall p) (c : Context) where
  abbrev named_by : List Global → ℕ
  named_by gs = keys p m small gs

  -- what a line takes in all
  abbrev pub line_takes : Env → ℕ → Instr → ℕ
  line_takes env place line =
      size m (line_code c env place line) + named_by (line_keys p line) + total (variable_most m) (set_by line)

  bin_fits : (env : Env) (place : ℕ) (to : Reg) (t key : Ty) (opcode : ℕ) (a b : Operand) → size m (bin_code c env place to t opcode a b) + named_by (Plain (sort_of key) ∷ two_keys a b) ≤ amount m 3 + amount m 3 + (amount m 4 + amount m 2)
  bin_fits env place to t key opcode a b =
      let q : ℕ = place + two_size c env a b in
      let operands : List ℕ = read_id c env place a ∷ second_id c env place a b ∷ [] in
      let both = size_append m (two_code c env place a b) (value_code c q to t opcode operands) in
      let one = two_reads m c env place a b in
      let two = value_fits m c q to t opcode operands in
      let room = two_fit p m small a b in
      let sort = sort_named p m small key in
      omega (arith, both, one, two, room, sort)

  cast_free : (op : CastOp) → named_by (cast_keys op) ≡ 0
  cast_free cast.Trunc = refl
  cast_free cast.Zext = refl
  cast_free cast.Sext = refl

  tail_fits : (place : ℕ) (to : Reg) (op : CastOp) (id : ℕ) → size m (cast_tail c place to op id) ≤ amount m 4 + (amount m 4 + amount m 5 + amount m 2)
  tail_fits place to cast.Trunc id =
      let h = value_fits m c (place + 1) to ty.Bool 171 (result c place ∷ number c 0 ∷ []) in
      omega (arith, h)
  tail_fits place to cast.Zext id =
      let h = value_fits m c place to ty.Int 169 (id ∷ number c 1 ∷ number c 0 ∷ []) in
      omega (arith, h)
  tail_fits place to cast.Sext id =
      let h = value_fits m c place to ty.Int 169 (id ∷ number c 0xFFFF_FFFF ∷ number c 0 ∷ []) in
      omega (arith, h)

  cast_fits : (env : Env) (place : ℕ) (to : Reg) (op : CastOp) (a : Operand) → size m (cast_code c env place to op a) + named_by (cast_keys op ++ operand_keys a) ≤ amount m 3 + (amount m 4 + (amount m 4 + amount m 5 + amount m 2))
  cast_fits env place to op a =
      let q : ℕ = place + read_size c env a in
      let id : ℕ = read_id c env place a in
      let both = size_append m (read_code c env place a) (cast_tail c q to op id) in
      let one = read_fits m c env place a in
      let two = tail_fits q to op id in
      let room = operand_fits p m small a in
      let split = keys_append p m small (cast_keys op) (operand_keys a) in
      let free = cast_free op in
      omega (arith, both, one, two, room, split, free)

  select_fits : (env : Env) (place : ℕ) (to : Reg) (t : Ty) (x a b : Operand) → size m (select_code c env place to t x a b) + named_by (three_keys t x a b) ≤ amount m 3 + (amount m 3 + amount m 3) + (amount m 5 + amount m 2)
  select_fits env place to t x a b =
      let q : ℕ = place + three_size c env x a b in
      let operands : List ℕ = read_id c env place x ∷ read_id c env (place + read_size c env x) a ∷ second_id c env (place + read_size c env x) a b ∷ [] in
      let both = size_append m (three_code c env place x a b) (value_code c q to t 169 operands) in
      let one = three_reads m c env place x a b in
      let two = value_fits m c q to t 169 operands in
      let room = three_fit p m small x a b in
      let sort = sort_named p m small t in
      omega (arith, both, one, two, room, sort)

  copy_fits : (env : Env) (place : ℕ) (to : Reg) (t : Ty) (a : Operand) → size m (copy_code c env place to t a) + named_by (operand_keys a) ≤ amount m 3 + amount m 2
  copy_fits env place to t a =
      let both = size_append m (read_code c env place a) (keep_code c to t (read_id c env place a)) in
      let one = read_fits m c env place a in
      let two = keep_fits m c to t (read_id c env place a) in
      let room = operand_fits p m small a in
      omega (arith, both, one, two, room)

  one_fits : (env : Env) (place : ℕ) (to : Reg) (op : OneOp) (a : Operand) → size m (one_code c env place to op a) + named_by (operand_keys a) ≤ amount m 3 + (amount m 3 + amount m 2)
  one_fits env place to op a =
      let q : ℕ = place + read_size c env a in
      let operands : List ℕ = read_id c env place a ∷ [] in
      let both = size_append m (read_code c env place a) (value_code c q to ty.Int (one_opcode op) operands) in
      let one = read_fits m c env place a in
      let two = value_fits m c q to ty.Int (one_opcode op) operands in
      let room = operand_fits p m small a in
      omega (arith, both, one, two, room)

  extreme_fits : (env : Env) (place : ℕ) (to : Reg) (op : TwoOp) (a b : Operand) → size m (extreme_code c env place to op a b) + named_by (two_keys a b) ≤ amount m 3 + amount m 3 + (amount m 4 + (amount m 5 + amount m 2))
  extreme_fits env place to op a b =
      let n : ℕ = two_size c env a b in
      let ida : ℕ = read_id c env place a in
      let idb : ℕ = second_id c env place a b in
      let operands : List ℕ = result c (place + n) ∷ idb ∷ ida ∷ [] in
      let both = size_append m (two_code c env place a b) (bool_inst c (place + n) (two_opcode op) (ida ∷ idb ∷ []) ∷ value_code c (place + (n + 1)) to ty.Int 169 operands) in
      let one = two_reads m c env place a b in
      let two = value_fits m c (place + (n + 1)) to ty.Int 169 operands in
      let room = two_fit p m small a b in
      omega (arith, both, one, two, room)

  mad_fits : (env : Env) (place : ℕ) (to : Reg) (x a b : Operand) → size m (mad_code c env place to x a b) + named_by (three_keys ty.Int x a b) ≤ amount m 3 + (amount m 3 + amount m 3) + (amount m 4 + (amount m 4 + amount m 2))
  mad_fits env place to x a b =
      let n : ℕ = three_size c env x a b in
      let operands : List ℕ = result c (place + n) ∷ second_id c env (place + read_size c env x) a b ∷ [] in
      let both = size_append m (three_code c env place x a b) (int_inst c (place + n) 132 (read_id c env place x ∷ read_id c env (place + read_size c env x) a ∷ []) ∷ value_code c (place + (n + 1)) to ty.Int 128 operands) in
      let one = three_reads m c env place x a b in
      let two = value_fits m c (place + (n + 1)) to ty.Int 128 operands in
      let room = three_fit p m small x a b in
      omega (arith, both, one, two, room)

  component_fits : (place : ℕ) (to : Reg) (b : BuiltIn) (part : ℕ) → size m (component_code c place to b part) ≤ amount m 3 + (amount m 4 + amount m 2)
  component_fits place to b part =
      let h = value_fits m c (place + 1) to ty.Int 81 (result c place ∷ part ∷ []) in
      omega (arith, h)

  id_fits : (place : ℕ) (to : Reg) (op : IdOp) (part : ℕ) → size m (id_code c place to op part) ≤ amount m 3 + (amount m 4 + amount m 2)
  id_fits place to thread.Thread part = component_fits place to builtin.GlobalInvocationId part
  id_fits place to thread.Group part = component_fits place to builtin.WorkgroupId part
  id_fits place to thread.InGroup part = component_fits place to builtin.LocalInvocationId part
  id_fits place to thread.Flat part =
      let h = value_fits m c place to ty.Int 61 (c.key (Input builtin.LocalInvocationIndex) ∷ []) in
      omega (arith, h)

  input_free : (op : IdOp) → named p m (Input (built_in_of op)) ≡ 0
  input_free op = named_common p m small (Input (built_in_of op)) refl

  barrier_fits : (sync : Bool) (place : ℕ) (s : Scope) (uav shared : Bool) → size m (barrier_code c sync s uav shared) ≤ amount m 3 + amount m 2
  barrier_fits true place s uav shared = omega arith
  barrier_fits false place s uav shared = omega arith

  barrier_free : (s : Scope) (uav shared : Bool) → named_by (barrier_keys s uav shared) ≡ 0
  barrier_free s uav shared =
      let one = scope_free s in
      let two = semantics_free uav shared in
      omega (arith, one, two)
    where
      scope_free : (s : Scope) → named p m (Number (barrier_scope s)) ≡ 0
      scope_free scope.Device = refl
      scope_free scope.Group = refl
      scope_free scope.Nobody = refl

      semantics_free : (uav shared : Bool) → named p m (Number (barrier_semantics uav shared)) ≡ 0
      semantics_free true true = refl
      semantics_free true false = refl
      semantics_free false true = refl
      semantics_free false false = refl

  parts_fit : (env : Env) (place : ℕ) (t : Target) (addr : Addr) (event_of : ℕ → Event) (parts : List ℕ) → SmallAccess p t addr → ((part : ℕ) → Among part parts → part ≤ most_number) → size m (parts_code c env place t addr event_of parts) + named_by (parts_keys p t addr event_of parts) ≤ total (λ part. part_most m (event_of part)) parts
  parts_fit env place t addr event_of [] h low = omega arith
  parts_fit env place t addr event_of (part ∷ parts) h low =
      let code : List Inst = part_code c env place t addr part (event_of part) in
      let rest : List Inst = parts_code c (part_env c env addr part (event_of part)) (place + length code) t addr event_of parts in
      let both = size_append m code rest in
      let split = keys_append p m small (access_keys p t addr part (event_of part)) (parts_keys p t addr event_of parts) in
      let here = part_fits p m small c env place t addr part (event_of part) h (low part (inl refl)) in
      let ih = parts_fit (part_env c env addr part (event_of part)) (place + length code) t addr event_of parts h (λ x among. low x (inr among)) in
      omega (arith, both, split, here, ih)

  pub line_fits : (env : Env) (place : ℕ) (line : Instr) → LineSmall p line → line_takes env place line ≤ line_most m
  line_fits env place (Bin to op t a b) h = let x = bin_fits env place to t t (bin_opcode op t) a b in omega (arith, x)
  line_fits env place (Cmp to op t a b) h =
      let x = bin_fits env place to ty.Bool ty.Bool (cmp_opcode op t) a b in omega (arith, x)
  line_fits env place (Cast to op a) h = let x = cast_fits env place to op a in omega (arith, x)
  line_fits env place (Select to t x a b) h = let y = select_fits env place to t x a b in omega (arith, y)
  line_fits env place (Copy to t a) h = let x = copy_fits env place to t a in omega (arith, x)
  line_fits env place (One to op a) h = let x = one_fits env place to op a in omega (arith, x)
  line_fits env place (Two to op a b) h = let x = extreme_fits env place to op a b in omega (arith, x)
  line_fits env place (Mad to x a b) h = let y = mad_fits env place to x a b in omega (arith, y)
  line_fits env place (Id to op part) h =
      let x = id_fits place to op part in
      let free = input_free op in
      omega (arith, x, free)
  line_fits env place (Size to buffer) h =
      let x = keep_fits m c to ty.Int (result c place) in
      let free = named_common p m small (Buffer buffer) h in
      omega (arith, x, free)
  line_fits env place (Load to mask t addr) h =
      let code = parts_fit env place t addr (load_event to) (parts_of mask) h (parts_low mask) in
      let few = parts_few (λ part. part_most m (load_event to part)) (load_most m) mask (λ part. omega arith) in
      let set = total_map (variable_most m) (λ c. typed (part_of to c) ty.Int) (parts_of mask) in
      let variables = parts_few (λ part. amount m 4) (amount m 4) mask (λ part. omega arith) in
      omega (arith, code, few, set, variables)
  line_fits env place (Store mask t addr x y z w) h =
      let code = parts_fit env place t addr (store_event x y z w) (parts_of mask) h (parts_low mask) in
      let few = parts_few (λ part. part_most m (store_event x y z w part)) (load_most m) mask (λ part. omega arith) in
      omega (arith, code, few)
  line_fits env place (Atomic to op t addr value) h =
      let x = part_fits p m small c env place t addr 0 (event.Atomic to op value) h (omega arith) in
      let six = six_fit m in
      omega (arith, x, six)
  line_fits env place (Swap to t addr compare value) h =
      let x = part_fits p m small c env place t addr 0 (swap_event to compare value) h (omega arith) in
      let eight = eight_fit m in
      omega (arith, x, eight)
  line_fits env place (Barrier sync s uav shared) h =
      let x = barrier_fits sync place s uav shared in
      let free = barrier_free s uav shared in
      omega (arith, x, free)
  line_fits env place Nothing h = omega arith
