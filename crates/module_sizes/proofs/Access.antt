-- How much a part of an access takes, with what it declares.
use Rattle.std.proofs.Common.{◌≡◌, ℕ, ◌+◌, ◌-◌, ◌*◌, ◌/◌, ◌≤◌, Bool, true, false, List, [], ◌∷◌, ◌++◌, refl, arith}
use Rattle.std.specs.Prelude.{nat_eq, if◌then◌else◌}
use Rattle.dxil_form.specs.declared.value.Ty.TheVariants as ty
use Rattle.dxil_form.specs.declared.instr.Addr.{Addr}
use Rattle.dxil_form.specs.declared.instr.Addr.TheVariants.{Byte, Element, Row, Index}
use Rattle.dxil_form.specs.declared.instr.Target.{Target}
use Rattle.dxil_form.specs.declared.instr.Target.TheVariants as target
use Rattle.dxil_form.specs.declared.program.Program.{Program}
use Rattle.spv_form.specs.declared.module.Inst.{Inst}
use Rattle.spirv_code.specs.declared.key.Global.TheVariants.{Number}
use Rattle.spirv_code.specs.declared.event.Event.{Event}
use Rattle.spirv_code.specs.declared.event.Event.TheVariants.{Load, Store, Atomic, Swap}
use Rattle.spirv_code.specs.Plans.{Context, inst, result, number, zero_id, limit_of}
use Rattle.spirv_code.specs.Reads.{Env, no_register, read_size, read_code, read_id, keep_size, keep_code, two_size, two_code, second_id}
use Rattle.spirv_code.specs.Accesses.{shift_inst, bool_inst, length_inst, base_size, base_code, base_id, adds, word_code, word_id, pointer_id, target_id, chain_indices, chain_size, chain_code, chain_id, atomic_opcode, int_inst, byte_tests, test_code, test_size, test_id, is_never, event_code, same_code, swap_code, scope_of, zeros_code, other_code, other_at, meet_at, guard_code, part_code}
use Rattle.spirv_code.specs.Needed.{target_key, place_reads, place_numbers, address_keys, event_keys, access_keys}
use Rattle.module_sizes.specs.Sizes.{Measure, amount, size}
use Rattle.module_sizes.proofs.Common.{AreSmall, is_common, most_number, named, named_common, small_so}
use Rattle.module_sizes.proofs.Reading.{size_append, either_fits, keys, keys_append, operand_fits, two_fit, read_fits, two_reads, keep_fits}

-- ---- the most

-- the range test and the pointer
abbrev pub address_most : Measure → ℕ
address_most m =
    amount m 3 + amount m 3 + (amount m 3 + amount m 3) + (amount m 4 + amount m 4 + amount m 4 + (amount m 4 + amount m 4 + amount m 4) + (amount m 4 + amount m 4 + amount m 4)) + amount m 5

-- the event
abbrev pub event_most : Measure → Event → ℕ
event_most m (Load to) = amount m 3 + amount m 2
event_most m (Store value) = amount m 3 + amount m 2
event_most m (Atomic to op value) = amount m 3 + (amount m 6 + amount m 2)
event_most m (Swap old same compare value) =
    amount m 3 + amount m 3 + (amount m 8 + (amount m 2 + (amount m 4 + amount m 2)))

-- the block for what is out of range
abbrev pub other_most : Measure → Event → ℕ
other_most m (Load to) = amount m 1 + (amount m 2 + amount m 1)
other_most m (Store value) = 0
other_most m (Atomic to op value) = amount m 1 + (amount m 2 + amount m 1)
other_most m (Swap old same compare value) = amount m 1 + (amount m 2 + amount m 2 + amount m 1)

-- the branches and labels around them
abbrev pub guard_most : Measure → ℕ
guard_most m = amount m 2 + (amount m 3 + (amount m 1 + (amount m 1 + amount m 1)))

abbrev pub part_most : Measure → Event → ℕ
part_most m e = address_most m + (event_most m e + (guard_most m + other_most m e))

-- the longest operand lists, by shorter ones
pub six_fit : (m : Measure) → amount m 6 ≤ amount m 4 + amount m 4
six_fit Measure.Places = omega arith
six_fit Measure.Words = omega arith

pub eight_fit : (m : Measure) → amount m 8 ≤ amount m 4 + amount m 4
eight_fit Measure.Places = omega arith
eight_fit Measure.Words = omega arith

-- the stride of an element
abbrev pub stride_in : Addr → ℕ
stride_in (Byte at) = 0
stride_in (Element index at stride) = stride
stride_in (Row index) = 0
stride_in (Index index) = 0

-- the target is declared once for the module, and the numbers of an address are small
pub record SmallAccess (p : Program) (t : Target) (addr : Addr) : Type 0 where
  pub target : is_common p (target_key t) ≡ true
  pub limit : limit_of p t ≤ most_number
  pub stride : stride_in addr ≤ most_number

module _ (p : Program) (m : Measure) (small : AreSmall p) (c : Context) where
  number_named : (n : ℕ) → n ≤ most_number → named p m (Number n) ≡ 0
  number_named n h = named_common p m small (Number n) (small_so n h)

  -- ---- the address

  byte_tests_fit : (place : ℕ) (t : Target) (part : ℕ) → size m (byte_tests c place t part) ≤ amount m 4 + amount m 4 + (amount m 4 + amount m 4 + amount m 4)
  byte_tests_fit place t part =
      either_fits m (nat_eq part 0) _ _ (amount m 4 + amount m 4 + (amount m 4 + amount m 4 + amount m 4)) (omega arith) (omega arith)

  adds_fit : (b : Bool) (place a n : ℕ) → size m (if b then int_inst c place 128 (a ∷ n ∷ []) ∷ [] else []) ≤ amount m 4
  adds_fit b place a n = either_fits m b _ _ (amount m 4) (omega arith) (omega arith)

  abbrev chain_inst : Env → ℕ → Target → Addr → ℕ → Inst
  chain_inst env q t addr part =
      inst 65 (pointer_id c addr ∷ chain_id c env q addr part ∷ target_id c t ∷ chain_indices c addr (word_id c env q addr part) part)

  -- the test, the pointer and the operands of an address
  address_fits : (env env' : Env) (place q : ℕ) (t : Target) (addr : Addr) (part : ℕ) → size m (test_code c env place t addr part) + size m (chain_code c env' q t addr part) + keys p m small (place_reads addr) ≤ address_most m
  address_fits env env' place q t (Byte at) part =
      let n : ℕ = read_size c env at in
      let front : List Inst = read_code c env place at in
      let tests : List Inst = byte_tests c (place + n) t part in
      let test = size_append m front (shift_inst c (place + n) (read_id c env place at) ∷ tests) in
      let one = read_fits m c env place at in
      let two = byte_tests_fit (place + n) t part in
      let base = base_code c env' q (Byte at) in
      let added : List Inst = (if adds (Byte at) part then int_inst c (q + base_size c env' (Byte at)) 128 (base_id c env' q (Byte at) ∷ number c part ∷ []) ∷ [] else []) in
      let chain = size_append m (word_code c env' q (Byte at) part) (chain_inst env' q t (Byte at) part ∷ []) in
      let word = size_append m base added in
      let whole = size_append m (read_code c env' q at) (shift_inst c (q + read_size c env' at) (read_id c env' q at) ∷ []) in
      let three = read_fits m c env' q at in
      let four = adds_fit (adds (Byte at) part) (q + base_size c env' (Byte at)) (base_id c env' q (Byte at)) (number c part) in
      let room = operand_fits p m small at in
      omega (arith, test, one, two, chain, word, whole, three, four, room)
  address_fits env env' place q t (Element index at stride) part =
      let n : ℕ = read_size c env at in
      let k : ℕ = read_size c env' at in
      let addr : Addr = Element index at stride in
      let front : List Inst = read_code c env place at in
      let inner : List Inst = read_code c env (place + (n + 3)) index in
      let last : List Inst = bool_inst c (place + (n + 3 + read_size c env index)) 176 (read_id c env (place + (n + 3)) index ∷ result c (place + (n + 2)) ∷ []) ∷ bool_inst c (place + (n + 3 + read_size c env index + 1)) 167 (result c (place + n) ∷ result c (place + (n + 3 + read_size c env index)) ∷ []) ∷ [] in
      let middle : List Inst = bool_inst c (place + n) 178 (read_id c env place at ∷ number c (stride - (4 + 4 * part)) ∷ []) ∷ length_inst c (place + (n + 1)) t ∷ int_inst c (place + (n + 2)) 134 (result c (place + (n + 1)) ∷ number c (stride / 4) ∷ []) ∷ (inner ++ last) in
      let test = size_append m front middle in
      let rest = size_append m inner last in
      let one = read_fits m c env place at in
      let two = read_fits m c env (place + (n + 3)) index in
      let base = base_code c env' q addr in
      let added : List Inst = (if adds addr part then int_inst c (q + base_size c env' addr) 128 (base_id c env' q addr ∷ number c part ∷ []) ∷ [] else []) in
      let chain = size_append m (word_code c env' q addr part) (chain_inst env' q t addr part ∷ []) in
      let word = size_append m base added in
      let sums : List Inst = int_inst c (q + (k + 1 + read_size c env' index)) 132 (read_id c env' (q + (k + 1)) index ∷ number c (stride / 4) ∷ []) ∷ int_inst c (q + (k + 1 + read_size c env' index + 1)) 128 (result c (q + (k + 1 + read_size c env' index)) ∷ result c (q + k) ∷ []) ∷ [] in
      let whole = size_append m (read_code c env' q at) (shift_inst c (q + k) (read_id c env' q at) ∷ (read_code c env' (q + (k + 1)) index ++ sums)) in
      let part_of_it = size_append m (read_code c env' (q + (k + 1)) index) sums in
      let three = read_fits m c env' q at in
      let four = read_fits m c env' (q + (k + 1)) index in
      let five = adds_fit (adds addr part) (q + base_size c env' addr) (base_id c env' q addr) (number c part) in
      let room = two_fit p m small at index in
      omega (arith, test, rest, one, two, chain, word, whole, part_of_it, three, four, five, room)
  address_fits env env' place q t (Row index) part =
      let test = size_append m (read_code c env place index) (bool_inst c (place + read_size c env index) 176 (read_id c env place index ∷ number c (c.limit t) ∷ []) ∷ []) in
      let one = read_fits m c env place index in
      let none = size_append m (read_code c env' q index) [] in
      let chain = size_append m (word_code c env' q (Row index) part) (chain_inst env' q t (Row index) part ∷ []) in
      let word = size_append m (read_code c env' q index) (if adds (Row index) part then int_inst c (q + base_size c env' (Row index)) 128 (base_id c env' q (Row index) ∷ number c part ∷ []) ∷ [] else []) in
      let none = adds_fit (adds (Row index) part) (q + base_size c env' (Row index)) (base_id c env' q (Row index)) (number c part) in
      let two = read_fits m c env' q index in
      let room = operand_fits p m small index in
      let six = six_fit m in
      omega (arith, test, one, chain, word, none, two, room, six)
  address_fits env env' place q t (Index index) part =
      let test = size_append m (read_code c env place index) (bool_inst c (place + read_size c env index) 176 (read_id c env place index ∷ number c (c.limit t) ∷ []) ∷ []) in
      let one = read_fits m c env place index in
      let chain = size_append m (word_code c env' q (Index index) part) (chain_inst env' q t (Index index) part ∷ []) in
      let word = size_append m (read_code c env' q index) (if adds (Index index) part then int_inst c (q + base_size c env' (Index index)) 128 (base_id c env' q (Index index) ∷ number c part ∷ []) ∷ [] else []) in
      let none = adds_fit (adds (Index index) part) (q + base_size c env' (Index index)) (base_id c env' q (Index index)) (number c part) in
      let two = read_fits m c env' q index in
      let room = operand_fits p m small index in
      omega (arith, test, one, chain, word, none, two, room)

  -- what an address declares besides its operands
  numbers_free : (t : Target) (addr : Addr) (part : ℕ) → SmallAccess p t addr → part ≤ most_number → keys p m small (place_numbers p t addr part) ≡ 0
  numbers_free t (Byte at) part h few =
      let one = number_named part few in
      omega (arith, one)
  numbers_free t (Element index at stride) part h few =
      let long : stride ≤ most_number = h.stride in
      let one = number_named part few in
      let two = number_named (stride / 4) (omega (arith, long)) in
      let three = number_named (stride - (4 + 4 * part)) (omega (arith, long)) in
      omega (arith, one, two, three)
  numbers_free t (Row index) part h few =
      let one = number_named part few in
      let two = number_named (limit_of p t) h.limit in
      omega (arith, one, two)
  numbers_free t (Index index) part h few =
      let two = number_named (limit_of p t) h.limit in
      omega (arith, two)

  -- ---- the event

  scope_free : (t : Target) → named p m (Number (scope_of t)) ≡ 0
  scope_free (target.Buffer r) = refl
  scope_free (target.Shared a) = refl

  event_fits : (env : Env) (place pointer : ℕ) (t : Target) (e : Event) → size m (event_code c env place pointer t e) + keys p m small (event_keys t e) ≤ event_most m e
  event_fits env place pointer t (Load to) =
      let one = keep_fits m c to ty.Int (result c place) in
      omega (arith, one)
  event_fits env place pointer t (Store value) =
      let one = read_fits m c env place value in
      let both = size_append m (read_code c env place value) (inst 62 (pointer ∷ read_id c env place value ∷ []) ∷ []) in
      let room = operand_fits p m small value in
      omega (arith, one, both, room)
  event_fits env place pointer t (Atomic to op value) =
      let n : ℕ = read_size c env value in
      let keeps : List Inst = keep_code c to ty.Int (result c (place + n)) in
      let one = read_fits m c env place value in
      let both = size_append m (read_code c env place value) (int_inst c (place + n) (atomic_opcode op) (pointer ∷ number c (scope_of t) ∷ number c 0 ∷ read_id c env place value ∷ []) ∷ keeps) in
      let two = keep_fits m c to ty.Int (result c (place + n)) in
      let room = operand_fits p m small value in
      let scope = scope_free t in
      omega (arith, one, both, two, room, scope)
  event_fits env place pointer t (Swap old same compare value) =
      let n : ℕ = two_size c env value compare in
      let q : ℕ = place + n in
      let front : List Inst = two_code c env place value compare in
      let keeps : List Inst = keep_code c old ty.Int (result c q) in
      let last : List Inst = same_code c (q + (1 + keep_size c old ty.Int)) (result c q) (second_id c env place value compare) same in
      let both = size_append m front (swap_code c q pointer t old same (read_id c env place value) (second_id c env place value compare)) in
      let tail = size_append m keeps last in
      let one = two_reads m c env place value compare in
      let two = keep_fits m c old ty.Int (result c q) in
      let three = keep_fits m c same ty.Bool (result c (q + (1 + keep_size c old ty.Int))) in
      let room = two_fit p m small value compare in
      let scope = scope_free t in
      omega (arith, both, tail, one, two, three, room, scope)

  -- ---- the other block

  zeros_fit : (e : Event) → size m (zeros_code c e) ≤ other_most m e
  zeros_fit (Load to) = let one = keep_fits m c to ty.Int (zero_id c ty.Int) in omega (arith, one)
  zeros_fit (Store value) = omega arith
  zeros_fit (Atomic to op value) = let one = keep_fits m c to ty.Int (zero_id c ty.Int) in omega (arith, one)
  zeros_fit (Swap old same compare value) =
      let one = keep_fits m c old ty.Int (zero_id c ty.Int) in
      let two = keep_fits m c same ty.Bool (zero_id c ty.Bool) in
      let both = size_append m (keep_code c old ty.Int (zero_id c ty.Int)) (keep_code c same ty.Bool (zero_id c ty.Bool)) in
      omega (arith, one, two, both)

  other_fits : (label meet : ℕ) (e : Event) → size m (other_code c label meet e) ≤ other_most m e
  other_fits label meet (Load to) =
      let one = keep_fits m c to ty.Int (zero_id c ty.Int) in
      let both = size_append m (zeros_code c (Load to)) (inst 249 (meet ∷ []) ∷ []) in
      omega (arith, one, both)
  other_fits label meet (Store value) = omega arith
  other_fits label meet (Atomic to op value) =
      let one = keep_fits m c to ty.Int (zero_id c ty.Int) in
      let both = size_append m (zeros_code c (Atomic to op value)) (inst 249 (meet ∷ []) ∷ []) in
      omega (arith, one, both)
  other_fits label meet (Swap old same compare value) =
      let one = keep_fits m c old ty.Int (zero_id c ty.Int) in
      let two = keep_fits m c same ty.Bool (zero_id c ty.Bool) in
      let inner = size_append m (keep_code c old ty.Int (zero_id c ty.Int)) (keep_code c same ty.Bool (zero_id c ty.Bool)) in
      let both = size_append m (zeros_code c (Swap old same compare value)) (inst 249 (meet ∷ []) ∷ []) in
      omega (arith, one, two, inner, both)

  -- ---- a part

  tested_fits : (env : Env) (place : ℕ) (t : Target) (addr : Addr) (part : ℕ) (e : Event) → SmallAccess p t addr → part ≤ most_number → size m (test_code c env place t addr part ++ guard_code c no_register (place + test_size c env addr part) (test_id c env place addr part) t addr part e) + keys p m small (event_keys t e ++ (target_key t ∷ address_keys p t addr part)) ≤ part_most m e
  tested_fits env place t addr part e h few =
      let p1 : ℕ = place + test_size c env addr part in
      let q : ℕ = p1 + 3 in
      let meet : ℕ = result c (p1 + meet_at c no_register addr part e) in
      let outside : ℕ = result c (p1 + other_at c no_register addr part e) in
      let chain : List Inst = chain_code c no_register q t addr part in
      let events : List Inst = event_code c no_register (q + chain_size c no_register addr part) (chain_id c no_register q addr part) t e in
      let others : List Inst = other_code c outside meet e in
      let all = size_append m (test_code c env place t addr part) (guard_code c no_register p1 (test_id c env place addr part) t addr part e) in
      let one = size_append m chain (events ++ (inst 249 (meet ∷ []) ∷ (others ++ (inst 248 (meet ∷ []) ∷ [])))) in
      let two = size_append m events (inst 249 (meet ∷ []) ∷ (others ++ (inst 248 (meet ∷ []) ∷ []))) in
      let three = size_append m others (inst 248 (meet ∷ []) ∷ []) in
      let address = address_fits env no_register place q t addr part in
      let event = event_fits no_register (q + chain_size c no_register addr part) (chain_id c no_register q addr part) t e in
      let other = other_fits outside meet e in
      let split = keys_append p m small (event_keys t e) (target_key t ∷ address_keys p t addr part) in
      let inner = keys_append p m small (place_reads addr) (place_numbers p t addr part) in
      let goal = named_common p m small (target_key t) h.target in
      let numbers = numbers_free t addr part h few in
      omega (arith, all, one, two, three, address, event, other, split, inner, goal, numbers)

  pub part_fits : (env : Env) (place : ℕ) (t : Target) (addr : Addr) (part : ℕ) (e : Event) → SmallAccess p t addr → part ≤ most_number → size m (part_code c env place t addr part e) + keys p m small (access_keys p t addr part e) ≤ part_most m e
  part_fits env place t addr part e h few = by_test (is_never addr part)
    where
      by_test : (b : Bool) → size m (if b then zeros_code c e else (test_code c env place t addr part ++ guard_code c no_register (place + test_size c env addr part) (test_id c env place addr part) t addr part e)) + (0 + (0 + keys p m small (event_keys t e ++ (if b then [] else target_key t ∷ address_keys p t addr part)))) ≤ part_most m e
      by_test true =
          let one = zeros_fit e in
          let event = event_fits env place 0 t e in
          let split = keys_append p m small (event_keys t e) [] in
          omega (arith, one, event, split)
      by_test false =
          let whole = tested_fits env place t addr part e h few in
          omega (arith, whole)
