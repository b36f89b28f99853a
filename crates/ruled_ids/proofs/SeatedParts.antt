-- What the code of a part of an access defines.
use Rattle.std.proofs.Common.{◌≡◌, ℕ, ◌+◌, Bool, true, false, List, [], ◌∷◌, ◌++◌, length, refl, sym, ap, arith}
use Rattle.std.specs.Prelude.{nat_eq, if◌then◌else◌}
use Rattle.dxil_form.specs.declared.value.Ty.TheVariants as ty
use Rattle.dxil_form.specs.declared.value.Reg.{Reg}
use Rattle.dxil_form.specs.declared.value.Operand.{Operand}
use Rattle.dxil_form.specs.declared.instr.Addr.{Addr}
use Rattle.dxil_form.specs.declared.instr.Addr.TheVariants.{Byte, Element, Row, Index}
use Rattle.dxil_form.specs.declared.instr.Target.{Target}
use Rattle.spv_form.specs.declared.module.Inst.{Inst}
use Rattle.spirv_code.specs.declared.event.Event.{Event}
use Rattle.spirv_code.specs.declared.event.Event.TheVariants as event
use Rattle.spirv_code.specs.Plans.{Context, inst, result, number, zero_id}
use Rattle.spirv_code.specs.Reads.{Env, no_register, read_size, keep_size, keep_code, two_size, two_code}
use Rattle.spirv_code.specs.Accesses.{base_size, base_code, base_id, adds, word_size, word_code, chain_size, chain_code, chain_id, int_inst, bool_inst, byte_tests, index_test, test_size, test_code, test_id, is_never, atomic_opcode, same_code, swap_code, event_size, event_code, zeros_code, zeros_block, other_code, other_size, other_at, meet_at, length_inst, guarded_code, guard_code, part_code, part_env}
use Rattle.spirv_code.specs.Lines.{parts_code}
use Rattle.line_runs.proofs.Reading.{two_length}
use Rattle.access_runs.proofs.Chains.{base_length, word_length}
use Rattle.access_runs.proofs.Events.{keep_length}
use Rattle.access_runs.proofs.Missing.{other_length, event_length, chain_length, test_length}
use Rattle.formed_lines.proofs.Opcodes.{add_shape, mul_shape, divide_shape, shift_shape, equal_shape, below_shape, at_most_shape, both_shape, swap_shape, atomic_shape}
use Rattle.ruled_ids.proofs.Seats.{AreSeated, bare, own, made, load_is, store_is, branch_is, selection_is, conditional_is, chain_is, length_is, own_at, own_label, at_place, seated_append, behind, read_seated, read_then, two_seated, keep_seated}

module _ (c : Context) (M : ℕ → Type 0) where
  -- ---- addresses

  base_seated : (env : Env) (place : ℕ) (addr : Addr) → AreSeated c M place (base_code c env place addr)
  base_seated env place (Byte at) =
      read_then c M env place at _ (own (made 194 _ _ _ 2 2 0 shift_shape), tt)
  base_seated env place (Element index at stride) =
      let n : ℕ = read_size c env at in
      let m : ℕ = read_size c env index in
      let next : place + (n + 1) ≡ place + n + 1 = omega arith in
      let times : place + (n + 1 + m) ≡ place + (n + 1) + m = omega arith in
      let sum : place + (n + 1 + m + 1) ≡ place + (n + 1) + m + 1 = omega arith in
      read_then c M env place at _ (own (made 194 _ _ _ 2 2 0 shift_shape), at_place c M _ (place + (n + 1)) (place + n + 1) next (read_then c M env (place + (n + 1)) index _ (own_at c M _ _ _ times (made 132 _ _ _ 2 2 0 mul_shape), (own_at c M _ _ _ sum (made 128 _ _ _ 2 2 0 add_shape), tt))))
  base_seated env place (Row index) = read_seated c M env place index
  base_seated env place (Index index) = read_seated c M env place index

  word_seated : (env : Env) (place : ℕ) (addr : Addr) (part : ℕ) → AreSeated c M place (word_code c env place addr part)
  word_seated env place addr part =
      behind c M place (place + base_size c env addr) (base_code c env place addr) _ (ap (λ n. place + n) (base_length c env place addr)) (base_seated env place addr) (by_test (adds addr part))
    where
      by_test : (x : Bool) → AreSeated c M (place + base_size c env addr) (if x then int_inst c (place + base_size c env addr) 128 (base_id c env place addr ∷ number c part ∷ []) ∷ [] else [])
      by_test true = (own (made 128 _ _ _ 2 2 0 add_shape), tt)
      by_test false = tt

  chain_seated : (env : Env) (place : ℕ) (t : Target) (addr : Addr) (part : ℕ) → AreSeated c M place (chain_code c env place t addr part)
  chain_seated env place t addr part =
      behind c M place (place + word_size c env addr part) (word_code c env place addr part) _ (ap (λ n. place + n) (word_length c env place addr part)) (word_seated env place addr part) (own (chain_is _ _ _), tt)

  -- ---- tests

  -- behind the shifted offset
  bytes_seated : (place : ℕ) (t : Target) (part : ℕ) → AreSeated c M (place + 1) (byte_tests c place t part)
  bytes_seated place t part = by_test (nat_eq part 0)
    where
      two : place + 2 ≡ place + 1 + 1
      two = omega arith

      three : place + 3 ≡ place + 1 + 1 + 1
      three = omega arith

      four : place + 4 ≡ place + 1 + 1 + 1 + 1
      four = omega arith

      five : place + 5 ≡ place + 1 + 1 + 1 + 1 + 1
      five = omega arith

      by_test : (x : Bool) → AreSeated c M (place + 1) (if x then length_inst c (place + 1) t ∷ bool_inst c (place + 2) 176 (result c place ∷ result c (place + 1) ∷ []) ∷ [] else (int_inst c (place + 1) 128 (result c place ∷ number c part ∷ []) ∷ length_inst c (place + 2) t ∷ bool_inst c (place + 3) 176 (result c place ∷ result c (place + 2) ∷ []) ∷ bool_inst c (place + 4) 176 (result c (place + 1) ∷ result c (place + 2) ∷ []) ∷ bool_inst c (place + 5) 167 (result c (place + 3) ∷ result c (place + 4) ∷ []) ∷ []))
      by_test true = (own (length_is _ _ _ _), (own_at c M _ _ _ two (made 176 _ _ _ 2 2 0 below_shape), tt))
      by_test false =
          (own (made 128 _ _ _ 2 2 0 add_shape), (own_at c M _ _ _ two (length_is _ _ _ _), (own_at c M _ _ _ three (made 176 _ _ _ 2 2 0 below_shape), (own_at c M _ _ _ four (made 176 _ _ _ 2 2 0 below_shape), (own_at c M _ _ _ five (made 167 _ _ _ 2 2 0 both_shape), tt)))))

  index_seated : (env : Env) (place : ℕ) (index : Operand) (limit : ℕ) → AreSeated c M place (index_test c env place index limit)
  index_seated env place index limit =
      read_then c M env place index _ (own (made 176 _ _ _ 2 2 0 below_shape), tt)

  test_seated : (env : Env) (place : ℕ) (t : Target) (addr : Addr) (part : ℕ) → AreSeated c M place (test_code c env place t addr part)
  test_seated env place t (Byte at) part =
      read_then c M env place at _ (own (made 194 _ _ _ 2 2 0 shift_shape), bytes_seated (place + read_size c env at) t part)
  test_seated env place t (Element index at stride) part =
      let n : ℕ = read_size c env at in
      let m : ℕ = read_size c env index in
      let one : place + (n + 1) ≡ place + n + 1 = omega arith in
      let two : place + (n + 2) ≡ place + n + 1 + 1 = omega arith in
      let three : place + (n + 3) ≡ place + n + 1 + 1 + 1 = omega arith in
      let less : place + (n + 3 + m) ≡ place + (n + 3) + m = omega arith in
      let last : place + (n + 3 + m + 1) ≡ place + (n + 3) + m + 1 = omega arith in
      read_then c M env place at _ (own (made 178 _ _ _ 2 2 0 at_most_shape), (own_at c M _ _ _ one (length_is _ _ _ _), (own_at c M _ _ _ two (made 134 _ _ _ 2 2 0 divide_shape), at_place c M _ (place + (n + 3)) (place + n + 1 + 1 + 1) three (read_then c M env (place + (n + 3)) index _ (own_at c M _ _ _ less (made 176 _ _ _ 2 2 0 below_shape), (own_at c M _ _ _ last (made 167 _ _ _ 2 2 0 both_shape), tt))))))
  test_seated env place t (Row index) part = index_seated env place index (c.limit t)
  test_seated env place t (Index index) part = index_seated env place index (c.limit t)

  -- ---- the event

  swap_seated : (place pointer : ℕ) (t : Target) (old same : Reg) (value compare : ℕ) → AreSeated c M place (swap_code c place pointer t old same value compare)
  swap_seated place pointer t old same value compare =
      let kept_old : List Inst = keep_code c old ty.Int (result c place) in
      let q : ℕ = place + (1 + keep_size c old ty.Int) in
      let compared : List Inst = same_code c q (result c place) compare same in
      let size = keep_length c old ty.Int (result c place) in
      let e : place + 1 + length kept_old ≡ q = omega (arith, size) in
      (own (made 230 _ _ _ 6 6 0 swap_shape), behind c M (place + 1) q kept_old compared e (keep_seated c M (place + 1) old ty.Int (result c place)) (own (made 170 _ _ _ 2 2 0 equal_shape), keep_seated c M (q + 1) same ty.Bool (result c q)))

  event_seated : (env : Env) (place pointer : ℕ) (t : Target) (e : Event) → AreSeated c M place (event_code c env place pointer t e)
  event_seated env place pointer t (event.Load to) =
      (own (load_is _ _ pointer), keep_seated c M (place + 1) to ty.Int (result c place))
  event_seated env place pointer t (event.Store value) =
      read_then c M env place value _ (bare (store_is pointer _), tt)
  event_seated env place pointer t (event.Atomic to o value) =
      let q : ℕ = place + read_size c env value in
      read_then c M env place value _ (own (made (atomic_opcode o) _ _ _ 4 4 0 (atomic_shape o)), keep_seated c M (q + 1) to ty.Int (result c q))
  event_seated env place pointer t (event.Swap old same compare value) =
      let q : ℕ = place + two_size c env value compare in
      behind c M place q (two_code c env place value compare) _ (ap (λ n. place + n) (two_length c env place value compare)) (two_seated c M env place value compare) (swap_seated q pointer t old same _ _)

  -- ---- where the word is out of range

  zeros_seated : (place : ℕ) (e : Event) → AreSeated c M place (zeros_code c e)
  zeros_seated place (event.Load to) = keep_seated c M place to ty.Int (zero_id c ty.Int)
  zeros_seated place (event.Store value) = tt
  zeros_seated place (event.Atomic to o value) = keep_seated c M place to ty.Int (zero_id c ty.Int)
  zeros_seated place (event.Swap old same compare value) =
      seated_append c M place (keep_code c old ty.Int (zero_id c ty.Int)) (keep_code c same ty.Bool (zero_id c ty.Bool)) (keep_seated c M place old ty.Int (zero_id c ty.Int)) (keep_seated c M _ same ty.Bool (zero_id c ty.Bool))

  zeros_there : (place meet : ℕ) (e : Event) → AreSeated c M place (zeros_block (result c place) meet (zeros_code c e))
  zeros_there place meet e =
      (own_label c M place place refl, seated_append c M (place + 1) (zeros_code c e) (inst 249 (meet ∷ []) ∷ []) (zeros_seated (place + 1) e) (bare (branch_is meet), tt))

  other_seated : (place meet : ℕ) (e : Event) → AreSeated c M place (other_code c (result c place) meet e)
  other_seated place meet (event.Load to) = zeros_there place meet (event.Load to)
  other_seated place meet (event.Store value) = tt
  other_seated place meet (event.Atomic to o value) = zeros_there place meet (event.Atomic to o value)
  other_seated place meet (event.Swap old same compare value) = zeros_there place meet (event.Swap old same compare value)

  -- ---- a part

  guarded_seated : (env : Env) (place : ℕ) (t : Target) (addr : Addr) (part : ℕ) (e : Event) (outside meet : ℕ) → place + (event_size c env addr part e + 1) ≡ outside → outside + other_size c e ≡ meet → AreSeated c M place (guarded_code c env place t addr part e (result c outside) (result c meet))
  guarded_seated env place t addr part e outside meet at_other at_meet =
      let chain : List Inst = chain_code c env place t addr part in
      let q : ℕ = place + chain_size c env addr part in
      let acting : List Inst = event_code c env q (chain_id c env place addr part) t e in
      let other : List Inst = other_code c (result c outside) (result c meet) e in
      let size = chain_length c env place t addr part in
      let event_is = event_length c env q (chain_id c env place addr part) t e in
      let other_is = other_length c (result c outside) (result c meet) e in
      let here : q + length acting + 1 ≡ outside = omega (arith, size, event_is, at_other) in
      let meets : meet ≡ q + length acting + 1 + length other = omega (arith, here, other_is, at_meet) in
      behind c M place q chain _ (ap (λ n. place + n) size) (chain_seated env place t addr part) (seated_append c M q acting _ (event_seated env q (chain_id c env place addr part) t e) (bare (branch_is (result c meet)), seated_append c M (q + length acting + 1) other (inst 248 (result c meet ∷ []) ∷ []) (at_place c M other outside (q + length acting + 1) (sym here) (other_seated outside (result c meet) e)) (own_label c M meet (q + length acting + 1 + length other) meets, tt)))

  guard_seated : (env : Env) (place test : ℕ) (t : Target) (addr : Addr) (part : ℕ) (e : Event) → AreSeated c M place (guard_code c env place test t addr part e)
  guard_seated env place test t addr part e =
      let second : place + 2 ≡ place + 1 + 1 = omega arith in
      let third : place + 3 ≡ place + 1 + 1 + 1 = omega arith in
      let outside : ℕ = place + other_at c env addr part e in
      let meet : ℕ = place + meet_at c env addr part e in
      let at_other : place + 3 + (event_size c env addr part e + 1) ≡ outside = omega arith in
      let at_meet : outside + other_size c e ≡ meet = omega arith in
      (bare (selection_is (result c meet) 0), (bare (conditional_is test (result c (place + 2)) (result c outside)), (own_label c M (place + 2) (place + 1 + 1) second, at_place c M (guarded_code c env (place + 3) t addr part e (result c outside) (result c meet)) (place + 3) (place + 1 + 1 + 1) third (guarded_seated env (place + 3) t addr part e outside meet at_other at_meet))))

  pub part_seated : (env : Env) (place : ℕ) (t : Target) (addr : Addr) (part : ℕ) (e : Event) → AreSeated c M place (part_code c env place t addr part e)
  part_seated env place t addr part e = by_test (is_never addr part)
    where
      q : ℕ
      q = place + test_size c env addr part

      by_test : (x : Bool) → AreSeated c M place (if x then zeros_code c e else (test_code c env place t addr part ++ guard_code c no_register q (test_id c env place addr part) t addr part e))
      by_test true = zeros_seated place e
      by_test false =
          behind c M place q (test_code c env place t addr part) _ (ap (λ n. place + n) (test_length c env place t addr part)) (test_seated env place t addr part) (guard_seated no_register q (test_id c env place addr part) t addr part e)

  pub parts_seated : (env : Env) (place : ℕ) (t : Target) (addr : Addr) (event_of : ℕ → Event) (parts : List ℕ) → AreSeated c M place (parts_code c env place t addr event_of parts)
  parts_seated env place t addr event_of [] = tt
  parts_seated env place t addr event_of (part ∷ parts) =
      let first : List Inst = part_code c env place t addr part (event_of part) in
      seated_append c M place first _ (part_seated env place t addr part (event_of part)) (parts_seated (part_env c env addr part (event_of part)) (place + length first) t addr event_of parts)
