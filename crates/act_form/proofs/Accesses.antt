-- What the code of a part of an access does: its one access or atomic, where the part has room.
use Rattle.std.proofs.Common.{◌≡◌, ℕ, ◌+◌, ◌*◌, ◌≤◌, Bool, true, false, List, [], ◌∷◌, ◌++◌, length, Option, refl, sym, ap, ◌∙◌, arith}
use Rattle.std.specs.Prelude.{nat_eq, nat_le, nat_lt, not, if◌then◌else◌}
use Rattle.std.specs.List.{flat_map}
use Rattle.dxil_form.specs.declared.value.Ty.TheVariants as ty
use Rattle.dxil_form.specs.declared.value.Reg.{Reg}
use Rattle.dxil_form.specs.declared.value.Operand.{Operand}
use Rattle.dxil_form.specs.declared.instr.AtomicOp.{AtomicOp}
use Rattle.dxil_form.specs.declared.instr.AtomicOp.TheVariants as op
use Rattle.dxil_form.specs.declared.instr.Addr.{Addr}
use Rattle.dxil_form.specs.declared.instr.Addr.TheVariants.{Byte, Element, Row, Index}
use Rattle.dxil_form.specs.declared.instr.Target.{Target}
use Rattle.dxil_form.specs.declared.instr.Target.TheVariants as target
use Rattle.spv_form.specs.declared.module.Inst.{Inst}
use Rattle.spv_form.specs.declared.module.Module.{Module}
use Rattle.spirv_meaning.specs.Target.{Value, fixed}
use Rattle.spirv_code.specs.declared.key.Global.TheVariants as global
use Rattle.spirv_code.specs.declared.event.Event.{Event}
use Rattle.spirv_code.specs.declared.event.Event.TheVariants as event
use Rattle.spirv_code.specs.Plans.{result, number, zero_id, int_id}
use Rattle.spirv_code.specs.Reads.{Env, no_register, read_size, read_code, read_id, keep_size, keep_code, two_size, two_code, second_id}
use Rattle.spirv_code.specs.Accesses.{base_size, base_id, base_code, int_inst, bool_inst, length_inst, adds, word_size, word_code, chain_size, chain_id, chain_code, byte_tests, index_test, test_size, test_id, test_code, is_never, atomic_opcode, scope_of, same_code, swap_code, event_code, zeros_code, other_at, meet_at, other_code, guarded_code, guard_code, part_code, part_env}
use Rattle.spirv_code.specs.Lines.{parts_code}
use Rattle.line_runs.specs.Held.{Setting, Uses}
use Rattle.access_runs.specs.Parts.{EventReady, PartReady}
use Rattle.block_runs.specs.Inside.{PartsReady}
use Rattle.act_form.specs.Acts.{Act, Loads, Stores, Updates, Swaps, act_of, constant, atomic_scope, word, has_room, with_room}
use Rattle.act_form.proofs.Pieces.{Knows, acts, joined, behind, read_none, two_none, keep_none}

-- what the event of a part is
abbrev pub event_act : Target → Event → Act
event_act t (event.Load to) = Loads
event_act t (event.Store value) = Stores
event_act t (event.Atomic to op value) = Updates (atomic_opcode op) (word (atomic_scope t)) (word 0)
event_act t (event.Swap old same compare value) = Swaps (word (atomic_scope t)) (word 0) (word 0)

scope_same : (t : Target) → scope_of t ≡ atomic_scope t
scope_same (target.Buffer r) = refl
scope_same (target.Shared a) = refl

-- an atomic's opcode
atomic_is : (m : Module) (o : AtomicOp) (operands : List ℕ) → act_of m (atomic_opcode o) operands ≡ Updates (atomic_opcode o) (constant m operands 3) (constant m operands 4) ∷ []
atomic_is m op.Add operands = refl
atomic_is m op.Sub operands = refl
atomic_is m op.And operands = refl
atomic_is m op.Or operands = refl
atomic_is m op.Xor operands = refl
atomic_is m op.SMin operands = refl
atomic_is m op.SMax operands = refl
atomic_is m op.UMin operands = refl
atomic_is m op.UMax operands = refl
atomic_is m op.Exchange operands = refl

-- a part has room unless it is in range nowhere
room_is : (addr : Addr) (part : ℕ) → has_room addr part ≡ not (is_never addr part)
room_is (Byte at) part = refl
room_is (Element index at stride) part =
    let same : 4 * part + 4 ≡ 4 + 4 * part = omega arith in
    ap (λ n. nat_le n stride) same ∙ either (4 + 4 * part) stride
  where
    either : (n most : ℕ) → nat_le n most ≡ not (nat_lt most n)
    either n most = grind arith
room_is (Row index) part = refl
room_is (Index index) part = refl

module _ (s : Setting) (low : ℕ) (knows : Knows s low) where
  -- ---- addresses and tests

  base_none : (env : Env) (place : ℕ) (addr : Addr) → acts s (base_code s.context env place addr) ≡ []
  base_none env place (Byte at) = behind s (read_code s.context env place at) _ [] (read_none s low knows env place at) refl
  base_none env place (Element index at stride) =
      behind s (read_code s.context env place at) _ [] (read_none s low knows env place at) (behind s (read_code s.context env (place + (read_size s.context env at + 1)) index) _ [] (read_none s low knows env (place + (read_size s.context env at + 1)) index) refl)
  base_none env place (Row index) = read_none s low knows env place index
  base_none env place (Index index) = read_none s low knows env place index

  word_none : (env : Env) (place : ℕ) (addr : Addr) (part : ℕ) → acts s (word_code s.context env place addr part) ≡ []
  word_none env place addr part = behind s (base_code s.context env place addr) _ [] (base_none env place addr) (by_test (adds addr part))
    where
      by_test : (x : Bool) → acts s (if x then int_inst s.context (place + base_size s.context env addr) 128 (base_id s.context env place addr ∷ number s.context part ∷ []) ∷ [] else []) ≡ []
      by_test true = refl
      by_test false = refl

  chain_none : (env : Env) (place : ℕ) (t : Target) (addr : Addr) (part : ℕ) → acts s (chain_code s.context env place t addr part) ≡ []
  chain_none env place t addr part = behind s (word_code s.context env place addr part) _ [] (word_none env place addr part) refl

  bytes_none : (place : ℕ) (t : Target) (part : ℕ) → acts s (byte_tests s.context place t part) ≡ []
  bytes_none place t part = by_test (nat_eq part 0)
    where
      by_test : (x : Bool) → acts s (if x then length_inst s.context (place + 1) t ∷ bool_inst s.context (place + 2) 176 (result s.context place ∷ result s.context (place + 1) ∷ []) ∷ [] else (int_inst s.context (place + 1) 128 (result s.context place ∷ number s.context part ∷ []) ∷ length_inst s.context (place + 2) t ∷ bool_inst s.context (place + 3) 176 (result s.context place ∷ result s.context (place + 2) ∷ []) ∷ bool_inst s.context (place + 4) 176 (result s.context (place + 1) ∷ result s.context (place + 2) ∷ []) ∷ bool_inst s.context (place + 5) 167 (result s.context (place + 3) ∷ result s.context (place + 4) ∷ []) ∷ [])) ≡ []
      by_test true = refl
      by_test false = refl

  index_none : (env : Env) (place : ℕ) (index : Operand) (limit : ℕ) → acts s (index_test s.context env place index limit) ≡ []
  index_none env place index limit = behind s (read_code s.context env place index) _ [] (read_none s low knows env place index) refl

  test_none : (env : Env) (place : ℕ) (t : Target) (addr : Addr) (part : ℕ) → acts s (test_code s.context env place t addr part) ≡ []
  test_none env place t (Byte at) part = behind s (read_code s.context env place at) _ [] (read_none s low knows env place at) (bytes_none (place + read_size s.context env at) t part)
  test_none env place t (Element index at stride) part =
      behind s (read_code s.context env place at) _ [] (read_none s low knows env place at) (behind s (read_code s.context env (place + (read_size s.context env at + 3)) index) _ [] (read_none s low knows env (place + (read_size s.context env at + 3)) index) refl)
  test_none env place t (Row index) part = index_none env place index (s.context.limit t)
  test_none env place t (Index index) part = index_none env place index (s.context.limit t)

  -- ---- where the word is out of range

  zeros_none : (e : Event) → acts s (zeros_code s.context e) ≡ []
  zeros_none (event.Load to) = keep_none s low knows to ty.Int _
  zeros_none (event.Store value) = refl
  zeros_none (event.Atomic to op value) = keep_none s low knows to ty.Int _
  zeros_none (event.Swap old same compare value) =
      behind s (keep_code s.context old ty.Int (zero_id s.context ty.Int)) _ [] (keep_none s low knows old ty.Int _) (keep_none s low knows same ty.Bool _)

  other_none : (label meet : ℕ) (e : Event) → acts s (other_code s.context label meet e) ≡ []
  other_none label meet (event.Load to) = behind s (zeros_code s.context (event.Load to)) _ [] (zeros_none (event.Load to)) refl
  other_none label meet (event.Store value) = refl
  other_none label meet (event.Atomic to op value) =
      behind s (zeros_code s.context (event.Atomic to op value)) _ [] (zeros_none (event.Atomic to op value)) refl
  other_none label meet (event.Swap old same compare value) =
      behind s (zeros_code s.context (event.Swap old same compare value)) _ [] (zeros_none (event.Swap old same compare value)) refl

  -- ---- the event

  scope_value : (t : Target) → Uses s (global.Number (scope_of t)) → fixed s.made (number s.context (scope_of t)) ≡ word (atomic_scope t)
  scope_value t uses = knows.numbers (scope_of t) uses ∙ ap word (scope_same t)

  swap_gives : (place pointer : ℕ) (t : Target) (old same : Reg) (value compare : ℕ) → Uses s (global.Number (scope_of t)) → Uses s (global.Number 0) → acts s (swap_code s.context place pointer t old same value compare) ≡ Swaps (word (atomic_scope t)) (word 0) (word 0) ∷ []
  swap_gives place pointer t old same value compare scope zero =
      ap (λ o. Swaps o none none ∷ acts s rest) (scope_value t scope) ∙ ap (λ o. Swaps (word (atomic_scope t)) o o ∷ acts s rest) (knows.numbers 0 zero) ∙ ap (λ xs. Swaps (word (atomic_scope t)) (word 0) (word 0) ∷ xs) rest_none
    where
      none : Option Value
      none = fixed s.made (number s.context 0)

      kept_old : List Inst
      kept_old = keep_code s.context old ty.Int (result s.context place)

      compared : List Inst
      compared = same_code s.context (place + (1 + keep_size s.context old ty.Int)) (result s.context place) compare same

      rest : List Inst
      rest = kept_old ++ compared

      rest_none : acts s rest ≡ []
      rest_none = behind s kept_old compared [] (keep_none s low knows old ty.Int _) (keep_none s low knows same ty.Bool _)

  event_gives : (env : Env) (place at : ℕ) (t : Target) (e : Event) → low ≤ at → EventReady s t e → acts s (event_code s.context env place (result s.context at) t e) ≡ event_act t e ∷ []
  event_gives env place at t (event.Load to) there ready =
      ap (λ b. (if b then [] else Loads ∷ []) ++ acts s (keep_code s.context to ty.Int (result s.context place))) (knows.results at there) ∙ ap (λ xs. Loads ∷ xs) (keep_none s low knows to ty.Int _)
  event_gives env place at t (event.Store value) there ready =
      behind s (read_code s.context env place value) _ (Stores ∷ []) (read_none s low knows env place value) (ap (λ b. (if b then [] else Stores ∷ []) ++ []) (knows.results at there))
  event_gives env place at t (event.Atomic to o value) there ready =
      behind s (read_code s.context env place value) _ (event_act t (event.Atomic to o value) ∷ []) (read_none s low knows env place value) (ap (λ xs. xs ++ acts s rest) (atomic_is s.made o operands) ∙ ap (λ x. Updates (atomic_opcode o) x none ∷ acts s rest) (scope_value t ready.1) ∙ ap (λ x. Updates (atomic_opcode o) (word (atomic_scope t)) x ∷ acts s rest) (knows.numbers 0 ready.2) ∙ ap (λ xs. Updates (atomic_opcode o) (word (atomic_scope t)) (word 0) ∷ xs) (keep_none s low knows to ty.Int _))
    where
      n : ℕ
      n = place + read_size s.context env value

      none : Option Value
      none = fixed s.made (number s.context 0)

      rest : List Inst
      rest = keep_code s.context to ty.Int (result s.context n)

      operands : List ℕ
      operands =
          int_id s.context ∷ result s.context n ∷ result s.context at ∷ number s.context (scope_of t) ∷ number s.context 0 ∷ read_id s.context env place value ∷ []
  event_gives env place at t (event.Swap old same compare value) there ready =
      behind s (two_code s.context env place value compare) _ (event_act t (event.Swap old same compare value) ∷ []) (two_none s low knows env place value compare) (swap_gives (place + two_size s.context env value compare) (result s.context at) t old same (read_id s.context env place value) (second_id s.context env place value compare) ready.2 ready.3)

  -- ---- a part

  guarded_gives : (env : Env) (place : ℕ) (t : Target) (addr : Addr) (part : ℕ) (e : Event) (outside meet : ℕ) → low ≤ place → EventReady s t e → acts s (guarded_code s.context env place t addr part e outside meet) ≡ event_act t e ∷ []
  guarded_gives env place t addr part e outside meet there ready =
      behind s (chain_code s.context env place t addr part) _ (event_act t e ∷ []) (chain_none env place t addr part) (joined s (event_code s.context env (place + chain_size s.context env addr part) (chain_id s.context env place addr part) t e) _ (event_act t e ∷ []) [] (event_gives env (place + chain_size s.context env addr part) (place + word_size s.context env addr part) t e (omega (arith, there)) ready) (behind s (other_code s.context outside meet e) _ [] (other_none outside meet e) refl))

  pub part_gives : (env : Env) (place : ℕ) (t : Target) (addr : Addr) (part : ℕ) (e : Event) → low ≤ place → PartReady s t addr part e → acts s (part_code s.context env place t addr part e) ≡ with_room (event_act t e) addr part
  part_gives env place t addr part e there ready =
      by_test (is_never addr part) refl ∙ ap (λ b. if b then event_act t e ∷ [] else []) (sym (room_is addr part))
    where
      tested : ℕ
      tested = place + test_size s.context env addr part

      guarded : List Inst
      guarded =
          test_code s.context env place t addr part ++ guard_code s.context no_register tested (test_id s.context env place addr part) t addr part e

      by_test : (x : Bool) → is_never addr part ≡ x → acts s (if x then zeros_code s.context e else guarded) ≡ (if not x then event_act t e ∷ [] else [])
      by_test true never = zeros_none e
      by_test false never =
          behind s (test_code s.context env place t addr part) _ (event_act t e ∷ []) (test_none env place t addr part) (guarded_gives no_register (tested + 3) t addr part e (result s.context (tested + other_at s.context no_register addr part e)) (result s.context (tested + meet_at s.context no_register addr part e)) (omega (arith, there)) (ready.access never).operands)

  pub parts_gives : (t : Target) (addr : Addr) (event_of : ℕ → Event) (parts : List ℕ) (env : Env) (place : ℕ) → low ≤ place → PartsReady s t addr event_of parts → acts s (parts_code s.context env place t addr event_of parts) ≡ flat_map (λ part. with_room (event_act t (event_of part)) addr part) parts
  parts_gives t addr event_of [] env place there ready = refl
  parts_gives t addr event_of (part ∷ parts) env place there ready =
      let front = part_code s.context env place t addr part (event_of part) in
      joined s front (parts_code s.context (part_env s.context env addr part (event_of part)) (place + length front) t addr event_of parts) (with_room (event_act t (event_of part)) addr part) _ (part_gives env place t addr part (event_of part) there ready.0) (parts_gives t addr event_of parts (part_env s.context env addr part (event_of part)) (place + length front) (omega (arith, there)) ready.1)
