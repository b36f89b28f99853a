-- What is set where a part is out of range, and how long pieces of its code are.
use Rattle.std.proofs.Common.{◌≡◌, ℕ, suc, ◌+◌, Bool, true, false, List, [], ◌∷◌, ◌++◌, length, length-append, refl, ap, ◌∙◌, subst, arith}
use Rattle.std.specs.Prelude.{nat_eq, if◌then◌else◌}
use Rattle.dxil_form.specs.declared.value.Ty.TheVariants as ty
use Rattle.dxil_form.specs.declared.value.Operand.{Operand}
use Rattle.dxil_form.specs.declared.instr.Addr.{Addr}
use Rattle.dxil_form.specs.declared.instr.Addr.TheVariants.{Byte, Element, Row, Index}
use Rattle.dxil_form.specs.declared.instr.Target.{Target}
use Rattle.spv_form.specs.declared.module.Inst.{Inst}
use Rattle.dxil_meaning.proofs.Simulation.{leads_none}
use Rattle.dxil_meaning.specs.Source.{Registers}
use Rattle.dxil_meaning.specs.Source as source
use Rattle.spirv_meaning.specs.Target.{Word, Truth, State}
use Rattle.spirv_code.specs.declared.event.Event.{Event}
use Rattle.spirv_code.specs.declared.event.Event.TheVariants.{Load, Store, Atomic, Swap}
use Rattle.spirv_code.specs.Plans.{Context, inst, result, number, zero_id}
use Rattle.spirv_code.specs.Reads.{Env, with_id, read_size, read_code, read_id, two_size, two_code, second_id, keep_size, keep_code}
use Rattle.spirv_code.specs.Accesses.{bool_inst, int_inst, byte_tests, index_test, test_size, test_code, length_inst, same_code, event_reads, event_tail, event_code, zeros_code, zeros_size, zeros_env, zeros_block, other_code, other_size, chain_code, chain_size, word_code}
use Rattle.line_runs.specs.Held.{Setting, Held, Has, machine}
use Rattle.line_runs.specs.Declared.{Declares}
use Rattle.line_runs.specs.Done.{Done}
use Rattle.line_runs.proofs.Pieces.{has_front, has_back}
use Rattle.line_runs.proofs.Results.{fixed_here}
use Rattle.line_runs.proofs.Keeping.{keep}
use Rattle.line_runs.proofs.Reading.{read_length, two_length}
use Rattle.line_runs.proofs.Lines.{joined}
use Rattle.access_runs.specs.Parts.{ZerosReady, missed, set_to}
use Rattle.access_runs.proofs.Chains.{word_length}
use Rattle.access_runs.proofs.Events.{keep_length}

pub zeros_done : (s : Setting) → Declares s → (i : ℕ) (env : Env) (place : ℕ) (regs : Registers) (t : State) (event : Event) → ZerosReady s event → Held s env place regs t → Has s.made place (zeros_code s.context event) → Done s i (zeros_code s.context event) (zeros_env s.context event env) place (missed event regs) t
zeros_done s d i env place regs t (Load to) ready h has =
    (keep s d i env place regs t to ty.Int (source.Number 0) (zero_id s.context ty.Int) h ready.0 tt (fixed_here s t (zero_id s.context ty.Int) (Word 0) (d.numbers 0 ready.1)) has).done
zeros_done s d i env place regs t (Store value) ready h has =
    let e : place ≡ place + 0 = omega arith in
    record { t' = t; leads = leads_none (machine s) i t; held = subst (λ n. Held s env n regs t) e h }
zeros_done s d i env place regs t (Atomic to op value) ready h has =
    (keep s d i env place regs t to ty.Int (source.Number 0) (zero_id s.context ty.Int) h ready.0 tt (fixed_here s t (zero_id s.context ty.Int) (Word 0) (d.numbers 0 ready.1)) has).done
zeros_done s d i env place regs t (Swap old same compare value) ready h has =
    let c : Context = s.context in
    let front : List Inst = keep_code c old ty.Int (zero_id c ty.Int) in
    let back : List Inst = keep_code c same ty.Bool (zero_id c ty.Bool) in
    let first = (keep s d i env place regs t old ty.Int (source.Number 0) (zero_id c ty.Int) h ready.0 tt (fixed_here s t (zero_id c ty.Int) (Word 0) (d.numbers 0 ready.2)) (has_front s.made place front back has)).done in
    let regs1 : Registers = set_to old (source.Number 0) regs in
    let env1 : Env = with_id old (zero_id c ty.Int) env in
    let second = (keep s d i env1 (place + length front) regs1 first.t' same ty.Bool (source.Truth false) (zero_id c ty.Bool) first.held ready.1 tt (fixed_here s first.t' (zero_id c ty.Bool) (Truth false) (d.truths false ready.3)) (has_back s.made place front back has)).done in
    joined s i front back (length front) (with_id same (zero_id c ty.Bool) env1) place (set_to same (source.Truth false) regs1) t first.t' refl first.leads second

pub zeros_length : (c : Context) (event : Event) → length (zeros_code c event) ≡ zeros_size c event
zeros_length c (Load to) = keep_length c to ty.Int (zero_id c ty.Int)
zeros_length c (Store value) = refl
zeros_length c (Atomic to op value) = keep_length c to ty.Int (zero_id c ty.Int)
zeros_length c (Swap old same compare value) =
    length-append (keep_code c old ty.Int (zero_id c ty.Int)) (keep_code c same ty.Bool (zero_id c ty.Bool)) ∙ ap (λ n. n + length (keep_code c same ty.Bool (zero_id c ty.Bool))) (keep_length c old ty.Int (zero_id c ty.Int)) ∙ ap (λ n. keep_size c old ty.Int + n) (keep_length c same ty.Bool (zero_id c ty.Bool))

block_length : (label meet : ℕ) (zeros : List Inst) (n : ℕ) → length zeros ≡ n → length (zeros_block label meet zeros) ≡ n + 2
block_length label meet zeros n e =
    let sum : length (zeros ++ (inst 249 (meet ∷ []) ∷ [])) ≡ length zeros + 1 = length-append zeros (inst 249 (meet ∷ []) ∷ []) in
    let whole : suc (length (zeros ++ (inst 249 (meet ∷ []) ∷ []))) ≡ n + 2 = omega (arith, sum, e) in
    whole

pub other_length : (c : Context) (label meet : ℕ) (event : Event) → length (other_code c label meet event) ≡ other_size c event
other_length c label meet (Load to) =
    block_length label meet (zeros_code c (Load to)) (zeros_size c (Load to)) (zeros_length c (Load to))
other_length c label meet (Store value) = refl
other_length c label meet (Atomic to op value) =
    block_length label meet (zeros_code c (Atomic to op value)) (zeros_size c (Atomic to op value)) (zeros_length c (Atomic to op value))
other_length c label meet (Swap old same compare value) =
    block_length label meet (zeros_code c (Swap old same compare value)) (zeros_size c (Swap old same compare value)) (zeros_length c (Swap old same compare value))

pub event_length : (c : Context) (env : Env) (place pointer : ℕ) (t : Target) (event : Event) → length (event_code c env place pointer t event) ≡ event_reads c env event + event_tail c event
event_length c env place pointer t (Load to) =
    let e : suc (length (keep_code c to ty.Int (result c place))) ≡ 0 + (1 + keep_size c to ty.Int) = omega (arith, keep_length c to ty.Int (result c place)) in
    e
event_length c env place pointer t (Store value) =
    length-append (read_code c env place value) (inst 62 (pointer ∷ read_id c env place value ∷ []) ∷ []) ∙ ap (λ n. n + 1) (read_length c env place value)
event_length c env place pointer t (Atomic to op value) =
    let q : ℕ = place + read_size c env value in
    let e : length (read_code c env place value) + suc (length (keep_code c to ty.Int (result c q))) ≡ read_size c env value + (1 + keep_size c to ty.Int) = omega (arith, read_length c env place value, keep_length c to ty.Int (result c q)) in
    length-append (read_code c env place value) _ ∙ e
event_length c env place pointer t (Swap old same compare value) =
    let n : ℕ = two_size c env value compare in
    let q : ℕ = place + n in
    let q2 : ℕ = q + (1 + keep_size c old ty.Int) in
    let cid : ℕ = second_id c env place value compare in
    let inner : length (keep_code c old ty.Int (result c q) ++ same_code c q2 (result c q) cid same) ≡ length (keep_code c old ty.Int (result c q)) + suc (length (keep_code c same ty.Bool (result c q2))) = length-append (keep_code c old ty.Int (result c q)) (same_code c q2 (result c q) cid same) in
    let e : length (two_code c env place value compare) + suc (length (keep_code c old ty.Int (result c q) ++ same_code c q2 (result c q) cid same)) ≡ n + (1 + keep_size c old ty.Int + (1 + keep_size c same ty.Bool)) = omega (arith, inner, two_length c env place value compare, keep_length c old ty.Int (result c q), keep_length c same ty.Bool (result c q2)) in
    length-append (two_code c env place value compare) _ ∙ e

pub chain_length : (c : Context) (env : Env) (place : ℕ) (t : Target) (addr : Addr) (part : ℕ) → length (chain_code c env place t addr part) ≡ chain_size c env addr part
chain_length c env place t addr part =
    length-append (word_code c env place addr part) _ ∙ ap (λ n. n + 1) (word_length c env place addr part)

byte_length : (c : Context) (place : ℕ) (t : Target) (part n : ℕ) → length (byte_tests c place t part) ≡ (if nat_eq part 0 then 2 else 5)
byte_length c place t part n = by_test (nat_eq part 0)
  where
    by_test : (b : Bool) → length (if b then length_inst c (place + 1) t ∷ bool_inst c (place + 2) 176 (result c place ∷ result c (place + 1) ∷ []) ∷ [] else (int_inst c (place + 1) 128 (result c place ∷ number c part ∷ []) ∷ length_inst c (place + 2) t ∷ bool_inst c (place + 3) 176 (result c place ∷ result c (place + 2) ∷ []) ∷ bool_inst c (place + 4) 176 (result c (place + 1) ∷ result c (place + 2) ∷ []) ∷ bool_inst c (place + 5) 167 (result c (place + 3) ∷ result c (place + 4) ∷ []) ∷ [])) ≡ (if b then 2 else 5)
    by_test true = refl
    by_test false = refl

index_length : (c : Context) (env : Env) (place : ℕ) (index : Operand) (limit : ℕ) → length (index_test c env place index limit) ≡ read_size c env index + 1
index_length c env place index limit =
    length-append (read_code c env place index) _ ∙ ap (λ n. n + 1) (read_length c env place index)

pub test_length : (c : Context) (env : Env) (place : ℕ) (t : Target) (addr : Addr) (part : ℕ) → length (test_code c env place t addr part) ≡ test_size c env addr part
test_length c env place t (Byte at) part =
    let q : ℕ = place + read_size c env at in
    let e : length (read_code c env place at) + suc (length (byte_tests c q t part)) ≡ read_size c env at + (if nat_eq part 0 then 2 else 5) + 1 = omega (arith, read_length c env place at, byte_length c q t part 0) in
    length-append (read_code c env place at) _ ∙ e
test_length c env place t (Element index at stride) part =
    let n0 : ℕ = read_size c env at in
    let n1 : ℕ = read_size c env index in
    let code : List Inst = read_code c env (place + (n0 + 3)) index in
    let tail : List Inst = bool_inst c (place + (n0 + 3 + n1)) 176 (read_id c env (place + (n0 + 3)) index ∷ result c (place + (n0 + 2)) ∷ []) ∷ bool_inst c (place + (n0 + 3 + n1 + 1)) 167 (result c (place + n0) ∷ result c (place + (n0 + 3 + n1)) ∷ []) ∷ [] in
    let inner : length (code ++ tail) ≡ length code + 2 = length-append code tail in
    let e : length (read_code c env place at) + suc (suc (suc (length (code ++ tail)))) ≡ n0 + 3 + n1 + 1 + 1 = omega (arith, inner, read_length c env place at, read_length c env (place + (n0 + 3)) index) in
    length-append (read_code c env place at) _ ∙ e
test_length c env place t (Row index) part = index_length c env place index (c.limit t)
test_length c env place t (Index index) part = index_length c env place index (c.limit t)
