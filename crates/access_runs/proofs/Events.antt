-- The event of a part: what it asks, and what is kept of the answer.
use Rattle.std.proofs.Common.{◌≡◌, ℕ, suc, ◌+◌, ◌≤◌, true, false, List, [], ◌∷◌, ◌++◌, length, length-append, Option, Some, None, refl, sym, ap, ◌∙◌, subst, arith}
use Rattle.std.specs.Prelude.{nat_eq, ◌&&◌, slice_get, if◌then◌else◌}
use Rattle.dxil_form.specs.declared.value.Ty.{Ty}
use Rattle.dxil_form.specs.declared.value.Ty.TheVariants as ty
use Rattle.dxil_form.specs.declared.value.Reg.{Reg}
use Rattle.dxil_form.specs.declared.value.Operand.{Operand}
use Rattle.dxil_form.specs.declared.instr.AtomicOp.{AtomicOp}
use Rattle.dxil_form.specs.declared.instr.AtomicOp.TheVariants.{Add, Sub, And, Or, Xor, SMin, SMax, UMin, UMax, Exchange}
use Rattle.dxil_form.specs.declared.instr.Target.{Target}
use Rattle.dxil_form.specs.declared.instr.Target.TheVariants as target
use Rattle.spv_form.specs.declared.module.Inst.{Inst}
use Rattle.dxil_meaning.specs.Launches.{Ask, Step, Acts, Wrong, Place}
use Rattle.dxil_meaning.specs.Launches as launch
use Rattle.dxil_meaning.specs.Steps.{Leads}
use Rattle.dxil_meaning.proofs.Simulation.{leads_none}
use Rattle.dxil_meaning.specs.Source.{Registers, number_of, place_of, on_both}
use Rattle.dxil_meaning.specs.Source as source
use Rattle.spirv_meaning.specs.Target as spv
use Rattle.spirv_meaning.specs.Target.{Value, Word, Truth, Pointer, State, Kind, Loads, Stores, Atomics, Swaps, act, kind_of, inst_step, given, is_class, is_integer, value_of, atomic_step, swap_step, fits_scope, pointer_place, as_word, next}
use Rattle.spirv_meaning.specs.Names.{is_some_at}
use Rattle.spirv_code.specs.declared.key.Sort.TheVariants as sort
use Rattle.spirv_code.specs.declared.key.Global.TheVariants as global
use Rattle.spirv_code.specs.declared.event.Event.{Event}
use Rattle.spirv_code.specs.declared.event.Event.TheVariants.{Load, Store, Atomic, Swap}
use Rattle.spirv_code.specs.Plans.{Context, inst, result, number, int_id, bool_id, kept}
use Rattle.spirv_code.specs.Reads.{Env, with_id, read_size, read_code, read_id, two_size, two_code, second_id, keep_size, keep_code, store_code, store_size}
use Rattle.spirv_code.specs.Accesses.{int_inst, bool_inst, atomic_opcode, scope_of, same_code, event_code}
use Rattle.line_runs.specs.Held.{Setting, Held, Has, Uses, machine}
use Rattle.line_runs.specs.Declared.{Declares, HasResult}
use Rattle.line_runs.specs.Ready.{Ready, IsSet}
use Rattle.line_runs.specs.Done.{Done}
use Rattle.line_runs.proofs.Tests.{if_true, if_false}
use Rattle.line_runs.proofs.Pieces.{has_front, has_back}
use Rattle.line_runs.proofs.Results.{gave, Keeps, fixed_here, result_at, gave_here, gave_keeps, gave_held}
use Rattle.line_runs.proofs.Keeping.{keep}
use Rattle.line_runs.proofs.Reading.{read_length, read_two, two_length}
use Rattle.line_runs.proofs.Lines.{joined}
use Rattle.line_runs.proofs.Whole.{number_some}
use Rattle.access_runs.specs.Parts.{set_to, answered, is_same}
use Rattle.access_runs.proofs.Stepping.{held_at, has_at, next_two}
use Rattle.access_runs.proofs.Ranges.{read_number}

-- a pointer to a place of memory, which is no variable of the function and no input
pub record Points (s : Setting) (t : State) (id : ℕ) (place : Place) : Type 0 where
  pub variable : ℕ
  pub indices : List ℕ
  pub is : value_of s.made t id ≡ Some (Pointer variable indices)
  pub goes : spv.place_of s.made s.bindings s.launch variable indices ≡ Some place
  pub no_local : is_class s.made variable 7 ≡ false
  pub no_input : is_class s.made variable 1 ≡ false

pub points_still : (s : Setting) (t t' : State) (id : ℕ) (place : Place) → Keeps s t t' → Points s t id place → Points s t' id place
points_still s t t' id place keeps p =
    record { variable = p.variable; indices = p.indices; is = keeps id (Pointer p.variable p.indices) p.is; goes = p.goes; no_local = p.no_local; no_input = p.no_input }

-- one instruction that is an event
pub acts_one : (s : Setting) (i : ℕ) (t : State) (place opcode : ℕ) (operands : List ℕ) (kind : Kind) (step : Step State) → t.at ≡ place → slice_get s.made.insts place ≡ Some (inst opcode operands) → kind_of opcode ≡ Some kind → act s.made s.bindings s.launch i kind operands t ≡ step → (machine s).step i t ≡ step
acts_one s i t place opcode operands kind step at here is does =
    ap (λ o. inst_step s.made s.bindings s.launch i o t) (ap (slice_get s.made.insts) at ∙ here) ∙ ap (λ o. given o (λ kind. act s.made s.bindings s.launch i kind operands t)) is ∙ does

-- what the instruction asks at the place q, and what is left to do behind it
pub record Asks (s : Setting) (i : ℕ) (code : List Inst) (event : Event) (ask : Ask) (env' : ℕ → Env) (place : ℕ) (regs : Registers) (t : State) : Type 0 where
  pub n : ℕ
  pub few : n + 1 ≤ length code
  pub t' : State
  pub leads : Leads (machine s) i n t [] t'
  pub next : ℕ → State
  pub acts : (machine s).step i t' ≡ Acts ask next
  pub rest : (answer : ℕ) → (k : ℕ) × (t'' : State) × (k + n + 1 ≤ length code) × Leads (machine s) i k (next answer) [] t'' × Held s (env' answer) (place + length code) (answered event answer regs) t''

-- ---- a load

pub load_asks : (s : Setting) → Declares s → Uses s (global.Plain sort.Int) → (i : ℕ) (env : Env) (q pointer : ℕ) (regs : Registers) (t : State) (to : Reg) (place : Place) → IsSet s to ty.Int → Points s t pointer place → Held s env q regs t → Has s.made q (int_inst s.context q 61 (pointer ∷ []) ∷ keep_code s.context to ty.Int (result s.context q)) → Asks s i (int_inst s.context q 61 (pointer ∷ []) ∷ keep_code s.context to ty.Int (result s.context q)) (Load to) (launch.Load place) (λ answer. with_id to (result s.context q) env) q regs t
load_asks s d integers i env q pointer regs t to place one p h has =
    let c : Context = s.context in
    let type : ℕ = int_id c in
    let after : ℕ → State = λ v. gave s q (Word v) t in
    let does : act s.made s.bindings s.launch i Loads (type ∷ result c q ∷ pointer ∷ []) t ≡ Acts (launch.Load place) after = ap (λ o. spv.load_step s.made s.bindings s.launch i type (result c q) o t) p.is ∙ if_false (is_class s.made p.variable 7) p.no_local _ _ ∙ if_false (is_class s.made p.variable 1) p.no_input _ _ ∙ if_true (is_integer s.made type) (d.integers integers) _ _ ∙ ap (λ o. given o (λ place. Acts (launch.Load place) after)) p.goes in
    let keeps : List Inst = keep_code c to ty.Int (result c q) in
    let rest = λ (v : ℕ). (keep s d i env (q + 1) regs (gave s q (Word v) t) to ty.Int (source.Number v) (result c q) (gave_held s env q regs t (Word v) h) one tt (gave_here s d q (result_at s q 61 _ Loads has.0 refl refl) (Word v) t) has.1).done in
    let room : length keeps + 0 + 1 ≤ suc (length keeps) = omega arith in
    let end : q + 1 + length keeps ≡ q + suc (length keeps) = omega arith in
    record {
      n = 0;
      few = omega arith;
      t' = t;
      leads = leads_none (machine s) i t;
      next = after;
      acts = acts_one s i t q 61 (type ∷ result c q ∷ pointer ∷ []) Loads (Acts (launch.Load place) after) h.at has.0 refl does;
      rest = λ v. (length keeps, (rest v).t', room, (rest v).leads, held_at s (with_id to (result c q) env) (q + 1 + length keeps) (q + suc (length keeps)) (set_to to (source.Number v) regs) (rest v).t' end (rest v).held);
    }

-- ---- a store

-- a step that changes nothing but the place
pub held_next : (s : Setting) (env : Env) (place : ℕ) (regs : Registers) (t : State) → Held s env place regs t → Held s env (place + 1) regs (next t)
held_next s env place regs t h =
    let e : suc t.at ≡ place + 1 = omega (arith, h.at) in
    record { at = e; known = h.known; stored = h.stored; next = h.next; typed = h.typed; fresh = λ k le. h.fresh k (omega arith) }

pub store_asks : (s : Setting) → Declares s → (i : ℕ) (env : Env) (place pointer : ℕ) (regs : Registers) (t : State) (value : Operand) (x : ℕ) (at : Place) → Ready s env value ty.Int → number_of regs value ≡ Some x → Points s t pointer at → Held s env place regs t → Has s.made place (read_code s.context env place value ++ (inst 62 (pointer ∷ read_id s.context env place value ∷ []) ∷ [])) → Asks s i (read_code s.context env place value ++ (inst 62 (pointer ∷ read_id s.context env place value ∷ []) ∷ [])) (Store value) (launch.Store at x) (λ answer. env) place regs t
store_asks s d i env place pointer regs t value x at ready is_x p h has =
    let c : Context = s.context in
    let n : ℕ = read_size c env value in
    let id : ℕ = read_id c env place value in
    let q : ℕ = place + n in
    let front : List Inst = read_code c env place value in
    let back : List Inst = inst 62 (pointer ∷ id ∷ []) ∷ [] in
    let r = read_number s d i env place regs t value x ready is_x h (has_front s.made place front back has) in
    let behind = has_at s.made (place + length front) q back (ap (λ j. place + j) (read_length c env place value)) (has_back s.made place front back has) in
    let p' = points_still s t r.t' pointer at r.ahead.keeps p in
    let does : act s.made s.bindings s.launch i Stores (pointer ∷ id ∷ []) r.t' ≡ Acts (launch.Store at x) (λ answer. next r.t') = ap (λ o. spv.store_step s.made s.bindings s.launch o (value_of s.made r.t' id) r.t') p'.is ∙ ap (λ o. spv.store_step s.made s.bindings s.launch (Some (Pointer p'.variable p'.indices)) o r.t') r.is ∙ if_false (is_class s.made p'.variable 7) p'.no_local _ _ ∙ ap (λ o. given o (λ place. Acts (launch.Store place x) (λ answer. next r.t'))) p'.goes in
    let size : length (front ++ back) ≡ n + 1 = length-append front back ∙ ap (λ k. k + 1) (read_length c env place value) in
    let end : q + 1 ≡ place + length (front ++ back) = omega (arith, size) in
    let after = held_at s env (q + 1) (place + length (front ++ back)) regs (next r.t') end (held_next s env q regs r.t' r.ahead.held) in
    let room : 0 + n + 1 ≤ length (front ++ back) = omega (arith, size) in
    record {
      n = n;
      few = omega (arith, size);
      t' = r.t';
      leads = r.ahead.leads;
      next = λ answer. next r.t';
      acts = acts_one s i r.t' q 62 (pointer ∷ id ∷ []) Stores (Acts (launch.Store at x) (λ answer. next r.t')) r.ahead.held.at behind.0 refl does;
      rest = λ answer. (0, next r.t', room, leads_none (machine s) i (next r.t'), after);
    }

-- ---- an atomic

atomic_kind : (op : AtomicOp) → kind_of (atomic_opcode op) ≡ Some (Atomics op)
atomic_kind Add = refl
atomic_kind Sub = refl
atomic_kind And = refl
atomic_kind Or = refl
atomic_kind Xor = refl
atomic_kind SMin = refl
atomic_kind SMax = refl
atomic_kind UMin = refl
atomic_kind UMax = refl
atomic_kind Exchange = refl

scope_fits : (target : Target) (word : ℕ) → fits_scope (place_of target word) (Some (scope_of target)) ≡ true
scope_fits (target.Buffer r) word = refl
scope_fits (target.Shared a) word = refl

pub atomic_asks : (s : Setting) → Declares s → (i : ℕ) (env : Env) (place pointer : ℕ) (regs : Registers) (t : State) (target : Target) (word : ℕ) (to : Reg) (op : AtomicOp) (value : Operand) (x : ℕ) → Uses s (global.Number 0) → Uses s (global.Number (scope_of target)) → IsSet s to ty.Int → Ready s env value ty.Int → number_of regs value ≡ Some x → Points s t pointer (place_of target word) → Held s env place regs t → Has s.made place (event_code s.context env place pointer target (Atomic to op value)) → Asks s i (event_code s.context env place pointer target (Atomic to op value)) (Atomic to op value) (launch.Atomic (place_of target word) op x) (λ answer. with_id to (result s.context (place + read_size s.context env value)) env) place regs t
atomic_asks s d i env place pointer regs t target word to op value x zero scope one ready is_x p h has =
    let c : Context = s.context in
    let n : ℕ = read_size c env value in
    let id : ℕ = read_id c env place value in
    let q : ℕ = place + n in
    let at : Place = place_of target word in
    let front : List Inst = read_code c env place value in
    let keeps : List Inst = keep_code c to ty.Int (result c q) in
    let operands : List ℕ = int_id c ∷ result c q ∷ pointer ∷ number c (scope_of target) ∷ number c 0 ∷ id ∷ [] in
    let back : List Inst = inst (atomic_opcode op) operands ∷ keeps in
    let r = read_number s d i env place regs t value x ready is_x h (has_front s.made place front back has) in
    let behind = has_at s.made (place + length front) q back (ap (λ j. place + j) (read_length c env place value)) (has_back s.made place front back has) in
    let p' = points_still s t r.t' pointer at r.ahead.keeps p in
    let after : ℕ → State = λ v. gave s q (Word v) r.t' in
    let scope_at = fixed_here s r.t' (number c (scope_of target)) (Word (scope_of target)) (d.numbers (scope_of target) scope) in
    let zero_at = fixed_here s r.t' (number c 0) (Word 0) (d.numbers 0 zero) in
    let step : Option Value → Option Value → Option Value → Option Value → Step State = λ a b e v. atomic_step s.made s.bindings s.launch op (result c q) a b e v r.t' in
    let does : act s.made s.bindings s.launch i (Atomics op) operands r.t' ≡ Acts (launch.Atomic at op x) after = ap (λ o. step o (value_of s.made r.t' (number c (scope_of target))) (value_of s.made r.t' (number c 0)) (value_of s.made r.t' id)) p'.is ∙ ap (λ o. step (Some (Pointer p'.variable p'.indices)) o (value_of s.made r.t' (number c 0)) (value_of s.made r.t' id)) scope_at ∙ ap (λ o. step (Some (Pointer p'.variable p'.indices)) (Some (Word (scope_of target))) o (value_of s.made r.t' id)) zero_at ∙ ap (λ o. step (Some (Pointer p'.variable p'.indices)) (Some (Word (scope_of target))) (Some (Word 0)) o) r.is ∙ ap (λ o. given o (λ place. if fits_scope place (Some (scope_of target)) && is_some_at (Some 0) 0 then Acts (launch.Atomic place op x) after else Wrong)) p'.goes ∙ if_true (fits_scope at (Some (scope_of target)) && is_some_at (Some 0) 0) (ap (λ b. b && true) (scope_fits target word)) _ _ in
    let size : length (front ++ back) ≡ n + suc (length keeps) = length-append front back ∙ ap (λ k. k + suc (length keeps)) (read_length c env place value) in
    let rest = λ (v : ℕ). (keep s d i env (q + 1) regs (gave s q (Word v) r.t') to ty.Int (source.Number v) (result c q) (gave_held s env q regs r.t' (Word v) r.ahead.held) one tt (gave_here s d q (result_at s q (atomic_opcode op) _ (Atomics op) behind.0 (atomic_kind op) refl) (Word v) r.t') behind.1).done in
    let end : q + 1 + length keeps ≡ place + length (front ++ back) = omega (arith, size) in
    let room : length keeps + n + 1 ≤ length (front ++ back) = omega (arith, size) in
    record {
      n = n;
      few = omega (arith, size);
      t' = r.t';
      leads = r.ahead.leads;
      next = after;
      acts = acts_one s i r.t' q (atomic_opcode op) operands (Atomics op) (Acts (launch.Atomic at op x) after) r.ahead.held.at behind.0 (atomic_kind op) does;
      rest = λ v. (length keeps, (rest v).t', room, (rest v).leads, held_at s (with_id to (result c q) env) (q + 1 + length keeps) (place + length (front ++ back)) (set_to to (source.Number v) regs) (rest v).t' end (rest v).held);
    }

-- ---- a swap

pub keep_length : (c : Context) (to : Reg) (type : Ty) (id : ℕ) → length (keep_code c to type id) ≡ keep_size c to type
keep_length c to type id = by_slot (c.slot (kept to type))
  where
    by_slot : (o : Option ℕ) → length (store_code o id) ≡ store_size o
    by_slot None = refl
    by_slot (Some v) = refl

same_results : (s : Setting) (t t' : State) → ((id : ℕ) → t'.results id ≡ t.results id) → Keeps s t t'
same_results s t t' same id x e =
    ap (λ o. spv.or_result (spv.fixed s.made id) o) (same id) ∙ e

-- behind the swap itself: the word that was there is kept, and whether it is the one that was compared with
swap_rest : (s : Setting) → Declares s → (i : ℕ) (env : Env) (q compare : ℕ) (regs : Registers) (t : State) (old same : Reg) (x answer : ℕ) → IsSet s old ty.Int → IsSet s same ty.Bool → value_of s.made t compare ≡ Some (Word x) → Held s env q regs t → HasResult s q → Has s.made (q + 1) (keep_code s.context old ty.Int (result s.context q) ++ same_code s.context (q + (1 + keep_size s.context old ty.Int)) (result s.context q) compare same) → Done s i (keep_code s.context old ty.Int (result s.context q) ++ same_code s.context (q + (1 + keep_size s.context old ty.Int)) (result s.context q) compare same) (with_id same (result s.context (q + (1 + keep_size s.context old ty.Int))) (with_id old (result s.context q) env)) (q + 1) (set_to same (source.Truth (nat_eq answer x)) (set_to old (source.Number answer) regs)) (gave s q (Word answer) t)
swap_rest s d i env q compare regs t old same x answer one_old one_same is h gives has =
    let c : Context = s.context in
    let t0 : State = gave s q (Word answer) t in
    let n : ℕ = keep_size c old ty.Int in
    let q2 : ℕ = q + (1 + n) in
    let front : List Inst = keep_code c old ty.Int (result c q) in
    let keeps : List Inst = keep_code c same ty.Bool (result c q2) in
    let back : List Inst = bool_inst c q2 170 (result c q ∷ compare ∷ []) ∷ keeps in
    let regs1 : Registers = set_to old (source.Number answer) regs in
    let env1 : Env = with_id old (result c q) env in
    let first = keep s d i env (q + 1) regs t0 old ty.Int (source.Number answer) (result c q) (gave_held s env q regs t (Word answer) h) one_old tt (gave_here s d q gives (Word answer) t) (has_front s.made (q + 1) front back has) in
    let t1 : State = first.done.t' in
    let e1 : q + 1 + length front ≡ q2 = omega (arith, keep_length c old ty.Int (result c q)) in
    let code1 = has_at s.made (q + 1 + length front) q2 back e1 (has_back s.made (q + 1) front back has) in
    let still = same_results s t0 t1 first.same in
    let old_at = still (result c q) (Word answer) (gave_here s d q gives (Word answer) t) in
    let compare_at = still compare (Word x) (gave_keeps s q (Word answer) t (h.fresh q (omega arith)) compare (Word x) is) in
    let b = nat_eq answer x in
    let equal = next_two s d i env1 q2 regs1 t1 170 (bool_id c) (result c q) compare (Word answer) (Word x) (Truth b) _ (held_at s env1 (q + 1 + length front) q2 regs1 t1 e1 first.done.held) code1.0 refl old_at compare_at refl in
    let last = keep s d i env1 (q2 + 1) regs1 (gave s q2 (Truth b) t1) same ty.Bool (source.Truth b) (result c q2) equal.held one_same tt equal.is code1.1 in
    let env2 : Env = with_id same (result c q2) env1 in
    let regs2 : Registers = set_to same (source.Truth b) regs1 in
    let tail = joined s i (bool_inst c q2 170 (result c q ∷ compare ∷ []) ∷ []) keeps 1 env2 q2 regs2 t1 (gave s q2 (Truth b) t1) refl equal.leads last.done in
    let e2 : q + 1 + n ≡ q2 = omega arith in
    joined s i front back n env2 (q + 1) regs2 t0 t1 (keep_length c old ty.Int (result c q)) (subst (λ k. Leads (machine s) i k t0 [] t1) (keep_length c old ty.Int (result c q)) first.done.leads) (subst (λ k. Done s i back env2 k regs2 t1) (sym e2) tail)

pub swap_asks : (s : Setting) → Declares s → (i : ℕ) (env : Env) (place pointer : ℕ) (regs : Registers) (t : State) (target : Target) (word : ℕ) (old same : Reg) (compare value : Operand) (x v : ℕ) → Uses s (global.Number 0) → Uses s (global.Number (scope_of target)) → IsSet s old ty.Int → IsSet s same ty.Bool → Ready s env compare ty.Int → Ready s env value ty.Int → number_of regs compare ≡ Some x → number_of regs value ≡ Some v → Points s t pointer (place_of target word) → Held s env place regs t → Has s.made place (event_code s.context env place pointer target (Swap old same compare value)) → Asks s i (event_code s.context env place pointer target (Swap old same compare value)) (Swap old same compare value) (launch.Swap (place_of target word) x v) (λ answer. with_id same (result s.context (place + two_size s.context env value compare + (1 + keep_size s.context old ty.Int))) (with_id old (result s.context (place + two_size s.context env value compare)) env)) place regs t
swap_asks s d i env place pointer regs t target word old same compare value x v zero scope one_old one_same ready_compare ready_value is_x is_v p h has =
    let c : Context = s.context in
    let n : ℕ = two_size c env value compare in
    let vid : ℕ = read_id c env place value in
    let cid : ℕ = second_id c env place value compare in
    let q : ℕ = place + n in
    let at : Place = place_of target word in
    let front : List Inst = two_code c env place value compare in
    let rest_code : List Inst = keep_code c old ty.Int (result c q) ++ same_code c (q + (1 + keep_size c old ty.Int)) (result c q) cid same in
    let operands : List ℕ = int_id c ∷ result c q ∷ pointer ∷ number c (scope_of target) ∷ number c 0 ∷ number c 0 ∷ vid ∷ cid ∷ [] in
    let back : List Inst = inst 230 operands ∷ rest_code in
    let r = read_two s d i env place regs t value compare ty.Int ty.Int ready_value ready_compare h (has_front s.made place front back has) in
    let behind = has_at s.made (place + length front) q back (ap (λ j. place + j) (two_length c env place value compare)) (has_back s.made place front back has) in
    let p' = points_still s t r.t' pointer at r.keeps p in
    let value_at = r.left_is ∙ ap Some (r.left_same (source.Number v) (number_some (source.value_of regs value) v is_v)) in
    let compare_at = r.right_is ∙ ap Some (r.right_same (source.Number x) (number_some (source.value_of regs compare) x is_x)) in
    let after : ℕ → State = λ answer. gave s q (Word answer) r.t' in
    let scope_at = fixed_here s r.t' (number c (scope_of target)) (Word (scope_of target)) (d.numbers (scope_of target) scope) in
    let zero_at = fixed_here s r.t' (number c 0) (Word 0) (d.numbers 0 zero) in
    let step : Option Value → Option Value → Option Value → Option Value → Option Value → Step State = λ a b e w u. swap_step s.made s.bindings s.launch (result c q) a b e e w u r.t' in
    let here : Option Value = Some (Pointer p'.variable p'.indices) in
    let does : act s.made s.bindings s.launch i Swaps operands r.t' ≡ Acts (launch.Swap at x v) after = ap (λ o. step o (value_of s.made r.t' (number c (scope_of target))) (value_of s.made r.t' (number c 0)) (value_of s.made r.t' vid) (value_of s.made r.t' cid)) p'.is ∙ ap (λ o. step here o (value_of s.made r.t' (number c 0)) (value_of s.made r.t' vid) (value_of s.made r.t' cid)) scope_at ∙ ap (λ o. step here (Some (Word (scope_of target))) o (value_of s.made r.t' vid) (value_of s.made r.t' cid)) zero_at ∙ ap (λ o. step here (Some (Word (scope_of target))) (Some (Word 0)) o (value_of s.made r.t' cid)) value_at ∙ ap (λ o. step here (Some (Word (scope_of target))) (Some (Word 0)) (Some (Word v)) o) compare_at ∙ ap (λ o. given o (λ place. if fits_scope place (Some (scope_of target)) && is_some_at (Some 0) 0 && is_some_at (Some 0) 0 then Acts (launch.Swap place x v) after else Wrong)) p'.goes ∙ if_true (fits_scope at (Some (scope_of target)) && is_some_at (Some 0) 0 && is_some_at (Some 0) 0) (ap (λ b. b && true && true) (scope_fits target word)) _ _ in
    let size : length (front ++ back) ≡ n + suc (length rest_code) = length-append front back ∙ ap (λ k. k + suc (length rest_code)) (two_length c env place value compare) in
    let rest = λ (answer : ℕ). swap_rest s d i env q cid regs r.t' old same x answer one_old one_same compare_at r.held (result_at s q 230 _ Swaps behind.0 refl refl) behind.1 in
    let env' : Env = with_id same (result c (q + (1 + keep_size c old ty.Int))) (with_id old (result c q) env) in
    let end : q + 1 + length rest_code ≡ place + length (front ++ back) = omega (arith, size) in
    let room : length rest_code + n + 1 ≤ length (front ++ back) = omega (arith, size) in
    let told = λ (answer : ℕ). ap (λ o. set_to same (source.Truth (is_same o answer)) (set_to old (source.Number answer) regs)) (sym is_x) in
    record {
      n = n;
      few = omega (arith, size);
      t' = r.t';
      leads = r.leads;
      next = after;
      acts = acts_one s i r.t' q 230 operands Swaps (Acts (launch.Swap at x v) after) r.held.at behind.0 refl does;
      rest = λ answer. (length rest_code, (rest answer).t', room, (rest answer).leads, subst (λ g. Held s env' (place + length (front ++ back)) g (rest answer).t') (told answer) (held_at s env' (q + 1 + length rest_code) (place + length (front ++ back)) (set_to same (source.Truth (nat_eq answer x)) (set_to old (source.Number answer) regs)) (rest answer).t' end (rest answer).held));
    }
