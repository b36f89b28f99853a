-- The code of a part does what the part does.
use Rattle.std.proofs.Common.{◌≡◌, ℕ, suc, ◌+◌, Bool, true, false, List, [], ◌∷◌, ◌++◌, length, length-append, Some, None, refl, sym, ap, ◌∙◌, subst, arith}
use Rattle.std.specs.Prelude.{slice_get, if◌then◌else◌}
use Rattle.dxil_form.specs.declared.instr.Addr.{Addr}
use Rattle.dxil_form.specs.declared.instr.Target.{Target}
use Rattle.dxil_form.specs.Sound.{Sound}
use Rattle.spv_form.specs.declared.module.Inst.{Inst}
use Rattle.dxil_meaning.specs.Fits.{Fits}
use Rattle.dxil_meaning.specs.Launches.{Ask}
use Rattle.dxil_meaning.proofs.Simulation.{leads_on}
use Rattle.dxil_meaning.specs.Source.{Registers, Words, address, place_of}
use Rattle.spirv_meaning.specs.Target.{State, Truth, value_of}
use Rattle.spirv_code.specs.declared.event.Event.{Event}
use Rattle.spirv_code.specs.declared.event.Event.TheVariants.{Load, Store, Atomic, Swap}
use Rattle.spirv_code.specs.Plans.{Context, inst, result}
use Rattle.spirv_code.specs.Reads.{Env, no_register}
use Rattle.spirv_code.specs.Accesses.{is_never, test_code, test_size, test_id, guard_code, chain_code, chain_size, chain_id, event_code, event_reads, event_tail, event_size, zeros_code, zeros_size, zeros_env, zeros_block, other_code, other_size, other_at, meet_at, part_code}
use Rattle.line_runs.specs.Held.{Setting, Held, Has, machine}
use Rattle.line_runs.specs.Declared.{Declares}
use Rattle.line_runs.proofs.Tests.{none_some}
use Rattle.line_runs.proofs.Pieces.{has_front, has_back}
use Rattle.access_runs.specs.Parts.{EventReady, ZerosReady, PartReady, Comes, Acting, PartRuns, missed, asked, answered}
use Rattle.access_runs.proofs.Stepping.{held_at, has_at, inst_at}
use Rattle.access_runs.proofs.Locating.{Pointed}
use Rattle.access_runs.proofs.Missing.{zeros_done, zeros_length, test_length, chain_length, event_length, other_length}
use Rattle.access_runs.proofs.Jumping.{jump, fork, then_comes, comes_at, comes_of}
use Rattle.access_runs.proofs.Running.{if_in_none, if_in_some, never_none, locate, ask_event}

-- what code does for a part
record RunsBy (s : Setting) (i : ℕ) (t : Target) (part : ℕ) (event : Event) (code : List Inst) (env' : Env) (place : ℕ) (regs : Registers) (words : Words) (state : State) : Type 0 where
  outside : words part ≡ None → Comes s i (length code) env' (place + length code) (missed event regs) state
  inside : (word : ℕ) (ask : Ask) → words part ≡ Some word → asked event (place_of t word) regs ≡ Some ask → Acting s i (length code) event ask env' (place + length code) regs state

-- where the pieces of a guard stand, from its first instruction at P on
record Laid (s : Setting) (t : Target) (addr : Addr) (part : ℕ) (event : Event) (P test : ℕ) : Type 0 where
  merge : slice_get s.made.insts P ≡ Some (inst 247 (result s.context (P + meet_at s.context no_register addr part event) ∷ 0 ∷ []))
  forks : slice_get s.made.insts (P + 1) ≡ Some (inst 250 (test ∷ result s.context (P + 2) ∷ result s.context (P + other_at s.context no_register addr part event) ∷ []))
  access : slice_get s.made.insts (P + 2) ≡ Some (inst 248 (result s.context (P + 2) ∷ []))
  chains : Has s.made (P + 3) (chain_code s.context no_register (P + 3) t addr part)
  events : Has s.made (P + 3 + chain_size s.context no_register addr part) (event_code s.context no_register (P + 3 + chain_size s.context no_register addr part) (chain_id s.context no_register (P + 3) addr part) t event)
  leave : slice_get s.made.insts (P + 3 + event_size s.context no_register addr part event) ≡ Some (inst 249 (result s.context (P + meet_at s.context no_register addr part event) ∷ []))
  other : Has s.made (P + other_at s.context no_register addr part event) (other_code s.context (result s.context (P + other_at s.context no_register addr part event)) (result s.context (P + meet_at s.context no_register addr part event)) event)
  meet : slice_get s.made.insts (P + meet_at s.context no_register addr part event) ≡ Some (inst 248 (result s.context (P + meet_at s.context no_register addr part event) ∷ []))
  size : length (guard_code s.context no_register P test t addr part event) ≡ meet_at s.context no_register addr part event + 1

lay : (s : Setting) (t : Target) (addr : Addr) (part : ℕ) (event : Event) (P test : ℕ) → Has s.made P (guard_code s.context no_register P test t addr part event) → Laid s t addr part event P test
lay s t addr part event P test has =
    let c : Context = s.context in
    let Q : ℕ = P + 3 in
    let nc : ℕ = chain_size c no_register addr part in
    let E : ℕ = Q + nc in
    let ne : ℕ = event_reads c no_register event + event_tail c event in
    let out : ℕ = result c (P + other_at c no_register addr part event) in
    let meet : ℕ = result c (P + meet_at c no_register addr part event) in
    let chain : List Inst = chain_code c no_register Q t addr part in
    let events : List Inst = event_code c no_register E (chain_id c no_register Q addr part) t event in
    let others : List Inst = other_code c out meet event in
    let tail3 : List Inst = others ++ (inst 248 (meet ∷ []) ∷ []) in
    let tail2 : List Inst = inst 249 (meet ∷ []) ∷ tail3 in
    let tail1 : List Inst = events ++ tail2 in
    let e2 : P + 1 + 1 ≡ P + 2 = omega arith in
    let e3 : P + 1 + 1 + 1 ≡ Q = omega arith in
    let guarded = has_at s.made (P + 1 + 1 + 1) Q (chain ++ tail1) e3 has.1.1.1 in
    let chain_is : length chain ≡ nc = chain_length c no_register Q t addr part in
    let event_is : length events ≡ ne = event_length c no_register E (chain_id c no_register Q addr part) t event in
    let other_is : length others ≡ other_size c event = other_length c out meet event in
    let at1 = has_at s.made (Q + length chain) E tail1 (ap (λ n. Q + n) chain_is) (has_back s.made Q chain tail1 guarded) in
    let j : E + length events ≡ P + 3 + event_size c no_register addr part event = omega (arith, event_is) in
    let J : ℕ = P + 3 + event_size c no_register addr part event in
    let at2 = has_at s.made (E + length events) J tail2 j (has_back s.made E events tail2 at1) in
    let o : J + 1 ≡ P + other_at c no_register addr part event = omega arith in
    let O : ℕ = P + other_at c no_register addr part event in
    let at3 = has_at s.made (J + 1) O tail3 o at2.1 in
    let m : O + length others ≡ P + meet_at c no_register addr part event = omega (arith, other_is) in
    let at4 = has_at s.made (O + length others) (P + meet_at c no_register addr part event) (inst 248 (meet ∷ []) ∷ []) m (has_back s.made O others (inst 248 (meet ∷ []) ∷ []) at3) in
    let l3 : length tail3 ≡ length others + 1 = length-append others (inst 248 (meet ∷ []) ∷ []) in
    let l1 : length tail1 ≡ length events + suc (length tail3) = length-append events tail2 in
    let l0 : length (chain ++ tail1) ≡ length chain + length tail1 = length-append chain tail1 in
    record {
      merge = has.0;
      forks = has.1.0;
      access = inst_at s.made (P + 1 + 1) (P + 2) _ e2 has.1.1.0;
      chains = has_front s.made Q chain tail1 guarded;
      events = has_front s.made E events tail2 at1;
      leave = at2.0;
      other = has_front s.made O others (inst 248 (meet ∷ []) ∷ []) at3;
      meet = at4.0;
      size = let e : suc (suc (suc (length (chain ++ tail1)))) ≡ meet_at c no_register addr part event + 1 = omega (arith, l0, l1, l3, chain_is, event_is, other_is) in e;
    }

-- a block that sets zeros, behind its label
zeros_come : (s : Setting) → Declares s → (i : ℕ) (event : Event) (q meet : ℕ) (regs : Registers) (state : State) → ZerosReady s event → Held s no_register (q + 1) regs state → Has s.made q (zeros_block (result s.context q) (result s.context meet) (zeros_code s.context event)) → slice_get s.made.insts meet ≡ Some (inst 248 (result s.context meet ∷ [])) → Comes s i (length (zeros_code s.context event) + 2) no_register (meet + 1) (missed event regs) state
zeros_come s d i event q meet regs state ready h has there =
    let zeros : List Inst = zeros_code s.context event in
    let last : List Inst = inst 249 (result s.context meet ∷ []) ∷ [] in
    let done = zeros_done s d i no_register (q + 1) regs state event ready h (has_front s.made (q + 1) zeros last has.1) in
    let branch = has_back s.made (q + 1) zeros last has.1 in
    then_comes s i (length zeros) 2 (length zeros + 2) no_register (meet + 1) (missed event regs) state done.t' done.leads (omega arith) (jump s d i (zeros_env s.context event no_register) (q + 1 + length zeros) meet (missed event regs) done.t' done.held branch.0 there)

-- behind the fork of a part that is out of range
other_comes : (s : Setting) → Declares s → (i : ℕ) (t : Target) (addr : Addr) (part : ℕ) (event : Event) (env : Env) (P test : ℕ) (regs : Registers) (state : State) → ZerosReady s event → Held s env P regs state → Laid s t addr part event P test → value_of s.made state test ≡ Some (Truth false) → Comes s i (meet_at s.context no_register addr part event + 1) no_register (P + meet_at s.context no_register addr part event + 1) (missed event regs) state
other_comes s d i t addr part (Load to) env P test regs state ready h laid is =
    let O : ℕ = P + other_at s.context no_register addr part (Load to) in
    let M : ℕ = P + meet_at s.context no_register addr part (Load to) in
    let f = fork s d i env P test (result s.context M) (P + 2) O regs state false h laid.merge laid.forks is laid.other.0 in
    let size : length (zeros_code s.context (Load to)) ≡ zeros_size s.context (Load to) = zeros_length s.context (Load to) in
    let rest = zeros_come s d i (Load to) O M regs f.t' ready f.held laid.other laid.meet in
    then_comes s i f.n (length (zeros_code s.context (Load to)) + 2) (meet_at s.context no_register addr part (Load to) + 1) no_register (M + 1) (missed (Load to) regs) state f.t' f.leads (omega (arith, f.few, size)) rest
other_comes s d i t addr part (Atomic to op value) env P test regs state ready h laid is =
    let O : ℕ = P + other_at s.context no_register addr part (Atomic to op value) in
    let M : ℕ = P + meet_at s.context no_register addr part (Atomic to op value) in
    let f = fork s d i env P test (result s.context M) (P + 2) O regs state false h laid.merge laid.forks is laid.other.0 in
    let size : length (zeros_code s.context (Atomic to op value)) ≡ zeros_size s.context (Atomic to op value) = zeros_length s.context (Atomic to op value) in
    let rest = zeros_come s d i (Atomic to op value) O M regs f.t' ready f.held laid.other laid.meet in
    then_comes s i f.n (length (zeros_code s.context (Atomic to op value)) + 2) (meet_at s.context no_register addr part (Atomic to op value) + 1) no_register (M + 1) (missed (Atomic to op value) regs) state f.t' f.leads (omega (arith, f.few, size)) rest
other_comes s d i t addr part (Swap old same compare value) env P test regs state ready h laid is =
    let O : ℕ = P + other_at s.context no_register addr part (Swap old same compare value) in
    let M : ℕ = P + meet_at s.context no_register addr part (Swap old same compare value) in
    let f = fork s d i env P test (result s.context M) (P + 2) O regs state false h laid.merge laid.forks is laid.other.0 in
    let size : length (zeros_code s.context (Swap old same compare value)) ≡ zeros_size s.context (Swap old same compare value) = zeros_length s.context (Swap old same compare value) in
    let rest = zeros_come s d i (Swap old same compare value) O M regs f.t' ready f.held laid.other laid.meet in
    then_comes s i f.n (length (zeros_code s.context (Swap old same compare value)) + 2) (meet_at s.context no_register addr part (Swap old same compare value) + 1) no_register (M + 1) (missed (Swap old same compare value) regs) state f.t' f.leads (omega (arith, f.few, size)) rest
other_comes s d i t addr part (Store value) env P test regs state ready h laid is =
    let O : ℕ = P + other_at s.context no_register addr part (Store value) in
    let M : ℕ = P + meet_at s.context no_register addr part (Store value) in
    let e : M ≡ O = omega arith in
    let there : slice_get s.made.insts O ≡ Some (inst 248 (result s.context O ∷ [])) = subst (λ n. slice_get s.made.insts n ≡ Some (inst 248 (result s.context n ∷ []))) e laid.meet in
    let f = fork s d i env P test (result s.context M) (P + 2) O regs state false h laid.merge laid.forks is there in
    record { n = f.n; few = omega (arith, f.few); t' = f.t'; leads = f.leads; held = held_at s no_register (O + 1) (M + 1) regs f.t' (omega (arith, e)) f.held }

-- behind the fork of a part in range: the event, and from its answer to where both ways meet
event_acts : (s : Setting) → Declares s → (i : ℕ) (t : Target) (addr : Addr) (part word : ℕ) (event : Event) (ask : Ask) (env : Env) (P test : ℕ) (regs : Registers) (state : State) → EventReady s t event → ZerosReady s event → ((p : ℕ) (t0 : State) → Held s no_register p regs t0 → Has s.made p (chain_code s.context no_register p t addr part) → Pointed s i p regs t0 t addr part word) → asked event (place_of t word) regs ≡ Some ask → Held s env P regs state → Laid s t addr part event P test → value_of s.made state test ≡ Some (Truth true) → Acting s i (meet_at s.context no_register addr part event + 1) event ask no_register (P + meet_at s.context no_register addr part event + 1) regs state
event_acts s d i t addr part word event ask env P test regs state operands sets pointed asks h laid is =
    let c : Context = s.context in
    let M : ℕ = P + meet_at c no_register addr part event in
    let nc : ℕ = chain_size c no_register addr part in
    let ne : ℕ = event_reads c no_register event + event_tail c event in
    let E : ℕ = P + 3 + nc in
    let f = fork s d i env P test (result c M) (P + 2) (P + other_at c no_register addr part event) regs state true h laid.merge laid.forks is laid.access in
    let e1 : P + 2 + 1 ≡ P + 3 = omega arith in
    let p = pointed (P + 3) f.t' (held_at s no_register (P + 2 + 1) (P + 3) regs f.t' e1 f.held) laid.chains in
    let a = ask_event s d i t word event ask E (chain_id c no_register (P + 3) addr part) regs p.t' operands sets asks p.points p.ahead.held laid.events in
    let code : List Inst = event_code c no_register E (chain_id c no_register (P + 3) addr part) t event in
    let size : length code ≡ ne = event_length c no_register E (chain_id c no_register (P + 3) addr part) t event in
    let first = leads_on (machine s) i f.n nc state f.t' p.t' [] [] f.leads p.ahead.leads in
    let whole = leads_on (machine s) i (f.n + nc) a.asks.n state p.t' a.asks.t' [] [] first a.asks.leads in
    let e2 : E + length code ≡ P + 3 + event_size c no_register addr part event = omega (arith, size) in
    record {
      n = f.n + nc + a.asks.n;
      few = omega (arith, f.few, a.asks.few, size);
      t' = a.asks.t';
      leads = whole;
      next = a.asks.next;
      acts = a.asks.acts;
      then_comes = λ answer. (let r = a.asks.rest answer in
          then_comes s i r.0 2 (meet_at c no_register addr part event + 1) no_register (M + 1) (answered event answer regs) (a.asks.next answer) r.1 r.3 (omega (arith, r.2, size)) (jump s d i (a.env answer) (P + 3 + event_size c no_register addr part event) M (answered event answer regs) r.1 (held_at s (a.env answer) (E + length code) (P + 3 + event_size c no_register addr part event) (answered event answer regs) r.1 e2 r.4) laid.leave laid.meet));
    }

runs_by : (s : Setting) → Declares s → Sound s.program → Fits s.program s.launch → (i : ℕ) (t : Target) (addr : Addr) (part : ℕ) (event : Event) (env : Env) (place : ℕ) (regs : Registers) (words : Words) (state : State) → PartReady s t addr part event → address s.program s.launch regs t addr ≡ Some words → Held s env place regs state → (b : Bool) → is_never addr part ≡ b → Has s.made place (if b then zeros_code s.context event else (test_code s.context env place t addr part ++ guard_code s.context no_register (place + test_size s.context env addr part) (test_id s.context env place addr part) t addr part event)) → RunsBy s i t part event (if b then zeros_code s.context event else (test_code s.context env place t addr part ++ guard_code s.context no_register (place + test_size s.context env addr part) (test_id s.context env place addr part) t addr part event)) (if b then zeros_env s.context event env else no_register) place regs words state
runs_by s d sound fits i t addr part event env place regs words state ready at h true never has =
    let done = zeros_done s d i env place regs state event ready.zeros h has in
    let none = never_none s regs t addr part words at never in
    record {
      outside = λ e. comes_of s i (length (zeros_code s.context event)) (zeros_code s.context event) (zeros_env s.context event env) place (missed event regs) state (omega arith) done;
      inside = λ word ask e asks. absurd (none_some (sym none ∙ e));
    }
runs_by s d sound fits i t addr part event env place regs words state ready at h false room has =
    let c : Context = s.context in
    let n : ℕ = test_size c env addr part in
    let P : ℕ = place + n in
    let test : ℕ = test_id c env place addr part in
    let front : List Inst = test_code c env place t addr part in
    let back : List Inst = guard_code c no_register P test t addr part event in
    let access = ready.access room in
    let located = locate s d sound fits i t addr part env place regs words state ready.few access.limit access.address room at h (has_front s.made place front back has) in
    let laid = lay s t addr part event P test (has_at s.made (place + length front) P back (ap (λ k. place + k) (test_length c env place t addr part)) (has_back s.made place front back has)) in
    let m : ℕ = meet_at c no_register addr part event in
    let size : length (front ++ back) ≡ n + (m + 1) = omega (arith, length-append front back, test_length c env place t addr part, laid.size) in
    let end : P + m + 1 ≡ place + length (front ++ back) = omega (arith, size) in
    let t1 : State = located.tested.t' in
    record {
      outside = λ e. (let no_b = if_in_none located.b located.word (sym located.words_are ∙ e) in
          let test_is = located.tested.is ∙ ap (λ b. Some (Truth b)) no_b in
          comes_at s i (length (front ++ back)) no_register (P + m + 1) (place + length (front ++ back)) (missed event regs) state end (then_comes s i n (m + 1) (length (front ++ back)) no_register (P + m + 1) (missed event regs) state t1 located.tested.ahead.leads (omega (arith, size)) (other_comes s d i t addr part event env P test regs t1 ready.zeros located.tested.ahead.held laid test_is)));
      inside = λ word ask e asks. (let in_b = if_in_some located.b located.word word (sym located.words_are ∙ e) in
          let test_is = located.tested.is ∙ ap (λ b. Some (Truth b)) in_b.0 in
          let pointed = subst (λ w. (p : ℕ) (t0 : State) → Held s no_register p regs t0 → Has s.made p (chain_code c no_register p t addr part) → Pointed s i p regs t0 t addr part w) in_b.1 (located.pointed in_b.0) in
          let a = event_acts s d i t addr part word event ask env P test regs t1 access.operands ready.zeros pointed asks located.tested.ahead.held laid test_is in
          record {
            n = n + a.n;
            few = omega (arith, a.few, size);
            t' = a.t';
            leads = leads_on (machine s) i n a.n state t1 a.t' [] [] located.tested.ahead.leads a.leads;
            next = a.next;
            acts = a.acts;
            then_comes = λ answer. (let r = a.then_comes answer in
                record { n = r.n; few = omega (arith, r.few, size); t' = r.t'; leads = r.leads; held = held_at s no_register (P + m + 1) (place + length (front ++ back)) (answered event answer regs) r.t' end r.held });
          });
    }

pub part_runs : (s : Setting) → Declares s → Sound s.program → Fits s.program s.launch → (i : ℕ) (t : Target) (addr : Addr) (part : ℕ) (event : Event) (env : Env) (place : ℕ) (regs : Registers) (words : Words) (state : State) → PartReady s t addr part event → address s.program s.launch regs t addr ≡ Some words → Held s env place regs state → Has s.made place (part_code s.context env place t addr part event) → PartRuns s i t addr part event env place regs words state
part_runs s d sound fits i t addr part event env place regs words state ready at h has =
    let r = runs_by s d sound fits i t addr part event env place regs words state ready at h (is_never addr part) refl has in
    record { outside = r.outside; inside = r.inside }
