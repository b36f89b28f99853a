-- The lines of a block, one after the other.
use Rattle.std.proofs.Common.{◌≡◌, ◌≢◌, ℕ, suc, ◌+◌, ◌-◌, ◌*◌, ◌≤◌, ◌<◌, Bool, true, false, List, [], ◌∷◌, length, length-append, drop, Option, Some, None, refl, sym, ap, ◌∙◌, subst, arith, ⊎_elim}
use Rattle.std.specs.Prelude.{◌/◌, ◌%◌, ◌^◌, slice_get, map, option_map, nat_eq, not, if◌then◌else◌, filter}
use Rattle.std.proofs.lemmas.List.Filters.{length-filter_both}
use Rattle.dxil_form.specs.declared.value.Reg.{Reg}
use Rattle.dxil_form.specs.declared.value.Operand.{Operand}
use Rattle.dxil_form.specs.declared.instr.AtomicOp.{AtomicOp}
use Rattle.dxil_form.specs.declared.instr.Addr.{Addr}
use Rattle.dxil_form.specs.declared.instr.Scope.{Scope}
use Rattle.dxil_form.specs.declared.instr.Target.{Target}
use Rattle.dxil_form.specs.declared.instr.Instr.{Instr}
use Rattle.dxil_form.specs.declared.instr.Instr.TheVariants.{Bin, Cmp, Cast, Select, Copy, One, Two, Mad, Id, Size, Load, Store, Atomic, Swap, Barrier, Nothing}
use Rattle.dxil_form.specs.declared.block.Block.{Block}
use Rattle.dxil_form.specs.Registers.{parts_of, pick}
use Rattle.dxil_form.specs.Sound.{Sound}
use Rattle.spv_form.specs.declared.module.Inst.{Inst}
use Rattle.dxil_meaning.specs.Fits.{Fits}
use Rattle.dxil_meaning.specs.Launches.{Ask, Step, Wrong, Quiet, Acts, Place}
use Rattle.dxil_meaning.specs.Launches as launch
use Rattle.dxil_meaning.specs.Steps.{Unless_end, is_wrong, acts}
use Rattle.dxil_meaning.proofs.Simulation.{leads_none}
use Rattle.dxil_meaning.proofs.Budget.{with_room}
use Rattle.dxil_meaning.specs.Source.{Registers, Words, Number, Truth, State as SourceState, Line, address, place_of, number_of, source, instr_step, given, at_line, is_empty, with_values, load_step, store_step, atomic_step, swap_step, with_reg, on_both}
use Rattle.spirv_meaning.specs.Target.{State, Fences, act, barrier_step, word_of, as_word, Word, next}
use Rattle.spirv_meaning.specs.Names.{is_some_at}
use Rattle.spirv_code.specs.declared.key.Global.TheVariants as global
use Rattle.spirv_code.specs.declared.event.Event.{Event}
use Rattle.spirv_code.specs.declared.event.Event.TheVariants as event
use Rattle.spirv_code.specs.Plans.{number}
use Rattle.spirv_code.specs.Reads.{Env}
use Rattle.spirv_code.specs.Accesses.{part_code, part_env}
use Rattle.spirv_code.specs.Lines.{line_code, line_env, lines_code, load_event, store_event, swap_event, barrier_scope, barrier_semantics}
use Rattle.line_runs.specs.Held.{Setting, Held, Has, Uses, machine}
use Rattle.line_runs.specs.Declared.{Declares}
use Rattle.line_runs.specs.Ready.{LineReady}
use Rattle.line_runs.specs.Done.{QuietDone}
use Rattle.line_runs.proofs.Pieces.{has_front, has_back}
use Rattle.line_runs.proofs.Results.{fixed_here}
use Rattle.line_runs.proofs.Whole.{quiet_line}
use Rattle.access_runs.specs.Parts.{PartReady, PartRuns, Comes, missed, asked, answered, is_same}
use Rattle.access_runs.proofs.Whole.{part_runs}
use Rattle.access_runs.proofs.Stepping.{held_at}
use Rattle.access_runs.proofs.Events.{acts_one, held_next}
use Rattle.block_runs.specs.Inside.{BarrierReady, StepReady, Left, PartsLeft, Nears, Inside, at_line as inside_line}
use Rattle.block_runs.specs.Laws.{Match}
use Rattle.block_runs.proofs.Sources.{at_instr, drop_first, drop_next, drop_none}
use Rattle.block_runs.proofs.Barriers.{barrier_gives}
use Rattle.block_runs.proofs.Loads.{LinesMatch, step_near, in_steps, comes_room, parts_load}
use Rattle.block_runs.proofs.Stores.{parts_store}

-- the lines behind the first one
pub rest_left : (s : Setting) (line : Instr) (lines : List Instr) (env : Env) (place end : ℕ) (known : Env) → Left s (line ∷ lines) env place end known → Left s lines (line_env s.context env place line) (place + length (line_code s.context env place line)) end known
rest_left s line lines env place end known l =
    let front : List Inst = line_code s.context env place line in
    let env' : Env = line_env s.context env place line in
    let place' : ℕ = place + length front in
    let back : List Inst = lines_code s.context env' place' lines in
    let e : place' + length back ≡ end = omega (arith, length-append front back, l.ends) in
    record { ready = l.ready.1; has = has_back s.made place front back l.has; ends = e; knows = l.knows }

pub left_below : (s : Setting) (lines : List Instr) (env : Env) (place end : ℕ) (known : Env) → Left s lines env place end known → place ≤ end
left_below s lines env place end known l = omega (arith, l.ends)

-- an access has at most four parts
few_parts : (mask : ℕ) → length (parts_of mask) ≤ 4
few_parts mask =
    let both : length (parts_of mask) + length (filter (λ c. not (nat_eq (mask / 2 ^ c % 2) 1)) (0 ∷ 1 ∷ 2 ∷ 3 ∷ [])) ≡ 4 = length-filter_both (λ c. nat_eq (mask / 2 ^ c % 2) 1) (λ c. not (nat_eq (mask / 2 ^ c % 2) 1)) (λ c. refl) (0 ∷ 1 ∷ 2 ∷ 3 ∷ []) in
    omega (arith, both)

given_none : {A : Type 0} (o : Option A) (go : A → Step SourceState) → o ≡ None → given o go ≡ Wrong
given_none o go e = ap (λ o. given o go) e

given_some : {A : Type 0} (o : Option A) (go : A → Step SourceState) (a : A) → o ≡ Some a → given o go ≡ go a
given_some o go a e = ap (λ o. given o go) e

module _ (s : Setting) (d : Declares s) (sound : Sound s.program) (fits : Fits s.program s.launch) (b : ℕ) (block : Block) (end : ℕ) (known : Env) (at : slice_get s.program.blocks b ≡ Some block) (i : ℕ) (R : ℕ → SourceState → State → Type 0) (closed : (x : SourceState) (state : State) → Inside s b block end known i x state → R i x state) where
  -- one line: what follows it matches in so many steps
  abbrev LineMatches : (L K k : ℕ) (line : Instr) (lines : List Instr) → Type 0
  LineMatches L K k line lines =
      LinesMatch s d sound fits b block end known at i R closed L K (suc k) lines → (x : SourceState) (t : State) (env : Env) (place : ℕ) → x.block ≡ b → x.spot ≡ Line k → drop k block.instrs ≡ line ∷ lines → Left s (line ∷ lines) env place end known → Held s env place x.regs t → Match s R (4 + L) (end - place + suc K) i x t

  wrong_here : (L K : ℕ) (place : ℕ) (x : SourceState) (t : State) → (source s.program s.launch).step i x ≡ Wrong → Match s R (4 + L) (end - place + suc K) i x t
  wrong_here L K place x t e = is_wrong 0 x (omega arith) (leads_none (source s.program s.launch) i x) e

  quiet_case : (L K k : ℕ) (line : Instr) (lines : List Instr) → ((env : Env) → StepReady s env line → LineReady s env line) → LineMatches L K k line lines
  quiet_case L K k line lines is_quiet lines_match x t env place here spot left l h =
      ⊎_elim (λ e. wrong_here L K place x t (step ∙ e)) done (quiet_line s d i k env place t x line (is_quiet env l.ready.0) h (has_front s.made place code _ l.has))
    where
      code : List Inst
      code = line_code s.context env place line

      env' : Env
      env' = line_env s.context env place line

      place' : ℕ
      place' = place + length code

      step : (source s.program s.launch).step i x ≡ instr_step s.program s.launch i k line x
      step = at_instr s.program s.launch i b k block line x at here spot (drop_first block.instrs k line lines left)

      below : place' ≤ end
      below = left_below s lines env' place' end known (rest_left s line lines env place end known l)

      done : QuietDone s i k code env' place t x (instr_step s.program s.launch i k line x) → Match s R (4 + L) (end - place + suc K) i x t
      done q =
          let x' : SourceState = at_line (suc k) q.regs x in
          let c : Comes s i (length code) env' place' q.regs t = record { n = length code; few = omega arith; t' = q.done.t'; leads = q.done.leads; held = q.done.held } in
          let near = step_near s R L (end - place' + suc K) i (length code) env' place' q.regs x x' t (step ∙ q.is) c (λ t' h'. lines_match x' t' env' place' here refl (drop_next block.instrs k line lines left) (rest_left s line lines env place end known l) h') in
          with_room SourceState State (source s.program s.launch) (machine s) R (suc L) (length code + (end - place' + suc K)) (4 + L) (end - place + suc K) i x t (omega arith) (omega (arith, below)) near

  -- ---- one event

  event_case : (L K k : ℕ) (line : Instr) (lines : List Instr) (target : Target) (addr : Addr) (e : Event) (ask : ℕ → Ask) (words : Words) (x : SourceState) (t : State) (env : Env) (place : ℕ) → LinesMatch s d sound fits b block end known at i R closed L K (suc k) lines → x.block ≡ b → drop k block.instrs ≡ line ∷ lines → PartReady s target addr 0 e → address s.program s.launch x.regs target addr ≡ Some words → ((word : ℕ) → asked e (place_of target word) x.regs ≡ Some (ask word)) → ((word : ℕ) (X : Type 0) → X → Unless_end (ask word) X) → (words 0 ≡ None → (source s.program s.launch).step i x ≡ Quiet [] (at_line (suc k) (missed e x.regs) x)) → ((word : ℕ) → words 0 ≡ Some word → (source s.program s.launch).step i x ≡ Acts (ask word) (λ answer. at_line (suc k) (answered e answer x.regs) x)) → Has s.made place (part_code s.context env place target addr 0 e) → Left s lines (part_env s.context env addr 0 e) (place + length (part_code s.context env place target addr 0 e)) end known → Held s env place x.regs t → Match s R (4 + L) (end - place + suc K) i x t
  event_case L K k line lines target addr e ask words x t env place lines_match here left ready is asks opened outside inside has l h = by_word (words 0) refl
    where
      code : List Inst
      code = part_code s.context env place target addr 0 e

      env' : Env
      env' = part_env s.context env addr 0 e

      place' : ℕ
      place' = place + length code

      below : place' ≤ end
      below = left_below s lines env' place' end known l

      runs : PartRuns s i target addr 0 e env place x.regs words t
      runs = part_runs s d sound fits i target addr 0 e env place x.regs words t ready is h has

      by_word : (o : Option ℕ) → words 0 ≡ o → Match s R (4 + L) (end - place + suc K) i x t
      by_word (Some word) eq =
          let r = runs.inside word (ask word) eq (asks word) in
          let few : r.n < end - place + suc K = omega (arith, r.few, below) in
          acts 0 r.n x r.t' (ask word) (λ answer. at_line (suc k) (answered e answer x.regs) x) r.next (omega arith) few (leads_none (source s.program s.launch) i x) (inside word eq) r.leads r.acts (opened word _ (λ answer. closed (at_line (suc k) (answered e answer x.regs) x) (r.next answer) (inside_line (suc k) lines env' place' here refl (drop_next block.instrs k line lines left) l (comes_room s i (length code) place' env' place' (answered e answer x.regs) (r.next answer) (omega arith) (r.then_comes answer)))))
      by_word None eq =
          let x' : SourceState = at_line (suc k) (missed e x.regs) x in
          let near = step_near s R L (end - place' + suc K) i (length code) env' place' (missed e x.regs) x x' t (outside eq) (runs.outside eq) (λ t' h'. lines_match x' t' env' place' here refl (drop_next block.instrs k line lines left) l h') in
          with_room SourceState State (source s.program s.launch) (machine s) R (suc L) (length code + (end - place' + suc K)) (4 + L) (end - place + suc K) i x t (omega arith) (omega (arith, below)) near

  atomic_case : (L K k : ℕ) (lines : List Instr) (to : Reg) (op : AtomicOp) (target : Target) (addr : Addr) (value : Operand) → LineMatches L K k (Atomic to op target addr value) lines
  atomic_case L K k lines to op target addr value lines_match x t env place here spot left l h = by_address (address s.program s.launch x.regs target addr) refl
    where
      line : Instr
      line = Atomic to op target addr value

      step : (source s.program s.launch).step i x ≡ instr_step s.program s.launch i k line x
      step = at_instr s.program s.launch i b k block line x at here spot (drop_first block.instrs k line lines left)

      on_value : Words → Step SourceState
      on_value words = given (number_of x.regs value) λ v. atomic_step k to op (option_map (place_of target) (words 0)) v x

      by_value : (words : Words) → address s.program s.launch x.regs target addr ≡ Some words → (o : Option ℕ) → number_of x.regs value ≡ o → Match s R (4 + L) (end - place + suc K) i x t
      by_value words e None v = wrong_here L K place x t (step ∙ given_some (address s.program s.launch x.regs target addr) on_value words e ∙ given_none (number_of x.regs value) (λ v. atomic_step k to op (option_map (place_of target) (words 0)) v x) v)
      by_value words e (Some n) v =
          let to_step = step ∙ given_some (address s.program s.launch x.regs target addr) on_value words e ∙ given_some (number_of x.regs value) (λ v. atomic_step k to op (option_map (place_of target) (words 0)) v x) n v in
          event_case L K k line lines target addr (event.Atomic to op value) (λ word. launch.Atomic (place_of target word) op n) words x t env place lines_match here left l.ready.0 e (λ word. ap (option_map (launch.Atomic (place_of target word) op)) v) (λ word X it. it) (λ none. to_step ∙ ap (λ o. atomic_step k to op (option_map (place_of target) o) n x) none) (λ word some. to_step ∙ ap (λ o. atomic_step k to op (option_map (place_of target) o) n x) some) (has_front s.made place (line_code s.context env place line) _ l.has) (rest_left s line lines env place end known l) h

      by_address : (o : Option Words) → address s.program s.launch x.regs target addr ≡ o → Match s R (4 + L) (end - place + suc K) i x t
      by_address None e = wrong_here L K place x t (step ∙ given_none (address s.program s.launch x.regs target addr) on_value e)
      by_address (Some words) e = by_value words e (number_of x.regs value) refl

  swap_case : (L K k : ℕ) (lines : List Instr) (to : ℕ) (target : Target) (addr : Addr) (compare value : Operand) → LineMatches L K k (Swap to target addr compare value) lines
  swap_case L K k lines to target addr compare value lines_match x t env place here spot left l h = by_address (address s.program s.launch x.regs target addr) refl
    where
      line : Instr
      line = Swap to target addr compare value

      step : (source s.program s.launch).step i x ≡ instr_step s.program s.launch i k line x
      step = at_instr s.program s.launch i b k block line x at here spot (drop_first block.instrs k line lines left)

      on_value : Words → ℕ → Step SourceState
      on_value words c = given (number_of x.regs value) λ v. swap_step k to (option_map (place_of target) (words 0)) c v x

      on_compare : Words → Step SourceState
      on_compare words = given (number_of x.regs compare) (on_value words)

      by_value : (words : Words) (c : ℕ) → address s.program s.launch x.regs target addr ≡ Some words → number_of x.regs compare ≡ Some c → (o : Option ℕ) → number_of x.regs value ≡ o → Match s R (4 + L) (end - place + suc K) i x t
      by_value words c e ec None v = wrong_here L K place x t (step ∙ given_some (address s.program s.launch x.regs target addr) on_compare words e ∙ given_some (number_of x.regs compare) (on_value words) c ec ∙ given_none (number_of x.regs value) (λ v. swap_step k to (option_map (place_of target) (words 0)) c v x) v)
      by_value words c e ec (Some n) v =
          let to_step = step ∙ given_some (address s.program s.launch x.regs target addr) on_compare words e ∙ given_some (number_of x.regs compare) (on_value words) c ec ∙ given_some (number_of x.regs value) (λ v. swap_step k to (option_map (place_of target) (words 0)) c v x) n v in
          let asks = λ (word : ℕ). ap (λ o. on_both (λ c v. Some (launch.Swap (place_of target word) c v)) o (number_of x.regs value)) ec ∙ ap (λ o. on_both (λ c v. Some (launch.Swap (place_of target word) c v)) (Some c) o) v in
          let kept = λ (word : ℕ). ap (λ o. Acts (launch.Swap (place_of target word) c n) (λ answer. at_line (suc k) (with_reg to 1 (Some (Truth (is_same o answer))) (with_reg to 0 (Some (Number answer)) x.regs)) x)) (sym ec) in
          event_case L K k line lines target addr (swap_event to compare value) (λ word. launch.Swap (place_of target word) c n) words x t env place lines_match here left l.ready.0 e asks (λ word X it. it) (λ none. to_step ∙ ap (λ o. swap_step k to (option_map (place_of target) o) c n x) none) (λ word some. to_step ∙ ap (λ o. swap_step k to (option_map (place_of target) o) c n x) some ∙ kept word) (has_front s.made place (line_code s.context env place line) _ l.has) (rest_left s line lines env place end known l) h

      by_compare : (words : Words) → address s.program s.launch x.regs target addr ≡ Some words → (o : Option ℕ) → number_of x.regs compare ≡ o → Match s R (4 + L) (end - place + suc K) i x t
      by_compare words e None c = wrong_here L K place x t (step ∙ given_some (address s.program s.launch x.regs target addr) on_compare words e ∙ given_none (number_of x.regs compare) (on_value words) c)
      by_compare words e (Some n) c = by_value words n e c (number_of x.regs value) refl

      by_address : (o : Option Words) → address s.program s.launch x.regs target addr ≡ o → Match s R (4 + L) (end - place + suc K) i x t
      by_address None e = wrong_here L K place x t (step ∙ given_none (address s.program s.launch x.regs target addr) on_compare e)
      by_address (Some words) e = by_compare words e (number_of x.regs compare) refl

  -- ---- loads and stores

  load_case : (L K k : ℕ) (lines : List Instr) (to mask : ℕ) (target : Target) (addr : Addr) → LineMatches L K k (Load to mask target addr) lines
  load_case L K k lines to mask target addr lines_match x t env place here spot left l h = by_parts (parts_of mask) (few_parts mask) step whole
    where
      line : Instr
      line = Load to mask target addr

      load_of : List ℕ → Step SourceState
      load_of parts = if is_empty parts then Quiet [] (at_line (suc k) x.regs x) else given (address s.program s.launch x.regs target addr) λ words. load_step k to (map (λ c. (c, option_map (place_of target) (words c))) parts) x

      step : (source s.program s.launch).step i x ≡ load_of (parts_of mask)
      step = at_instr s.program s.launch i b k block line x at here spot (drop_first block.instrs k line lines left)

      whole : PartsLeft s target addr (load_event to) (parts_of mask) lines env place end known
      whole = record { ready = l.ready.0.0; has = has_front s.made place (line_code s.context env place line) _ l.has; left = rest_left s line lines env place end known l }

      rest : drop (suc k) block.instrs ≡ lines
      rest = drop_next block.instrs k line lines left

      by_address : (part : ℕ) (parts : List ℕ) → length (part ∷ parts) ≤ 4 → (source s.program s.launch).step i x ≡ load_of (part ∷ parts) → PartsLeft s target addr (load_event to) (part ∷ parts) lines env place end known → (o : Option Words) → address s.program s.launch x.regs target addr ≡ o → Match s R (4 + L) (end - place + suc K) i x t
      by_address part parts few e left' None none = wrong_here L K place x t (e ∙ given_none (address s.program s.launch x.regs target addr) (λ words. load_step k to (map (λ c. (c, option_map (place_of target) (words c))) (part ∷ parts)) x) none)
      by_address part parts few e left' (Some words) some =
          let first = e ∙ given_some (address s.program s.launch x.regs target addr) (λ words. load_step k to (map (λ c. (c, option_map (place_of target) (words c))) (part ∷ parts)) x) words some in
          with_room SourceState State (source s.program s.launch) (machine s) R (length (part ∷ parts) + L) (end - place + suc K) (4 + L) (end - place + suc K) i x t (omega (arith, few)) (omega arith) (parts_load s d sound fits b block end known at i R closed L K k to target addr words part parts lines env place x t few lines_match here first l.ready.0.1 some rest left' h)

      by_parts : (parts : List ℕ) → length parts ≤ 4 → (source s.program s.launch).step i x ≡ load_of parts → PartsLeft s target addr (load_event to) parts lines env place end known → Match s R (4 + L) (end - place + suc K) i x t
      by_parts [] few e left' =
          let same : place + 0 ≡ place = omega arith in
          let c : Comes s i 0 env place x.regs t = record { n = 0; few = omega arith; t' = t; leads = leads_none (machine s) i t; held = h } in
          let near = step_near s R L (end - place + suc K) i 0 env place x.regs x (at_line (suc k) x.regs x) t e c (λ t' h'. lines_match (at_line (suc k) x.regs x) t' env place here refl rest (subst (λ m. Left s lines env m end known) same left'.left) h') in
          with_room SourceState State (source s.program s.launch) (machine s) R (suc L) (0 + (end - place + suc K)) (4 + L) (end - place + suc K) i x t (omega arith) (omega arith) near
      by_parts (part ∷ parts) few e left' = by_address part parts few e left' (address s.program s.launch x.regs target addr) refl

  store_case : (L K k : ℕ) (lines : List Instr) (mask : ℕ) (target : Target) (addr : Addr) (a c e f : Operand) → LineMatches L K k (Store mask target addr a c e f) lines
  store_case L K k lines mask target addr a c e f lines_match x t env place here spot left l h = by_address (address s.program s.launch x.regs target addr) refl
    where
      line : Instr
      line = Store mask target addr a c e f

      values : Words → List ℕ → List (Option Place × Option ℕ)
      values words parts = map (λ n. (option_map (place_of target) (words n), number_of x.regs (pick n a c e f))) parts

      on_values : List ℕ → Words → Step SourceState
      on_values parts words = given (with_values (values words parts)) λ parts. store_step k parts x

      step : (source s.program s.launch).step i x ≡ given (address s.program s.launch x.regs target addr) (on_values (parts_of mask))
      step = at_instr s.program s.launch i b k block line x at here spot (drop_first block.instrs k line lines left)

      rest : drop (suc k) block.instrs ≡ lines
      rest = drop_next block.instrs k line lines left

      by_values : (part : ℕ) (parts : List ℕ) (words : Words) → length (part ∷ parts) ≤ 4 → address s.program s.launch x.regs target addr ≡ Some words → (source s.program s.launch).step i x ≡ on_values (part ∷ parts) words → PartsLeft s target addr (store_event a c e f) (part ∷ parts) lines env place end known → (o : Option (List (Option Place × ℕ))) → with_values (values words (part ∷ parts)) ≡ o → Match s R (4 + L) (end - place + suc K) i x t
      by_values part parts words few is eq left' None none = wrong_here L K place x t (eq ∙ given_none (with_values (values words (part ∷ parts))) (λ parts. store_step k parts x) none)
      by_values part parts words few is eq left' (Some vs) some =
          with_room SourceState State (source s.program s.launch) (machine s) R (length (part ∷ parts) + L) (end - place + suc K) (4 + L) (end - place + suc K) i x t (omega (arith, few)) (omega arith) (parts_store s d sound fits b block end known at i R closed a c e f L K k target addr words part parts vs lines env place x t few lines_match here some (eq ∙ given_some (with_values (values words (part ∷ parts))) (λ parts. store_step k parts x) vs some) is rest left' h)

      by_parts : (parts : List ℕ) (words : Words) → length parts ≤ 4 → parts ≢ [] → address s.program s.launch x.regs target addr ≡ Some words → (source s.program s.launch).step i x ≡ on_values parts words → PartsLeft s target addr (store_event a c e f) parts lines env place end known → Match s R (4 + L) (end - place + suc K) i x t
      by_parts [] words few some is eq left' = absurd (some refl)
      by_parts (part ∷ parts) words few some is eq left' = by_values part parts words few is eq left' (with_values (values words (part ∷ parts))) refl

      by_address : (o : Option Words) → address s.program s.launch x.regs target addr ≡ o → Match s R (4 + L) (end - place + suc K) i x t
      by_address None e' = wrong_here L K place x t (step ∙ given_none (address s.program s.launch x.regs target addr) (on_values (parts_of mask)) e')
      by_address (Some words) e' = by_parts (parts_of mask) words (few_parts mask) l.ready.0.1 e' (step ∙ given_some (address s.program s.launch x.regs target addr) (on_values (parts_of mask)) words e') (record { ready = l.ready.0.0; has = has_front s.made place (line_code s.context env place line) _ l.has; left = rest_left s line lines env place end known l })

  -- ---- barriers

  barrier_acts : (sync : Bool) (scope : Scope) (uav shared : Bool) (env : Env) (place : ℕ) (regs : Registers) (t : State) → BarrierReady s sync scope uav shared → Held s env place regs t → Has s.made place (line_code s.context env place (Barrier sync scope uav shared)) → (machine s).step i t ≡ Acts (launch.Barrier sync scope uav shared) (λ answer. next t)
  barrier_acts true scope uav shared env place regs t ready h has =
      let c = s.context in
      let word = λ (n : ℕ) (uses : Uses s (global.Number n)). ap as_word (fixed_here s t (number c n) (Word n) (d.numbers n uses)) in
      let operands : List ℕ = number c 2 ∷ number c (barrier_scope scope) ∷ number c (barrier_semantics uav shared) ∷ [] in
      let does : act s.made s.bindings s.launch i (Fences true) operands t ≡ Acts (launch.Barrier true scope uav shared) (λ answer. next t) = ap (λ o. if is_some_at o 2 then barrier_step true (word_of s.made t (number c (barrier_scope scope))) (word_of s.made t (number c (barrier_semantics uav shared))) t else Wrong) (word 2 (ready.group refl)) ∙ ap (λ o. barrier_step true o (word_of s.made t (number c (barrier_semantics uav shared))) t) (word (barrier_scope scope) ready.scope_uses) ∙ ap (λ o. barrier_step true (Some (barrier_scope scope)) o t) (word (barrier_semantics uav shared) ready.semantics) ∙ barrier_gives true scope uav shared t ready.is in
      acts_one s i t place 224 operands (Fences true) (Acts (launch.Barrier true scope uav shared) (λ answer. next t)) h.at has.0 refl does
  barrier_acts false scope uav shared env place regs t ready h has =
      let c = s.context in
      let word = λ (n : ℕ) (uses : Uses s (global.Number n)). ap as_word (fixed_here s t (number c n) (Word n) (d.numbers n uses)) in
      let operands : List ℕ = number c (barrier_scope scope) ∷ number c (barrier_semantics uav shared) ∷ [] in
      let does : act s.made s.bindings s.launch i (Fences false) operands t ≡ Acts (launch.Barrier false scope uav shared) (λ answer. next t) = ap (λ o. barrier_step false o (word_of s.made t (number c (barrier_semantics uav shared))) t) (word (barrier_scope scope) ready.scope_uses) ∙ ap (λ o. barrier_step false (Some (barrier_scope scope)) o t) (word (barrier_semantics uav shared) ready.semantics) ∙ barrier_gives false scope uav shared t ready.is in
      acts_one s i t place 225 operands (Fences false) (Acts (launch.Barrier false scope uav shared) (λ answer. next t)) h.at has.0 refl does

  one_inst : (sync : Bool) (scope : Scope) (uav shared : Bool) (env : Env) (place : ℕ) → length (line_code s.context env place (Barrier sync scope uav shared)) ≡ 1
  one_inst true scope uav shared env place = refl
  one_inst false scope uav shared env place = refl

  barrier_case : (L K k : ℕ) (lines : List Instr) (sync : Bool) (scope : Scope) (uav shared : Bool) → LineMatches L K k (Barrier sync scope uav shared) lines
  barrier_case L K k lines sync scope uav shared lines_match x t env place here spot left l h =
      let line : Instr = Barrier sync scope uav shared in
      let step = at_instr s.program s.launch i b k block line x at here spot (drop_first block.instrs k line lines left) in
      let does = barrier_acts sync scope uav shared env place x.regs t l.ready.0 h (has_front s.made place (line_code s.context env place line) _ l.has) in
      let behind : Left s lines env (place + length (line_code s.context env place line)) end known = rest_left s line lines env place end known l in
      let size : length (line_code s.context env place line) ≡ 1 = one_inst sync scope uav shared env place in
      let behind1 : Left s lines env (place + 1) end known = subst (λ n. Left s lines env (place + n) end known) size behind in
      let x' : SourceState = at_line (suc k) x.regs x in
      let near : Nears s i env (place + 1) x.regs (next t) = record { n = 0; few = omega arith; t' = next t; leads = leads_none (machine s) i (next t); held = held_next s env place x.regs t h } in
      acts 0 0 x t (launch.Barrier sync scope uav shared) (λ answer. x') (λ answer. next t) (omega arith) (omega arith) (leads_none (source s.program s.launch) i x) step (leads_none (machine s) i t) does (λ answer. closed x' (next t) (inside_line (suc k) lines env (place + 1) here refl (drop_next block.instrs k line lines left) behind1 near))

  -- ---- all lines

  line_case : (L K k : ℕ) (line : Instr) (lines : List Instr) → LineMatches L K k line lines
  line_case L K k (Bin to op type a c) lines = quiet_case L K k (Bin to op type a c) lines (λ env r. r)
  line_case L K k (Cmp to op type a c) lines = quiet_case L K k (Cmp to op type a c) lines (λ env r. r)
  line_case L K k (Cast to op a) lines = quiet_case L K k (Cast to op a) lines (λ env r. r)
  line_case L K k (Select to type c a e) lines = quiet_case L K k (Select to type c a e) lines (λ env r. r)
  line_case L K k (Copy to type a) lines = quiet_case L K k (Copy to type a) lines (λ env r. r)
  line_case L K k (One to op a) lines = quiet_case L K k (One to op a) lines (λ env r. r)
  line_case L K k (Two to op a c) lines = quiet_case L K k (Two to op a c) lines (λ env r. r)
  line_case L K k (Mad to a c e) lines = quiet_case L K k (Mad to a c e) lines (λ env r. r)
  line_case L K k (Id to op part) lines = quiet_case L K k (Id to op part) lines (λ env r. r)
  line_case L K k (Size to buffer) lines = quiet_case L K k (Size to buffer) lines (λ env r. r)
  line_case L K k Nothing lines = quiet_case L K k Nothing lines (λ env r. r)
  line_case L K k (Load to mask target addr) lines = load_case L K k lines to mask target addr
  line_case L K k (Store mask target addr a c e f) lines = store_case L K k lines mask target addr a c e f
  line_case L K k (Atomic to op target addr value) lines = atomic_case L K k lines to op target addr value
  line_case L K k (Swap to target addr compare value) lines = swap_case L K k lines to target addr compare value
  line_case L K k (Barrier sync scope uav shared) lines = barrier_case L K k lines sync scope uav shared

  pub lines_match : (L K : ℕ) → ((k : ℕ) (x : SourceState) (state : State) → x.block ≡ b → x.spot ≡ Line k → slice_get block.instrs k ≡ None → Held s known end x.regs state → Match s R L K i x state) → (lines : List Instr) (k : ℕ) → LinesMatch s d sound fits b block end known at i R closed (4 * length lines + L) K k lines
  lines_match L K ends [] k x t env place here spot left l h =
      let same : place ≡ end = omega (arith, l.ends) in
      let held = subst (λ e. Held s e end x.regs t) l.knows (held_at s env place end x.regs t same h) in
      with_room SourceState State (source s.program s.launch) (machine s) R L K (4 * length {A = Instr} [] + L) (end - place + suc K) i x t (omega arith) (omega arith) (ends k x t here spot (drop_none block.instrs k left) held)
  lines_match L K ends (line ∷ lines) k x t env place here spot left l h =
      in_steps s R (4 + (4 * length lines + L)) (4 * length (line ∷ lines) + L) (end - place + suc K) i x t (omega arith) (line_case (4 * length lines + L) K k line lines (lines_match L K ends lines (suc k)) x t env place here spot left l h)
