-- The parts of a store, one after the other.
use Rattle.std.proofs.Common.{◌≡◌, ℕ, suc, ◌+◌, ◌-◌, ◌≤◌, ◌<◌, List, [], ◌∷◌, length, drop, Option, Some, None, refl, sym, ap, ◌∙◌, subst, arith}
use Rattle.std.specs.Prelude.{slice_get, map, option_map}
use Rattle.dxil_form.specs.declared.value.Operand.{Operand}
use Rattle.dxil_form.specs.declared.instr.Addr.{Addr}
use Rattle.dxil_form.specs.declared.instr.Target.{Target}
use Rattle.dxil_form.specs.declared.instr.Instr.{Instr}
use Rattle.dxil_form.specs.declared.block.Block.{Block}
use Rattle.dxil_form.specs.Registers.{pick}
use Rattle.dxil_form.specs.Sound.{Sound}
use Rattle.spv_form.specs.declared.module.Inst.{Inst}
use Rattle.dxil_meaning.specs.Fits.{Fits}
use Rattle.dxil_meaning.specs.Launches.{Place}
use Rattle.dxil_meaning.specs.Launches as launch
use Rattle.dxil_meaning.specs.Steps.{acts}
use Rattle.dxil_meaning.proofs.Simulation.{leads_none}
use Rattle.dxil_meaning.proofs.Budget.{with_room}
use Rattle.dxil_meaning.specs.Source.{Registers, Words, State as SourceState, Storing, address, place_of, number_of, source, store_step, stores, with_values}
use Rattle.spirv_meaning.specs.Target.{State}
use Rattle.spirv_code.specs.Reads.{Env}
use Rattle.spirv_code.specs.Accesses.{part_code, part_env}
use Rattle.spirv_code.specs.Lines.{store_event}
use Rattle.line_runs.specs.Held.{Setting, Held, machine}
use Rattle.line_runs.specs.Declared.{Declares}
use Rattle.line_runs.proofs.Tests.{some_inj}
use Rattle.line_runs.proofs.Pieces.{has_front}
use Rattle.line_runs.proofs.Whole.{both_some}
use Rattle.access_runs.specs.Parts.{PartRuns}
use Rattle.access_runs.proofs.Whole.{part_runs}
use Rattle.block_runs.specs.Inside.{Left, PartsLeft, Nears, Inside, at_line as inside_line, at_storing}
use Rattle.block_runs.specs.Laws.{Match}
use Rattle.block_runs.proofs.Sources.{in_block}
use Rattle.block_runs.proofs.Loads.{LinesMatch, step_near, in_steps, comes_room, behind_part, part_below}

module _ (s : Setting) (d : Declares s) (sound : Sound s.program) (fits : Fits s.program s.launch) (b : ℕ) (block : Block) (end : ℕ) (known : Env) (at : slice_get s.program.blocks b ≡ Some block) (i : ℕ) (R : ℕ → SourceState → State → Type 0) (closed : (x : SourceState) (state : State) → Inside s b block end known i x state → R i x state) (a c e f : Operand) where
  -- the parts with their places and their values
  abbrev values_of : Target → Words → Registers → List ℕ → List (Option Place × Option ℕ)
  values_of t words regs parts =
      map (λ n. (option_map (place_of t) (words n), number_of regs (pick n a c e f))) parts

  -- a value of a part that is stored is defined, and so are those of the other parts
  pub record Valued (t : Target) (words : Words) (regs : Registers) (part : ℕ) (parts : List ℕ) (left : List (Option Place × ℕ)) : Type 0 where
    pub value : ℕ
    pub rest : List (Option Place × ℕ)
    pub is : number_of regs (pick part a c e f) ≡ Some value
    pub others : with_values (values_of t words regs parts) ≡ Some rest
    pub whole : (option_map (place_of t) (words part), value) ∷ rest ≡ left

  valued : (t : Target) (words : Words) (regs : Registers) (part : ℕ) (parts : List ℕ) (left : List (Option Place × ℕ)) → with_values (values_of t words regs (part ∷ parts)) ≡ Some left → Valued t words regs part parts left
  valued t words regs part parts left e' =
      let v = both_some (λ n ps. Some ((option_map (place_of t) (words part), n) ∷ ps)) (number_of regs (pick part a c e f)) (with_values (values_of t words regs parts)) left e' in
      record { value = v.0; rest = v.1; is = v.2; others = v.3; whole = some_inj v.4 }

  none_left : (t : Target) (words : Words) (regs : Registers) (left : List (Option Place × ℕ)) → with_values (values_of t words regs []) ≡ Some left → left ≡ []
  none_left t words regs left e' = sym (some_inj e')

  -- the state behind a part, where the module's machine comes to the next part or line
  stored_inside : (k : ℕ) (t : Target) (addr : Addr) (words : Words) (parts : List ℕ) (left : List (Option Place × ℕ)) (lines : List Instr) (env : Env) (place : ℕ) (x : SourceState) (state : State) → length parts ≤ 4 → x.block ≡ b → with_values (values_of t words x.regs parts) ≡ Some left → address s.program s.launch x.regs t addr ≡ Some words → drop (suc k) block.instrs ≡ lines → PartsLeft s t addr (store_event a c e f) parts lines env place end known → Nears s i env place x.regs state → Inside s b block end known i (stores k left x) state
  stored_inside k t addr words [] left lines env place x state few here are is rest l near =
      let same : place + 0 ≡ place = omega arith in
      let none : [] ≡ left = some_inj are in
      subst (λ ps. Inside s b block end known i (stores k ps x) state) none (inside_line (suc k) lines env place here refl rest (subst (λ m. Left s lines env m end known) same l.left) near)
  stored_inside k t addr words (part ∷ parts) left lines env place x state few here are is rest l near =
      let v = valued t words x.regs part parts left are in
      subst (λ ps. Inside s b block end known i (stores k ps x) state) v.whole (at_storing k t addr words a c e f part parts ((option_map (place_of t) (words part), v.value) ∷ v.rest) lines env place few here refl (are ∙ ap Some (sym v.whole)) is rest l near)

  one_store : (L K k : ℕ) (t : Target) (addr : Addr) (words : Words) (part : ℕ) (parts : List ℕ) (left : List (Option Place × ℕ)) (lines : List Instr) (env : Env) (place : ℕ) (x : SourceState) (state : State) → length (part ∷ parts) ≤ 4 → x.block ≡ b → (v : Valued t words x.regs part parts left) → (source s.program s.launch).step i x ≡ store_step k left x → address s.program s.launch x.regs t addr ≡ Some words → drop (suc k) block.instrs ≡ lines → PartsLeft s t addr (store_event a c e f) (part ∷ parts) lines env place end known → Held s env place x.regs state → ((t' : State) → Held s (part_env s.context env addr part (store_event a c e f part)) (place + length (part_code s.context env place t addr part (store_event a c e f part))) x.regs t' → Match s R L (end - (place + length (part_code s.context env place t addr part (store_event a c e f part))) + suc K) i (stores k v.rest x) t') → Match s R (suc L) (end - place + suc K) i x state
  one_store L K k t addr words part parts left lines env place x state few here v step is rest l h goes_on = by_word (words part) refl
    where
      code : List Inst
      code = part_code s.context env place t addr part (store_event a c e f part)

      env' : Env
      env' = part_env s.context env addr part (store_event a c e f part)

      place' : ℕ
      place' = place + length code

      back : PartsLeft s t addr (store_event a c e f) parts lines env' place' end known
      back = behind_part s t addr (store_event a c e f) part parts lines env place end known l

      runs : PartRuns s i t addr part (store_event a c e f part) env place x.regs words state
      runs = part_runs s d sound fits i t addr part (store_event a c e f part) env place x.regs words state l.ready.0 is h (has_front s.made place code _ l.has)

      below : place' ≤ end
      below = part_below s t addr (store_event a c e f) parts lines env' place' end known back

      step_is : (source s.program s.launch).step i x ≡ store_step k ((option_map (place_of t) (words part), v.value) ∷ v.rest) x
      step_is = step ∙ ap (λ ps. store_step k ps x) (sym v.whole)

      by_word : (o : Option ℕ) → words part ≡ o → Match s R (suc L) (end - place + suc K) i x state
      by_word (Some word) e' =
          let asks = ap (option_map (launch.Store (place_of t word))) v.is in
          let r = runs.inside word (launch.Store (place_of t word) v.value) e' asks in
          let does = step_is ∙ ap (λ o. store_step k ((option_map (place_of t) o, v.value) ∷ v.rest) x) e' in
          let room : r.n < end - place + suc K = omega (arith, r.few, below) in
          acts 0 r.n x r.t' (launch.Store (place_of t word) v.value) (λ answer. stores k v.rest x) r.next (omega arith) room (leads_none (source s.program s.launch) i x) does r.leads r.acts (λ answer. closed (stores k v.rest x) (r.next answer) (stored_inside k t addr words parts v.rest lines env' place' x (r.next answer) (omega (arith, few)) here v.others is rest back (comes_room s i (length code) place' env' place' x.regs (r.next answer) (omega arith) (r.then_comes answer))))
      by_word None e' =
          let does = step_is ∙ ap (λ o. store_step k ((option_map (place_of t) o, v.value) ∷ v.rest) x) e' in
          let near = step_near s R L (end - place' + suc K) i (length code) env' place' x.regs x (stores k v.rest x) state does (runs.outside e') goes_on in
          with_room SourceState State (source s.program s.launch) (machine s) R (suc L) (length code + (end - place' + suc K)) (suc L) (end - place + suc K) i x state (omega arith) (omega (arith, below)) near

  -- the parts of a store, from any of them on
  pub parts_store : (L K k : ℕ) (t : Target) (addr : Addr) (words : Words) (part : ℕ) (parts : List ℕ) (left : List (Option Place × ℕ)) (lines : List Instr) (env : Env) (place : ℕ) (x : SourceState) (state : State) → length (part ∷ parts) ≤ 4 → LinesMatch s d sound fits b block end known at i R closed L K (suc k) lines → x.block ≡ b → with_values (values_of t words x.regs (part ∷ parts)) ≡ Some left → (source s.program s.launch).step i x ≡ store_step k left x → address s.program s.launch x.regs t addr ≡ Some words → drop (suc k) block.instrs ≡ lines → PartsLeft s t addr (store_event a c e f) (part ∷ parts) lines env place end known → Held s env place x.regs state → Match s R (length (part ∷ parts) + L) (end - place + suc K) i x state
  parts_store L K k t addr words part [] left lines env place x state few lines_match here are step is rest l h =
      let env' : Env = part_env s.context env addr part (store_event a c e f part) in
      let place' : ℕ = place + length (part_code s.context env place t addr part (store_event a c e f part)) in
      let back = behind_part s t addr (store_event a c e f) part [] lines env place end known l in
      let same : place' + 0 ≡ place' = omega arith in
      let v = valued t words x.regs part [] left are in
      let none : [] ≡ v.rest = some_inj v.others in
      in_steps s R (suc L) (length (part ∷ []) + L) (end - place + suc K) i x state (omega arith) (one_store L K k t addr words part [] left lines env place x state few here v step is rest l h (λ t' h'. subst (λ ps. Match s R L (end - place' + suc K) i (stores k ps x) t') none (lines_match (stores k [] x) t' env' place' here refl rest (subst (λ m. Left s lines env' m end known) same back.left) h')))
  parts_store L K k t addr words part (p ∷ ps) left lines env place x state few lines_match here are step is rest l h =
      let env' : Env = part_env s.context env addr part (store_event a c e f part) in
      let place' : ℕ = place + length (part_code s.context env place t addr part (store_event a c e f part)) in
      let back = behind_part s t addr (store_event a c e f) part (p ∷ ps) lines env place end known l in
      let v = valued t words x.regs part (p ∷ ps) left are in
      let w = valued t words x.regs p ps v.rest v.others in
      let next : List (Option Place × ℕ) = (option_map (place_of t) (words p), w.value) ∷ w.rest in
      let x' : SourceState = stores k next x in
      in_steps s R (suc (length (p ∷ ps) + L)) (length (part ∷ p ∷ ps) + L) (end - place + suc K) i x state (omega arith) (one_store (length (p ∷ ps) + L) K k t addr words part (p ∷ ps) left lines env place x state few here v step is rest l h (λ t' h'. subst (λ l. Match s R (length (p ∷ ps) + L) (end - place' + suc K) i (stores k l x) t') w.whole (parts_store L K k t addr words p ps next lines env' place' x' t' (omega (arith, few)) lines_match here (v.others ∙ ap Some (sym w.whole)) (in_block s.program s.launch i b block (Storing k next) x' at here refl) is rest back h')))
