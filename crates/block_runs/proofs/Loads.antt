-- The parts of a load, one after the other.
use Rattle.std.proofs.Common.{◌≡◌, ℕ, suc, ◌+◌, ◌-◌, ◌≤◌, ◌<◌, List, [], ◌∷◌, ◌++◌, length, length-append, drop, Option, Some, None, refl, ap, ◌∙◌, subst, arith}
use Rattle.std.specs.Prelude.{slice_get, map, option_map}
use Rattle.dxil_form.specs.declared.instr.Addr.{Addr}
use Rattle.dxil_form.specs.declared.instr.Target.{Target}
use Rattle.dxil_form.specs.declared.instr.Instr.{Instr}
use Rattle.dxil_form.specs.declared.block.Block.{Block}
use Rattle.dxil_form.specs.Sound.{Sound}
use Rattle.spv_form.specs.declared.module.Inst.{Inst}
use Rattle.dxil_meaning.specs.Fits.{Fits}
use Rattle.dxil_meaning.specs.Launches.{Step, Quiet, Acts, Place, Machine}
use Rattle.dxil_meaning.specs.Launches as launch
use Rattle.dxil_meaning.specs.Steps.{acts}
use Rattle.dxil_meaning.proofs.Simulation.{leads_none, leads_step}
use Rattle.dxil_meaning.proofs.Budget.{with_room, prepend, catch_up}
use Rattle.dxil_meaning.specs.Source.{Registers, Words, Number, State as SourceState, Line, Loading, address, place_of, source, load_step, loads, with_reg}
use Rattle.spirv_meaning.specs.Target.{State}
use Rattle.spirv_code.specs.declared.event.Event.{Event}
use Rattle.spirv_code.specs.Reads.{Env}
use Rattle.spirv_code.specs.Accesses.{part_code, part_env}
use Rattle.spirv_code.specs.Lines.{parts_code, parts_env, load_event}
use Rattle.line_runs.specs.Held.{Setting, Held, machine}
use Rattle.line_runs.specs.Declared.{Declares}
use Rattle.line_runs.proofs.Pieces.{has_front, has_back}
use Rattle.access_runs.specs.Parts.{Comes, PartRuns}
use Rattle.access_runs.proofs.Whole.{part_runs}
use Rattle.block_runs.specs.Inside.{IsApart, Left, PartsLeft, part_at, Nears, Inside, at_line as inside_line, at_loading}
use Rattle.block_runs.specs.Laws.{Match}
use Rattle.block_runs.proofs.Sources.{in_block, apart_address}

-- after some quiet steps the module's machine is at the place, from where the states match
pub come_near : (s : Setting) (R : ℕ → SourceState → State → Type 0) (L K i size : ℕ) (env : Env) (place : ℕ) (x : SourceState) (t : State) → Comes s i size env place x.regs t → ((t' : State) → Held s env place x.regs t' → Match s R L K i x t') → Match s R L (size + K) i x t
come_near s R L K i size env place x t c matched =
    with_room SourceState State (source s.program s.launch) (machine s) R L (c.n + K) L (size + K) i x t (omega arith) (omega (arith, c.few)) (catch_up SourceState State (source s.program s.launch) (machine s) R L K c.n i x t c.t' c.leads (matched c.t' c.held))

-- the program's machine makes one quiet step, and the module's some
pub step_near : (s : Setting) (R : ℕ → SourceState → State → Type 0) (L K i size : ℕ) (env : Env) (place : ℕ) (regs : Registers) (x x' : SourceState) (t : State) → (source s.program s.launch).step i x ≡ Quiet [] x' → Comes s i size env place regs t → ((t' : State) → Held s env place regs t' → Match s R L K i x' t') → Match s R (suc L) (size + K) i x t
step_near s R L K i size env place regs x x' t is c matched =
    with_room SourceState State (source s.program s.launch) (machine s) R (suc L) (c.n + K) (suc L) (size + K) i x t (omega arith) (omega (arith, c.few)) (prepend SourceState State (source s.program s.launch) (machine s) R L K c.n i x x' t c.t' (leads_step (source s.program s.launch) i x [] x' is) c.leads (matched c.t' c.held))

-- the bound on the program's steps, written in another way
pub in_steps : (s : Setting) (R : ℕ → SourceState → State → Type 0) (L L' K i : ℕ) (x : SourceState) (t : State) → L ≡ L' → Match s R L K i x t → Match s R L' K i x t
in_steps s R L L' K i x t e m = subst (λ n. Match s R n K i x t) e m

-- more room for a way
pub comes_room : (s : Setting) (i n m : ℕ) (env : Env) (place : ℕ) (regs : Registers) (t : State) → n ≤ m → Comes s i n env place regs t → Comes s i m env place regs t
comes_room s i n m env place regs t le c =
    record { n = c.n; few = omega (arith, c.few, le); t' = c.t'; leads = c.leads; held = c.held }

-- what is left behind the first part
pub behind_part : (s : Setting) (t : Target) (addr : Addr) (event_of : ℕ → Event) (part : ℕ) (parts : List ℕ) (lines : List Instr) (env : Env) (place end : ℕ) (known : Env) → PartsLeft s t addr event_of (part ∷ parts) lines env place end known → PartsLeft s t addr event_of parts lines (part_env s.context env addr part (event_of part)) (place + length (part_code s.context env place t addr part (event_of part))) end known
behind_part s t addr event_of part parts lines env place end known left =
    let front : List Inst = part_code s.context env place t addr part (event_of part) in
    let env' : Env = part_env s.context env addr part (event_of part) in
    let place' : ℕ = place + length front in
    let back : List Inst = parts_code s.context env' place' t addr event_of parts in
    let e : place + length (front ++ back) ≡ place' + length back = omega (arith, length-append front back) in
    record {
      ready = left.ready.1;
      has = has_back s.made place front back left.has;
      left = subst (λ n. Left s lines (parts_env s.context env' addr event_of parts) n end known) e left.left;
    }

-- the place of the module rises with each part and line
pub part_below : (s : Setting) (t : Target) (addr : Addr) (event_of : ℕ → Event) (parts : List ℕ) (lines : List Instr) (env : Env) (place end : ℕ) (known : Env) → PartsLeft s t addr event_of parts lines env place end known → place ≤ end
part_below s t addr event_of parts lines env place end known left = omega (arith, left.left.ends)

module _ (s : Setting) (d : Declares s) (sound : Sound s.program) (fits : Fits s.program s.launch) (b : ℕ) (block : Block) (end : ℕ) (known : Env) (at : slice_get s.program.blocks b ≡ Some block) (i : ℕ) (R : ℕ → SourceState → State → Type 0) (closed : (x : SourceState) (state : State) → Inside s b block end known i x state → R i x state) where
  -- behind the parts the lines match
  abbrev pub LinesMatch : (L K : ℕ) → ℕ → List Instr → Type 0
  LinesMatch L K k lines =
      (x : SourceState) (t : State) (env : Env) (place : ℕ) → x.block ≡ b → x.spot ≡ Line k → drop k block.instrs ≡ lines → Left s lines env place end known → Held s env place x.regs t → Match s R L (end - place + suc K) i x t

  -- the state behind a part of a load, where the module's machine comes to the next part or line
  loaded_inside : (k to c n : ℕ) (t : Target) (addr : Addr) (words : Words) (parts : List ℕ) (lines : List Instr) (env : Env) (place : ℕ) (x : SourceState) (state : State) → length parts ≤ 4 → x.block ≡ b → IsApart addr to → address s.program s.launch x.regs t addr ≡ Some words → drop (suc k) block.instrs ≡ lines → PartsLeft s t addr (load_event to) parts lines env place end known → Nears s i env place (with_reg to c (Some (Number n)) x.regs) state → Inside s b block end known i (loads k to (map (part_at t words) parts) (with_reg to c (Some (Number n)) x.regs) x) state
  loaded_inside k to c n t addr words [] lines env place x state few here apart is rest left near =
      let e : place + 0 ≡ place = omega arith in
      inside_line (suc k) lines env place here refl rest (subst (λ m. Left s lines env m end known) e left.left) near
  loaded_inside k to c n t addr words (part ∷ parts) lines env place x state few here apart is rest left near =
      at_loading k to t addr words part parts lines env place few here refl apart (apart_address s.program s.launch x.regs to c (Some (Number n)) t addr apart ∙ is) rest left near

  -- one part of a load; `goes_on` is what follows where it is out of range
  one_load : (L K k to : ℕ) (t : Target) (addr : Addr) (words : Words) (part : ℕ) (parts : List ℕ) (lines : List Instr) (env : Env) (place : ℕ) (x : SourceState) (state : State) → length (part ∷ parts) ≤ 4 → x.block ≡ b → (source s.program s.launch).step i x ≡ load_step k to (map (part_at t words) (part ∷ parts)) x → IsApart addr to → address s.program s.launch x.regs t addr ≡ Some words → drop (suc k) block.instrs ≡ lines → PartsLeft s t addr (load_event to) (part ∷ parts) lines env place end known → Held s env place x.regs state → ((t' : State) → Held s (part_env s.context env addr part (load_event to part)) (place + length (part_code s.context env place t addr part (load_event to part))) (with_reg to part (Some (Number 0)) x.regs) t' → Match s R L (end - (place + length (part_code s.context env place t addr part (load_event to part))) + suc K) i (loads k to (map (part_at t words) parts) (with_reg to part (Some (Number 0)) x.regs) x) t') → Match s R (suc L) (end - place + suc K) i x state
  one_load L K k to t addr words part parts lines env place x state few here step apart is rest left h goes_on = by_word (words part) refl
    where
      code : List Inst
      code = part_code s.context env place t addr part (load_event to part)

      env' : Env
      env' = part_env s.context env addr part (load_event to part)

      place' : ℕ
      place' = place + length code

      back : PartsLeft s t addr (load_event to) parts lines env' place' end known
      back = behind_part s t addr (load_event to) part parts lines env place end known left

      runs : PartRuns s i t addr part (load_event to part) env place x.regs words state
      runs = part_runs s d sound fits i t addr part (load_event to part) env place x.regs words state left.ready.0 is h (has_front s.made place code _ left.has)

      below : place' ≤ end
      below = part_below s t addr (load_event to) parts lines env' place' end known back

      after : ℕ → SourceState
      after n = loads k to (map (part_at t words) parts) (with_reg to part (Some (Number n)) x.regs) x

      by_word : (o : Option ℕ) → words part ≡ o → Match s R (suc L) (end - place + suc K) i x state
      by_word (Some word) e =
          let a = runs.inside word (launch.Load (place_of t word)) e refl in
          let does = step ∙ ap (λ o. load_step k to ((part, option_map (place_of t) o) ∷ map (part_at t words) parts) x) e in
          let room : a.n < end - place + suc K = omega (arith, a.few, below) in
          acts 0 a.n x a.t' (launch.Load (place_of t word)) after a.next (omega arith) room (leads_none (source s.program s.launch) i x) does a.leads a.acts (λ answer. closed (after answer) (a.next answer) (loaded_inside k to part answer t addr words parts lines env' place' x (a.next answer) (omega (arith, few)) here apart is rest back (comes_room s i (length code) place' env' place' (with_reg to part (Some (Number answer)) x.regs) (a.next answer) (omega arith) (a.then_comes answer))))
      by_word None e =
          let does = step ∙ ap (λ o. load_step k to ((part, option_map (place_of t) o) ∷ map (part_at t words) parts) x) e in
          let near = step_near s R L (end - place' + suc K) i (length code) env' place' (with_reg to part (Some (Number 0)) x.regs) x (after 0) state does (runs.outside e) goes_on in
          with_room SourceState State (source s.program s.launch) (machine s) R (suc L) (length code + (end - place' + suc K)) (suc L) (end - place + suc K) i x state (omega arith) (omega (arith, below)) near

  -- the parts of a load, from any of them on
  pub parts_load : (L K k to : ℕ) (t : Target) (addr : Addr) (words : Words) (part : ℕ) (parts : List ℕ) (lines : List Instr) (env : Env) (place : ℕ) (x : SourceState) (state : State) → length (part ∷ parts) ≤ 4 → LinesMatch L K (suc k) lines → x.block ≡ b → (source s.program s.launch).step i x ≡ load_step k to (map (part_at t words) (part ∷ parts)) x → IsApart addr to → address s.program s.launch x.regs t addr ≡ Some words → drop (suc k) block.instrs ≡ lines → PartsLeft s t addr (load_event to) (part ∷ parts) lines env place end known → Held s env place x.regs state → Match s R (length (part ∷ parts) + L) (end - place + suc K) i x state
  parts_load L K k to t addr words part [] lines env place x state few lines_match here step apart is rest left h =
      let env' : Env = part_env s.context env addr part (load_event to part) in
      let place' : ℕ = place + length (part_code s.context env place t addr part (load_event to part)) in
      let back = behind_part s t addr (load_event to) part [] lines env place end known left in
      let e : place' + 0 ≡ place' = omega arith in
      in_steps s R (suc L) (length (part ∷ []) + L) (end - place + suc K) i x state (omega arith) (one_load L K k to t addr words part [] lines env place x state few here step apart is rest left h (λ t' h'. lines_match (loads k to [] (with_reg to part (Some (Number 0)) x.regs) x) t' env' place' here refl rest (subst (λ m. Left s lines env' m end known) e back.left) h'))
  parts_load L K k to t addr words part (p ∷ ps) lines env place x state few lines_match here step apart is rest left h =
      let env' : Env = part_env s.context env addr part (load_event to part) in
      let place' : ℕ = place + length (part_code s.context env place t addr part (load_event to part)) in
      let back = behind_part s t addr (load_event to) part (p ∷ ps) lines env place end known left in
      let x' : SourceState = loads k to (map (part_at t words) (p ∷ ps)) (with_reg to part (Some (Number 0)) x.regs) x in
      in_steps s R (suc (length (p ∷ ps) + L)) (length (part ∷ p ∷ ps) + L) (end - place + suc K) i x state (omega arith) (one_load (length (p ∷ ps) + L) K k to t addr words part (p ∷ ps) lines env place x state few here step apart is rest left h (λ t' h'. parts_load L K k to t addr words p ps lines env' place' x' t' (omega (arith, few)) lines_match here (in_block s.program s.launch i b block (Loading k to (map (part_at t words) (p ∷ ps))) x' at here refl) apart (apart_address s.program s.launch x.regs to part (Some (Number 0)) t addr apart ∙ is) rest back h'))
