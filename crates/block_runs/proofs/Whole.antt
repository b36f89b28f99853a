-- All states between two events of a block match.
use Rattle.std.proofs.Common.{◌≡◌, ℕ, suc, ◌+◌, ◌-◌, ◌*◌, ◌≤◌, List, ◌∷◌, length, length-drop, drop, Some, None, ap, arith}
use Rattle.std.specs.Prelude.{slice_get, map}
use Rattle.dxil_form.specs.declared.block.Block.{Block}
use Rattle.dxil_form.specs.Sound.{Sound}
use Rattle.dxil_meaning.specs.Fits.{Fits}
use Rattle.dxil_meaning.proofs.Budget.{with_room}
use Rattle.dxil_meaning.specs.Source.{State as SourceState, Line, Loading, Storing, source}
use Rattle.spirv_meaning.specs.Target.{State}
use Rattle.spirv_code.specs.Reads.{Env}
use Rattle.line_runs.specs.Held.{Setting, Held, machine}
use Rattle.line_runs.specs.Declared.{Declares}
use Rattle.spirv_code.specs.Lines.{load_event, store_event}
use Rattle.block_runs.specs.Inside.{Inside, part_at, at_line, at_loading, at_storing}
use Rattle.block_runs.specs.Laws.{Match}
use Rattle.block_runs.proofs.Sources.{in_block}
use Rattle.block_runs.proofs.Loads.{come_near, parts_load, part_below}
use Rattle.block_runs.proofs.Stores.{parts_store}
use Rattle.block_runs.proofs.Lines.{lines_match, left_below}

fewer : {A : Type 0} (xs : List A) (k : ℕ) (ys : List A) → drop k xs ≡ ys → length ys ≤ length xs
fewer xs k ys e =
    let left : length (drop k xs) ≡ length ys = ap length e in
    omega (arith, left, length-drop k xs)

-- Let what leaves the block match: where all lines are done, and the module's machine holds the registers behind their code. Then all states between two events of the block match, with four steps more for each line, and as many as the code's last place has.
abbrev BlocksRun : Type 1
BlocksRun =
    (s : Setting) → Declares s → Sound s.program → Fits s.program s.launch → (b : ℕ) (block : Block) (end : ℕ) (known : Env) → slice_get s.program.blocks b ≡ Some block → (i L K : ℕ) (R : ℕ → SourceState → State → Type 0) → ((x : SourceState) (state : State) → Inside s b block end known i x state → R i x state) → ((k : ℕ) (x : SourceState) (state : State) → x.block ≡ b → x.spot ≡ Line k → slice_get block.instrs k ≡ None → Held s known end x.regs state → Match s R L K i x state) → (x : SourceState) (state : State) → Inside s b block end known i x state → Match s R (4 * length block.instrs + 4 + L) (end + suc K) i x state

pub blocks_run : BlocksRun
blocks_run s d sound fits b block end known at i L K R closed ends x state (at_line k lines env place here spot left l near) =
    let fits_in : length lines ≤ length block.instrs = fewer block.instrs k lines left in
    let below : place ≤ end = left_below s lines env place end known l in
    let whole = come_near s R (4 * length lines + L) (end - place + suc K) i place env place x state near (λ t' h'. lines_match s d sound fits b block end known at i R closed L K ends lines k x t' env place here spot left l h') in
    with_room SourceState State (source s.program s.launch) (machine s) R (4 * length lines + L) (place + (end - place + suc K)) (4 * length block.instrs + 4 + L) (end + suc K) i x state (omega (arith, fits_in)) (omega (arith, below)) whole
blocks_run s d sound fits b block end known at i L K R closed ends x state (at_loading k to t addr words part parts lines env place few here spot apart is left l near) =
    let fits_in : length lines ≤ length block.instrs = fewer block.instrs (suc k) lines left in
    let below : place ≤ end = part_below s t addr (load_event to) (part ∷ parts) lines env place end known l in
    let step = in_block s.program s.launch i b block (Loading k to (map (part_at t words) (part ∷ parts))) x at here spot in
    let whole = come_near s R (length (part ∷ parts) + (4 * length lines + L)) (end - place + suc K) i place env place x state near (λ t' h'. parts_load s d sound fits b block end known at i R closed (4 * length lines + L) K k to t addr words part parts lines env place x t' few (lines_match s d sound fits b block end known at i R closed L K ends lines (suc k)) here step apart is left l h') in
    with_room SourceState State (source s.program s.launch) (machine s) R (length (part ∷ parts) + (4 * length lines + L)) (place + (end - place + suc K)) (4 * length block.instrs + 4 + L) (end + suc K) i x state (omega (arith, fits_in, few)) (omega (arith, below)) whole
blocks_run s d sound fits b block end known at i L K R closed ends x state (at_storing k t addr words a c e f part parts vs lines env place few here spot are is left l near) =
    let fits_in : length lines ≤ length block.instrs = fewer block.instrs (suc k) lines left in
    let below : place ≤ end = part_below s t addr (store_event a c e f) (part ∷ parts) lines env place end known l in
    let step = in_block s.program s.launch i b block (Storing k vs) x at here spot in
    let whole = come_near s R (length (part ∷ parts) + (4 * length lines + L)) (end - place + suc K) i place env place x state near (λ t' h'. parts_store s d sound fits b block end known at i R closed a c e f (4 * length lines + L) K k t addr words part parts vs lines env place x t' few (lines_match s d sound fits b block end known at i R closed L K ends lines (suc k)) here are step is left l h') in
    with_room SourceState State (source s.program s.launch) (machine s) R (length (part ∷ parts) + (4 * length lines + L)) (place + (end - place + suc K)) (4 * length block.instrs + 4 + L) (end + suc K) i x state (omega (arith, fits_in, few)) (omega (arith, below)) whole
