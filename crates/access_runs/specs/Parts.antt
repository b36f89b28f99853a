-- What the code of one part of an access does.
use Rattle.std.specs.Prelude.{◌≡◌, ℕ, ◌+◌, ◌-◌, ◌*◌, ◌/◌, ◌≤◌, Bool, false, [], length, nat_eq, Option, Some, None, option_map, slice_get, slice_index}
use Rattle.dxil_form.specs.declared.value.Ty.TheVariants as ty
use Rattle.dxil_form.specs.declared.value.Reg.{Reg}
use Rattle.dxil_form.specs.declared.instr.Addr.{Addr}
use Rattle.dxil_form.specs.declared.instr.Addr.TheVariants.{Byte, Element, Row, Index}
use Rattle.dxil_form.specs.declared.instr.Target.{Target}
use Rattle.dxil_form.specs.declared.instr.Target.TheVariants as target
use Rattle.dxil_form.specs.declared.program.Resource.{Resource}
use Rattle.dxil_form.specs.declared.program.Kind.TheVariants as kind
use Rattle.dxil_meaning.specs.Launches.{Ask, Acts, Place}
use Rattle.dxil_meaning.specs.Launches as launch
use Rattle.dxil_form.specs.Sound.{Sound}
use Rattle.dxil_meaning.specs.Fits.{Fits}
use Rattle.dxil_meaning.specs.Steps.{Leads}
use Rattle.dxil_meaning.specs.Source.{Registers, Words, address, rows_at, number_of, place_of, with_reg, on_both}
use Rattle.dxil_meaning.specs.Source as source
use Rattle.spirv_meaning.specs.Target.{State}
use Rattle.spirv_code.specs.declared.key.Sort.TheVariants as sort
use Rattle.spirv_code.specs.declared.key.Global.TheVariants as global
use Rattle.spirv_code.specs.declared.event.Event.{Event}
use Rattle.spirv_code.specs.declared.event.Event.TheVariants.{Load, Store, Atomic, Swap}
use Rattle.spirv_code.specs.Reads.{Env, no_register}
use Rattle.spirv_code.specs.Accesses.{is_never, part_code, part_env, scope_of}
use Rattle.line_runs.specs.Held.{Setting, Held, Has, Uses, machine}
use Rattle.line_runs.specs.Declared.{Declares}
use Rattle.line_runs.specs.Ready.{Ready, IsSet}

-- ---- what a part asks of what is declared and of the registers that have variables

-- the address fits its target, and the numbers of its test and of its chain are declared
abbrev pub AddrReady : Setting → Target → Addr → ℕ → Type 0
AddrReady s (target.Buffer r) (Byte at) part =
    ((resource : Resource) × (slice_get s.program.resources r ≡ Some resource) × (resource.kind ≡ kind.Raw)) × Uses s (global.Buffer r) × Ready s no_register at ty.Int × Uses s (global.Number 2) × Uses s (global.Number 0) × Uses s (global.Number part)
AddrReady s (target.Buffer r) (Element index at stride) part =
    ((resource : Resource) × (slice_get s.program.resources r ≡ Some resource) × (resource.kind ≡ kind.Structured stride)) × Uses s (global.Buffer r) × Ready s no_register index ty.Int × Ready s no_register at ty.Int × Uses s (global.Number 2) × Uses s (global.Number 0) × Uses s (global.Number part) × Uses s (global.Number (stride / 4)) × Uses s (global.Number (stride - (4 + 4 * part)))
AddrReady s (target.Buffer r) (Row index) part =
    ((resource : Resource) × (rows : ℕ) × (slice_get s.program.resources r ≡ Some resource) × (resource.kind ≡ kind.Constant rows)) × Uses s (global.Buffer r) × Ready s no_register index ty.Int × Uses s (global.Number (s.context.limit (target.Buffer r))) × Uses s (global.Number 0) × Uses s (global.Number part)
AddrReady s (target.Shared a) (Index index) part =
    Uses s (global.Shared a) × Ready s no_register index ty.Int × Uses s (global.Number (s.context.limit (target.Shared a)))
AddrReady s _ _ part = ⊥

-- the event's operands can be read, and its type, scope and semantics are declared
abbrev pub EventReady : Setting → Target → Event → Type 0
EventReady s t (Load to) = Uses s (global.Plain sort.Int)
EventReady s t (Store value) = Ready s no_register value ty.Int
EventReady s t (Atomic to op value) =
    Ready s no_register value ty.Int × Uses s (global.Number (scope_of t)) × Uses s (global.Number 0)
EventReady s t (Swap old same compare value) =
    Ready s no_register compare ty.Int × Ready s no_register value ty.Int × Uses s (global.Number (scope_of t)) × Uses s (global.Number 0)

-- each register that the event sets is set by it alone, and what it is set to out of range is declared
abbrev pub ZerosReady : Setting → Event → Type 0
ZerosReady s (Load to) = IsSet s to ty.Int × Uses s (global.Number 0)
ZerosReady s (Store value) = Unit {0}
ZerosReady s (Atomic to op value) = IsSet s to ty.Int × Uses s (global.Number 0)
ZerosReady s (Swap old same compare value) =
    IsSet s old ty.Int × IsSet s same ty.Bool × Uses s (global.Number 0) × Uses s (global.Truth false)

-- the limit that a test compares with: the rows of a constant buffer, or the words of a groupshared array
abbrev pub LimitIs : Setting → Target → Type 0
LimitIs s (target.Buffer r) = s.context.limit (target.Buffer r) ≡ rows_at s.program (target.Buffer r)
LimitIs s (target.Shared a) = s.context.limit (target.Shared a) ≡ slice_index s.program.shared a

-- what the test and the event of a part ask
pub record AccessReady (s : Setting) (t : Target) (addr : Addr) (part : ℕ) (event : Event) : Type 0 where
  pub limit : LimitIs s t
  pub address : AddrReady s t addr part
  pub operands : EventReady s t event

-- a part for which an element has no room has no test and no event
pub record PartReady (s : Setting) (t : Target) (addr : Addr) (part : ℕ) (event : Event) : Type 0 where
  pub few : part ≤ 3
  pub zeros : ZerosReady s event
  pub access : is_never addr part ≡ false → AccessReady s t addr part event

-- ---- what the program's part does

abbrev pub set_to : Reg → source.Value → Registers → Registers
set_to to v regs = with_reg to.value to.part (Some v) regs

-- the registers behind a part that is out of range
abbrev pub missed : Event → Registers → Registers
missed (Load to) regs = set_to to (source.Number 0) regs
missed (Store value) regs = regs
missed (Atomic to op value) regs = set_to to (source.Number 0) regs
missed (Swap old same compare value) regs =
    set_to same (source.Truth false) (set_to old (source.Number 0) regs)

-- what is asked of the memory; none where an operand is undefined
abbrev pub asked : Event → Place → Registers → Option Ask
asked (Load to) place regs = Some (launch.Load place)
asked (Store value) place regs = option_map (launch.Store place) (number_of regs value)
asked (Atomic to op value) place regs = option_map (launch.Atomic place op) (number_of regs value)
asked (Swap old same compare value) place regs =
    on_both (λ c v. Some (launch.Swap place c v)) (number_of regs compare) (number_of regs value)

-- whether the answer is the word that was compared with
abbrev pub is_same : Option ℕ → ℕ → Bool
is_same (Some c) answer = nat_eq answer c
is_same None answer = false

-- the registers behind the answer of the memory
abbrev pub answered : Event → ℕ → Registers → Registers
answered (Load to) answer regs = set_to to (source.Number answer) regs
answered (Store value) answer regs = regs
answered (Atomic to op value) answer regs = set_to to (source.Number answer) regs
answered (Swap old same compare value) answer regs =
    set_to same (source.Truth (is_same (number_of regs compare) answer)) (set_to old (source.Number answer) regs)

-- ---- what the code does

-- in quiet steps, at most so many, to a state that holds the registers at the place
pub record Comes (s : Setting) (i size : ℕ) (env : Env) (place : ℕ) (regs : Registers) (t : State) : Type 0 where
  pub n : ℕ
  pub few : n ≤ size
  pub t' : State
  pub leads : Leads (machine s) i n t [] t'
  pub held : Held s env place regs t'

-- to an event, and from each answer on
pub record Acting (s : Setting) (i size : ℕ) (event : Event) (ask : Ask) (env : Env) (place : ℕ) (regs : Registers) (t : State) : Type 0 where
  pub n : ℕ
  pub few : n ≤ size
  pub t' : State
  pub leads : Leads (machine s) i n t [] t'
  pub next : ℕ → State
  pub acts : (machine s).step i t' ≡ Acts ask next
  pub then_comes : (answer : ℕ) → Comes s i size env place (answered event answer regs) (next answer)

-- A part whose word is out of range sets zero; any other asks the memory for its place. The code does the same, and no result is known behind it.
pub record PartRuns (s : Setting) (i : ℕ) (t : Target) (addr : Addr) (part : ℕ) (event : Event) (env : Env) (place : ℕ) (regs : Registers) (words : Words) (state : State) : Type 0 where
  pub outside : words part ≡ None → Comes s i (length (part_code s.context env place t addr part event)) (part_env s.context env addr part event) (place + length (part_code s.context env place t addr part event)) (missed event regs) state
  pub inside : (word : ℕ) (ask : Ask) → words part ≡ Some word → asked event (place_of t word) regs ≡ Some ask → Acting s i (length (part_code s.context env place t addr part event)) event ask (part_env s.context env addr part event) (place + length (part_code s.context env place t addr part event)) regs state

-- The code of each part of an access does what the part does, in every launch that fits the program.
abbrev pub PartsRun : Type 0
PartsRun =
    (s : Setting) → Declares s → Sound s.program → Fits s.program s.launch → (i : ℕ) (t : Target) (addr : Addr) (part : ℕ) (event : Event) (env : Env) (place : ℕ) (regs : Registers) (words : Words) (state : State) → PartReady s t addr part event → address s.program s.launch regs t addr ≡ Some words → Held s env place regs state → Has s.made place (part_code s.context env place t addr part event) → PartRuns s i t addr part event env place regs words state
