-- The states between two events of one block, in both machines.
use Rattle.std.specs.Prelude.{◌≡◌, ◌≢◌, ℕ, suc, ◌+◌, ◌≤◌, Bool, true, List, [], ◌∷◌, length, drop, map, Option, Some, option_map, Contains}
use Rattle.dxil_form.specs.declared.value.Operand.{Operand}
use Rattle.dxil_form.specs.declared.value.Operand.TheVariants as operand
use Rattle.dxil_form.specs.declared.value.Reg.{Reg}
use Rattle.dxil_form.specs.declared.value.Ty.{Ty}
use Rattle.dxil_form.specs.declared.instr.Addr.{Addr}
use Rattle.dxil_form.specs.declared.instr.Scope.{Scope}
use Rattle.dxil_form.specs.declared.instr.Target.{Target}
use Rattle.dxil_form.specs.declared.instr.Instr.{Instr}
use Rattle.dxil_form.specs.declared.instr.Instr.TheVariants.{Load, Store, Atomic, Swap, Barrier}
use Rattle.dxil_form.specs.declared.block.Block.{Block}
use Rattle.dxil_form.specs.Registers.{in_address, parts_of, pick}
use Rattle.dxil_form.specs.Sound.{IsBarrier}
use Rattle.dxil_meaning.specs.Launches.{Place}
use Rattle.dxil_meaning.specs.Source.{Words, address, place_of, number_of, source, with_values}
use Rattle.dxil_meaning.specs.Source as source_machine
use Rattle.spirv_meaning.specs.Target.{State}
use Rattle.spirv_code.specs.declared.key.Global.TheVariants as global
use Rattle.spirv_code.specs.declared.event.Event.{Event}
use Rattle.spirv_code.specs.declared.event.Event.TheVariants as event
use Rattle.spirv_code.specs.Reads.{Env}
use Rattle.spirv_code.specs.Lines.{line_code, line_env, lines_code, lines_env, parts_code, parts_env, load_event, store_event, swap_event, barrier_scope, barrier_semantics}
use Rattle.line_runs.specs.Held.{Setting, Has, Uses}
use Rattle.line_runs.specs.Ready.{LineReady}
use Rattle.access_runs.specs.Parts.{PartReady, Comes}

-- ---- what lines ask

-- each part of a load or store is ready
abbrev pub PartsReady : Setting → Target → Addr → (ℕ → Event) → List ℕ → Type 0
PartsReady s t addr event_of [] = Unit {0}
PartsReady s t addr event_of (part ∷ parts) =
    PartReady s t addr part (event_of part) × PartsReady s t addr event_of parts

-- no operand of the address is a register of the value
abbrev pub IsApart : Addr → ℕ → Type 0
IsApart addr to = (reg : Reg) (type : Ty) → Contains (in_address addr) (operand.Reg reg type) → reg.value ≢ to

pub record BarrierReady (s : Setting) (sync : Bool) (scope : Scope) (uav shared : Bool) : Type 0 where
  pub is : IsBarrier sync scope uav shared
  pub group : sync ≡ true → Uses s (global.Number 2)
  pub scope_uses : Uses s (global.Number (barrier_scope scope))
  pub semantics : Uses s (global.Number (barrier_semantics uav shared))

abbrev pub StepReady : Setting → Env → Instr → Type 0
StepReady s env (Load to mask t addr) =
    PartsReady s t addr (load_event to) (parts_of mask) × IsApart addr to
StepReady s env (Store mask t addr x y z w) = PartsReady s t addr (store_event x y z w) (parts_of mask) × (parts_of mask ≢ [])
StepReady s env (Atomic to op t addr value) = PartReady s t addr 0 (event.Atomic to op value)
StepReady s env (Swap to t addr compare value) = PartReady s t addr 0 (swap_event to compare value)
StepReady s env (Barrier sync scope uav shared) = BarrierReady s sync scope uav shared
StepReady s env line = LineReady s env line

abbrev pub StepsReady : Setting → Env → ℕ → List Instr → Type 0
StepsReady s env place [] = Unit {0}
StepsReady s env place (line ∷ lines) =
    StepReady s env line × StepsReady s (line_env s.context env place line) (place + length (line_code s.context env place line)) lines

-- ---- what is left of a block's lines

-- lines whose code stands at the place and ends at `end`, where these registers are known
pub record Left (s : Setting) (lines : List Instr) (env : Env) (place end : ℕ) (known : Env) : Type 0 where
  pub ready : StepsReady s env place lines
  pub has : Has s.made place (lines_code s.context env place lines)
  pub ends : place + length (lines_code s.context env place lines) ≡ end
  pub knows : lines_env s.context env place lines ≡ known

-- parts of a load or store whose code stands at the place, and the lines behind them
pub record PartsLeft (s : Setting) (t : Target) (addr : Addr) (event_of : ℕ → Event) (parts : List ℕ) (lines : List Instr) (env : Env) (place end : ℕ) (known : Env) : Type 0 where
  pub ready : PartsReady s t addr event_of parts
  pub has : Has s.made place (parts_code s.context env place t addr event_of parts)
  pub left : Left s lines (parts_env s.context env addr event_of parts) (place + length (parts_code s.context env place t addr event_of parts)) end known

-- ---- states

-- a part with its place, where it is in range
abbrev pub part_at : Target → Words → ℕ → ℕ × Option Place
part_at t words c = (c, option_map (place_of t) (words c))

-- the module's machine comes to the place, and holds the registers there
abbrev pub Nears : Setting → ℕ → Env → ℕ → source_machine.Registers → State → Type 0
Nears s i env place regs state = Comes s i place env place regs state

-- block b, whose lines' code ends at `end`, where these registers are known
pub data Inside (s : Setting) (b : ℕ) (block : Block) (end : ℕ) (known : Env) (i : ℕ) (x : source_machine.State) (state : State) : Type 0 where
  at_line : (k : ℕ) (lines : List Instr) (env : Env) (place : ℕ) → x.block ≡ b → x.spot ≡ source_machine.Line k → drop k block.instrs ≡ lines → Left s lines env place end known → Nears s i env place x.regs state → Inside s b block end known i x state
  at_loading : (k to : ℕ) (t : Target) (addr : Addr) (words : Words) (part : ℕ) (parts : List ℕ) (lines : List Instr) (env : Env) (place : ℕ) → length (part ∷ parts) ≤ 4 → x.block ≡ b → x.spot ≡ source_machine.Loading k to (map (part_at t words) (part ∷ parts)) → IsApart addr to → address s.program s.launch x.regs t addr ≡ Some words → drop (suc k) block.instrs ≡ lines → PartsLeft s t addr (load_event to) (part ∷ parts) lines env place end known → Nears s i env place x.regs state → Inside s b block end known i x state
  at_storing : (k : ℕ) (t : Target) (addr : Addr) (words : Words) (a c d e : Operand) (part : ℕ) (parts : List ℕ) (left : List (Option Place × ℕ)) (lines : List Instr) (env : Env) (place : ℕ) → length (part ∷ parts) ≤ 4 → x.block ≡ b → x.spot ≡ source_machine.Storing k left → with_values (map (λ n. (option_map (place_of t) (words n), number_of x.regs (pick n a c d e))) (part ∷ parts)) ≡ Some left → address s.program s.launch x.regs t addr ≡ Some words → drop (suc k) block.instrs ≡ lines → PartsLeft s t addr (store_event a c d e) (part ∷ parts) lines env place end known → Nears s i env place x.regs state → Inside s b block end known i x state
