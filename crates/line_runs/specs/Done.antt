-- What the code of a line does: as many quiet steps as it has instructions, behind which the registers of the program's next state are held.
use Rattle.std.specs.Prelude.{◌≡◌, ◌⊎◌, ℕ, suc, ◌+◌, List, [], length}
use Rattle.dxil_form.specs.declared.instr.Instr.{Instr}
use Rattle.spv_form.specs.declared.module.Inst.{Inst}
use Rattle.dxil_meaning.specs.Launches.{Step, Wrong, Quiet}
use Rattle.dxil_meaning.specs.Steps.{Leads}
use Rattle.dxil_meaning.specs.Source.{Registers, at_line, instr_step}
use Rattle.dxil_meaning.specs.Source as source
use Rattle.spirv_meaning.specs.Target.{State}
use Rattle.spirv_code.specs.Reads.{Env}
use Rattle.spirv_code.specs.Lines.{line_code, line_env}
use Rattle.line_runs.specs.Held.{Setting, Held, Has, machine}
use Rattle.line_runs.specs.Declared.{Declares}
use Rattle.line_runs.specs.Ready.{LineReady}

-- what a piece of code leaves: as many steps as it has instructions, and what was held, of the new registers
pub record Done (s : Setting) (i : ℕ) (code : List Inst) (env : Env) (place : ℕ) (regs : Registers) (t : State) : Type 0 where
  pub t' : State
  pub leads : Leads (machine s) i (length code) t [] t'
  pub held : Held s env (place + length code) regs t'

-- the step is quiet, to these registers at the next line, and the code leads there
pub record QuietDone (s : Setting) (i k : ℕ) (code : List Inst) (env : Env) (place : ℕ) (t : State) (x : source.State) (step : Step source.State) : Type 0 where
  pub regs : Registers
  pub is : step ≡ Quiet [] (at_line (suc k) regs x)
  pub done : Done s i code env place regs t

-- Each line without an event is undefined, or its code does what it does.
abbrev pub LinesRun : Type 0
LinesRun =
    (s : Setting) → Declares s → (i k : ℕ) (env : Env) (place : ℕ) (t : State) (x : source.State) (line : Instr) → LineReady s env line → Held s env place x.regs t → Has s.made place (line_code s.context env place line) → (instr_step s.program s.launch i k line x ≡ Wrong) ⊎ QuietDone s i k (line_code s.context env place line) (line_env s.context env place line) place t x (instr_step s.program s.launch i k line x)
