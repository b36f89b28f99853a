-- The code of the lines of a block keeps the rules of the ids.
use Rattle.std.specs.Prelude.{◌≡◌, ℕ, ◌+◌, ◌≤◌, List, length, Some, slice_get}
use Rattle.dxil_form.specs.declared.instr.Instr.{Instr}
use Rattle.dxil_form.specs.Sound.{InstrFits}
use Rattle.spirv_code.specs.Reads.{Env}
use Rattle.spirv_code.specs.Lines.{lines_code, lines_env}
use Rattle.spirv_code.specs.Needed.{lines_keys}
use Rattle.line_runs.specs.Held.{Setting, Has}
use Rattle.block_runs.specs.Inside.{StepsReady}
use Rattle.ruled_lines.specs.Kept.{AreKept, KnownAt, AreUsed, StandsAhead}

-- Let the code of lines that are ready and such as a file may have, and that name what is declared, stand at a place of a module, where the registers that are known are values. Then each of its instructions keeps the rules, and so the registers that are known behind it are values there.
abbrev pub LinesKeepRules : Type 0
LinesKeepRules =
    (s : Setting) (low : ℕ) → StandsAhead s low → (lines : List Instr) (env : Env) (place : ℕ) → low ≤ place → AreUsed s (lines_keys s.program lines) → ((n : ℕ) (line : Instr) → slice_get lines n ≡ Some line → InstrFits s.program line) → StepsReady s env place lines → Has s.made place (lines_code s.context env place lines) → KnownAt s env place → AreKept s.made.insts place (lines_code s.context env place lines) × KnownAt s (lines_env s.context env place lines) (place + length (lines_code s.context env place lines))
