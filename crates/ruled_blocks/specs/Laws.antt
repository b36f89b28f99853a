-- The code of a block keeps the rules of the ids, up to its branch.
use Rattle.std.specs.Prelude.{◌≡◌, ℕ, ◌+◌, ◌≤◌, length, Some, slice_get}
use Rattle.dxil_form.specs.declared.instr.Instr.{Instr}
use Rattle.dxil_form.specs.declared.block.Block.{Block}
use Rattle.dxil_form.specs.Sound.{InstrFits}
use Rattle.spirv_code.specs.Leaves.{block_code, block_env}
use Rattle.spirv_code.specs.Needed.{lines_keys}
use Rattle.line_runs.specs.Held.{Setting, Has}
use Rattle.leaf_runs.specs.BlockReady.{BlockReady}
use Rattle.ruled_lines.specs.Kept.{AreKept, KnownAt, AreUsed, StandsAhead}

-- Let the code of a block that is ready, with lines such as a file may have and that name what is declared, stand at a place of a module. Then each of its instructions keeps the rules: of its phis, of its lines, and of what it leaves for the phis of its next blocks. And the registers that are known behind it are values there.
abbrev pub BlocksKeepRules : Type 0
BlocksKeepRules =
    (s : Setting) (low : ℕ) → StandsAhead s low → (b : ℕ) (block : Block) (place : ℕ) → low ≤ place → AreUsed s (lines_keys s.program block.instrs) → ((n : ℕ) (line : Instr) → slice_get block.instrs n ≡ Some line → InstrFits s.program line) → BlockReady s b block place → Has s.made place (block_code s.context place b block) → AreKept s.made.insts place (block_code s.context place b block) × KnownAt s (block_env s.context place block) (place + length (block_code s.context place b block))
