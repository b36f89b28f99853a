-- When two states of the two machines match.
use Rattle.std.specs.Prelude.{ℕ}
use Rattle.dxil_meaning.specs.Steps.{Matched}
use Rattle.dxil_meaning.specs.Source.{State as SourceState, source}
use Rattle.spirv_meaning.specs.Target.{State}
use Rattle.line_runs.specs.Held.{Setting, machine}

-- two states of the two machines match, and again after each event and at the beginning of each block, within so many steps
abbrev pub Match : Setting → (ℕ → SourceState → State → Type 0) → (L K : ℕ) → ℕ → SourceState → State → Type 0
Match s R L K i x state = Matched SourceState State (source s.program s.launch) (machine s) R L K i x state
