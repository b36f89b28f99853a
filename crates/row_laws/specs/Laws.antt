-- A function whose blocks are a whole row breaks no structure rule.
use Rattle.std.specs.Prelude.{ℕ, List}
use Rattle.dx_base.specs.First.{IsSound}
use Rattle.flow_rules.specs.Blocks.{BasicBlock}
use Rattle.flow_rules.specs.Rules.{Broken}
use Rattle.row_laws.specs.Rows.{Whole}

abbrev pub WholeRowsAreSound : Type 0
WholeRowsAreSound = (bs : List BasicBlock) (n : ℕ) → Whole bs n → IsSound (Broken bs)
