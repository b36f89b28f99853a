use Rattle.std.proofs.Common.{ℕ, ◌≡◌, ◌<◌, length, get_or}
use Rattle.flow_rules.specs.Blocks.{BasicBlock}
use Rattle.flow_rules.specs.Flow.{At}
use Rattle.flow_rules.specs.Lists.{IsHigh}
use Rattle.flow_rules.proofs.tables.highs.Given as goal

abbrev pub invariant-loop-p : goal.invariant-loop-p
invariant-loop-p l = (length l.values.items ≡ l.p) × ((q : ℕ) (b : BasicBlock) → q < l.p → At l.blocks q b → IsHigh b (get_or l.values.items q 0))
