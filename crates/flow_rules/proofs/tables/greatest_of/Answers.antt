use Rattle.std.proofs.Common.{refl, ◌∙◌}
use Rattle.flow_rules.proofs.Numbers.{nat_max}
use Rattle.flow_rules.proofs.Numbers.{high_more}
use Rattle.flow_rules.proofs.tables.greatest_of.Goals as goal

pub loop-target-preserved : goal.loop-target-preserved
loop-target-preserved c = high_more c.args.targets.now c.loop-target.target-index _ c.loop-target.high c.max-high.result c.loop-target-test.true refl (c.max-high.ensures ∙ nat_max _ _) c.loop-target.invariant
