use Rattle.std.proofs.Common.{refl, arith, ◌∙◌}
use Rattle.flow_rules.proofs.Numbers.{nat_max}
use Rattle.flow_rules.proofs.Numbers.{low_more}
use Rattle.flow_rules.proofs.tables.depth_of.Goals as goal

pub loop-target-preserved : goal.loop-target-preserved
loop-target-preserved c = low_more c.args.targets.now c.loop-target.target-index _ c.loop-target.low c.max-low.result c.loop-target-test.true refl (let fits = c.type_inv.targets c.loop-target.target-index in omega arith) (c.max-low.ensures ∙ nat_max _ _) c.loop-target.invariant
