use Rattle.std.proofs.Common.{arith}
use Rattle.std.proofs.lemmas.Grind.{common_steps}
use Rattle.region_leaves.proofs.Placing.{placed_step}
use Rattle.region_leaves.proofs.leaf_roots.Goals as goal

pub loop-i-preserved : goal.loop-i-preserved
loop-i-preserved c = let e = placed_step c.args.blocks.now c.loop-i.i 0 c.loop-i-test.true in grind (arith, common_steps, e)
