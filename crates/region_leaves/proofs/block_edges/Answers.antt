use Rattle.std.proofs.Common.{arith}
use Rattle.std.proofs.lemmas.Grind.{common_steps}
use Rattle.region_leaves.proofs.Branching.{edges_step}
use Rattle.region_leaves.proofs.block_edges.Goals as goal

pub loop-b-preserved : goal.loop-b-preserved
loop-b-preserved c = let e = edges_step c.args.blocks.now c.loop-b.b c.index-blocks-b.result c.loop-b-test.true in grind (arith, common_steps, e)
