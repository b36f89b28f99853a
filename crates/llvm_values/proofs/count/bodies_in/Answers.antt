use Rattle.llvm_values.specs.Values.{has_body}
use Rattle.llvm_items.proofs.Counts.{counting_more}
use Rattle.llvm_values.proofs.count.bodies_in.Goals as goal

pub loop-item-preserved : goal.loop-item-preserved
loop-item-preserved c = counting_more (has_body c.args.fields.now) _ _ _ _ _ _ _ _ c.loop-item.invariant c.loop-item-test.true c.counted-count.ensures c.has_body.ensures c.in_ok-pass.ensures.ok
