use Rattle.llvm_values.specs.Values.{takes_value}
use Rattle.llvm_items.proofs.Counts.{counting_more}
use Rattle.llvm_values.proofs.count.values_in.Goals as goal

pub loop-item-preserved : goal.loop-item-preserved
loop-item-preserved c = counting_more takes_value _ _ _ _ _ _ _ _ c.loop-item.invariant c.loop-item-test.true c.counted-count.ensures c.takes_value.ensures c.in_ok-pass.ensures.ok
