use Rattle.std.proofs.Common.{refl}
use Rattle.llvm_items.proofs.Counts.{counting_more, counting_listed}
use Rattle.llvm_nodes.specs.Metadata.{is_numbered}
use Rattle.llvm_nodes.proofs.read.count_records.Goals as goal

pub loop-item-preserved : goal.loop-item-preserved
loop-item-preserved c = counting_more is_numbered _ _ _ _ _ _ _ _ c.loop-item.invariant c.loop-item-test.true c.counted-count.ensures.value refl c.in_ok-pass.ensures.ok

pub returns-clause-value : goal.returns-clause-value
returns-clause-value c = counting_listed is_numbered _ _ _ _ c.loop-item.invariant c.loop-item-test.false
