use Rattle.llvm_items.proofs.Counts.{IsCounting}
use Rattle.llvm_nodes.specs.Metadata.{is_numbered}
use Rattle.llvm_nodes.proofs.read.count_records.Given as goal

abbrev pub invariant-loop-item : goal.invariant-loop-item
invariant-loop-item l = IsCounting is_numbered l.list l.item-index l.around l.count
