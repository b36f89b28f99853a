use Rattle.llvm_values.specs.Values.{takes_value}
use Rattle.llvm_items.proofs.Counts.{IsCounting}
use Rattle.llvm_values.proofs.count.values_in.Given as goal

abbrev pub invariant-loop-item : goal.invariant-loop-item
invariant-loop-item l = IsCounting takes_value l.list l.item-index l.around l.count
