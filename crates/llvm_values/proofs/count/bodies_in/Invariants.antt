use Rattle.llvm_values.specs.Values.{has_body}
use Rattle.llvm_items.proofs.Counts.{IsCounting}
use Rattle.llvm_values.proofs.count.bodies_in.Given as goal

abbrev pub invariant-loop-item : goal.invariant-loop-item
invariant-loop-item l = IsCounting (has_body l.fields) l.list l.item-index l.around l.count
