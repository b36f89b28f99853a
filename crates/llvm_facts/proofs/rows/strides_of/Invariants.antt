use Rattle.std.proofs.Common.{◌≡◌, take, map, Some}
use Rattle.llvm_facts.specs.Values.{fields_of}
use Rattle.llvm_facts.specs.Rows.{stride_of}
use Rattle.llvm_facts.proofs.rows.strides_of.Given as goal

abbrev pub invariant-loop-item : goal.invariant-loop-item
invariant-loop-item l = l.list ≡ map (λ item. stride_of l.lookup (fields_of (Some item))) (take l.item-index l.items)
