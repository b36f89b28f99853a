use Rattle.llvm_values.proofs.Checking.{IsChecking}
use Rattle.llvm_values.proofs.check.check_items.Given as goal

abbrev pub invariant-loop-index : goal.invariant-loop-index
invariant-loop-index l = IsChecking l.list l.fields l.index l.reader
