use Rattle.llvm_nodes.proofs.Progress.{IsReading}
use Rattle.llvm_nodes.proofs.read.meta_in.Given as goal

abbrev pub invariant-loop-i : goal.invariant-loop-i
invariant-loop-i l = IsReading l.list l.fields l.types l.values l.i l.reader
