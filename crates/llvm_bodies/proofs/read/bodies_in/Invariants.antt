use Rattle.llvm_bodies.proofs.Reaching.{IsReading}
use Rattle.llvm_bodies.proofs.read.bodies_in.Given as goal

abbrev pub invariant-loop-item : goal.invariant-loop-item
invariant-loop-item l = IsReading l.facts l.fields l.list l.item-index l.reader
