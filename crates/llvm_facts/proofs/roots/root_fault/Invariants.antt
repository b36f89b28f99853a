use Rattle.llvm_facts.proofs.RootLaws.{IsAsking}
use Rattle.llvm_facts.proofs.roots.root_fault.Given as goal

abbrev pub invariant-loop-node : goal.invariant-loop-node
invariant-loop-node l = IsAsking l.lookup l.root l.named l.node-index l.stands l.least
