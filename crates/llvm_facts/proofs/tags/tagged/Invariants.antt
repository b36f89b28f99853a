use Rattle.llvm_facts.proofs.TagLaws.{IsSought}
use Rattle.llvm_facts.proofs.tags.tagged.Given as goal

abbrev pub invariant-loop-k : goal.invariant-loop-k
invariant-loop-k l = IsSought l.lookup l.tag l.fields l.k
