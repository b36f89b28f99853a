use Rattle.llvm_facts.proofs.TagLaws.{IsCounted}
use Rattle.llvm_facts.proofs.tags.count_tag.Given as goal

abbrev pub invariant-loop-k : goal.invariant-loop-k
invariant-loop-k l = IsCounted l.lookup l.tag l.fields l.k l.count
