use Rattle.std.proofs.Common.{◌≡◌, ◌*◌, drop}
use Rattle.llvm_facts.proofs.TagLaws.{all_tags}
use Rattle.llvm_facts.proofs.tags.are_tags.Given as goal

abbrev pub invariant-loop-k : goal.invariant-loop-k
invariant-loop-k l = all_tags l.lookup (drop (2 * l.k) l.fields) ≡ all_tags l.lookup l.fields
