use Rattle.std.proofs.Common.{◌≡◌, drop}
use Rattle.llvm_nodes.specs.Rules.{is_followed}
use Rattle.llvm_nodes.proofs.read.is_followed.Given as goal

abbrev pub invariant-loop-item : goal.invariant-loop-item
invariant-loop-item l = is_followed (drop l.item-index l.behind) ≡ is_followed l.behind
