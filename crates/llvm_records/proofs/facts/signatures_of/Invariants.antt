use Rattle.std.proofs.Common.{◌≡◌, map, take, Some}
use Rattle.llvm_records.specs.Facts.{signature_of}
use Rattle.llvm_records.proofs.facts.signatures_of.Given as goal

abbrev pub invariant-loop-number : goal.invariant-loop-number
invariant-loop-number l = l.list ≡ map (λ t. signature_of l.types.list (Some t)) (take l.number l.types.list)
