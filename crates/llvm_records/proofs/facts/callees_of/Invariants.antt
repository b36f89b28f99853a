use Rattle.std.proofs.Common.{◌≡◌, map, take}
use Rattle.llvm_records.specs.Facts.{called_by}
use Rattle.llvm_records.proofs.facts.callees_of.Given as goal

abbrev pub invariant-loop-value : goal.invariant-loop-value
invariant-loop-value l = l.list ≡ map (called_by l.types.list) (take l.value-index l.values)
