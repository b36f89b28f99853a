use Rattle.std.proofs.Common.{◌≡◌, map, take}
use Rattle.std.specs.List.{filter}
use Rattle.llvm_records.specs.Facts.{params_of, has_body}
use Rattle.llvm_records.proofs.facts.arguments_of.Given as goal

abbrev pub invariant-loop-value : goal.invariant-loop-value
invariant-loop-value l = l.list ≡ map (params_of l.types.list) (filter has_body (take l.value-index l.values))
