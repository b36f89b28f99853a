use Rattle.std.proofs.Common.{◌≡◌, ◌%◌, ◌^◌, map, take}
use Rattle.llvm_values.proofs.symbol.characters.Given as goal

abbrev pub invariant-loop-field : goal.invariant-loop-field
invariant-loop-field l = l.bytes ≡ map (λ c. c % 2 ^ 8) (take l.field-index l.fields)
