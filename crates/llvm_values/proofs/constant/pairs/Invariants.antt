use Rattle.std.proofs.Common.{◌≡◌, map}
use Rattle.std.specs.List.{range_with_len}
use Rattle.llvm_values.specs.Values.{pair_at}
use Rattle.llvm_values.proofs.constant.pairs.Given as goal

abbrev pub invariant-loop-place : goal.invariant-loop-place
invariant-loop-place l = l.pairs ≡ map (pair_at l.fields) (range_with_len 0 l.place)
