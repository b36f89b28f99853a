use Rattle.std.proofs.Common.{◌≡◌, take, drop}
use Rattle.spirv_words.proofs.read.read_operands.Given as goal

abbrev pub invariant-loop-place : goal.invariant-loop-place
invariant-loop-place l = l.operands ≡ take l.place (drop l.from l.words)
