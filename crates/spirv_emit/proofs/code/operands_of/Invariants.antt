use Rattle.std.proofs.Common.{◌≡◌, take}
use Rattle.spirv_emit.proofs.code.operands_of.Given as goal

abbrev pub invariant-loop-word : goal.invariant-loop-word
invariant-loop-word l = l.operands ≡ take l.word-index l.words
