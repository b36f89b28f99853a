use Rattle.std.proofs.Common.{◌≡◌, take}
use Rattle.llvm_nodes.proofs.item.numbers_of.Given as goal

abbrev pub invariant-loop-field : goal.invariant-loop-field
invariant-loop-field l = l.numbers ≡ take l.field-index l.fields
