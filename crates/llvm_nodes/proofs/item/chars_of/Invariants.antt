use Rattle.std.proofs.Common.{◌≡◌, take}
use Rattle.llvm_nodes.specs.Metadata.{chars}
use Rattle.llvm_nodes.proofs.item.chars_of.Given as goal

abbrev pub invariant-loop-field : goal.invariant-loop-field
invariant-loop-field l = l.text ≡ chars (take l.field-index l.fields)
