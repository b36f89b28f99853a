use Rattle.std.proofs.Common.{ℕ, ◌≡◌, ◌<◌, ◌++◌, length, take, Some}
use Rattle.std.specs.Prelude.{slice_get}
use Rattle.std.specs.List.{flat_map}
use Rattle.container_writer.specs.declared.part.NewPart.{NewPart}
use Rattle.container_writer.specs.Laying.{part_bytes}
use Rattle.container_writer.proofs.write.put_parts.Given as goal

abbrev pub invariant-loop-part : goal.invariant-loop-part
invariant-loop-part l = (l.to ≡ l.initial.to ++ flat_map part_bytes (take l.part-index l.part-items)) × ((i : ℕ) (part : NewPart) → i < l.part-index → slice_get l.part-items i ≡ Some part → length part.name ≡ 4)
