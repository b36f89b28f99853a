use Rattle.std.proofs.Common.{◌≡◌, ◌++◌, take}
use Rattle.std.specs.List.{flat_map}
use Rattle.container_writer.specs.Laying.{word}
use Rattle.container_writer.proofs.write.put_table.Given as goal

abbrev pub invariant-loop-place : goal.invariant-loop-place
invariant-loop-place l = l.to ≡ l.initial.to ++ flat_map word (take l.place-index l.place-items)
