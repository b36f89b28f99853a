use Rattle.std.proofs.Common.{◌≡◌, ◌+◌, length, take}
use Rattle.std.specs.List.{sum_by}
use Rattle.dxbc_container.specs.Layout.{entry}
use Rattle.container_writer.specs.Writing.{room}
use Rattle.container_writer.specs.Laying.{places_from}
use Rattle.container_writer.proofs.write.plan_of.Given as goal

abbrev pub invariant-loop-part : goal.invariant-loop-part
invariant-loop-part l = (l.places ≡ places_from (entry (length l.others + 1)) (take l.part-index l.part-items)) × (l.at ≡ entry (length l.others + 1) + sum_by room (take l.part-index l.part-items))
