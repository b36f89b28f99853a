use Rattle.std.proofs.Common.{◌≡◌, filter_map, take}
use Rattle.program_maker.specs.Order.{resource_in}
use Rattle.program_maker.proofs.resources.resources_of.Given as goal

abbrev pub invariant-loop-entry : goal.invariant-loop-entry
invariant-loop-entry l = l.resources ≡ filter_map (resource_in l.rows l.named) (take l.entry-index l.order)
