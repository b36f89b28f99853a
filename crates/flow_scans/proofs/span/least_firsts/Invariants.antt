use Rattle.std.proofs.Common.{◌≡◌, length, take}
use Rattle.flow_scans.specs.Spans.{AreLeastFirsts}
use Rattle.flow_scans.proofs.span.least_firsts.Given as goal

abbrev pub invariant-loop-span : goal.invariant-loop-span
invariant-loop-span l = (length l.table.items ≡ l.count) × AreLeastFirsts (take l.span-index l.spans) l.count l.table.items
