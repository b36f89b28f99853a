use Rattle.std.proofs.Common.{◌≡◌, length}
use Rattle.flow_scans.specs.Spans.{LastsBefore}
use Rattle.flow_scans.proofs.span.lasts_before.Given as goal

abbrev pub invariant-loop-q : goal.invariant-loop-q
invariant-loop-q l = (length l.out.items ≡ length l.far) × LastsBefore l.far l.q l.out.items
