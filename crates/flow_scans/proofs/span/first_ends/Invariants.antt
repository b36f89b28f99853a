use Rattle.std.proofs.Common.{◌≡◌, ◌≤◌, length}
use Rattle.flow_scans.specs.Spans.{FirstsBehind}
use Rattle.flow_scans.proofs.span.first_ends.Given as goal

abbrev pub invariant-loop-q : goal.invariant-loop-q
invariant-loop-q l = (l.q ≤ l.count) × (length l.out.items ≡ l.count) × FirstsBehind l.near.items l.gap l.q l.out.items

abbrev pub decreases-loop-q : goal.decreases-loop-q
decreases-loop-q l = l.q
