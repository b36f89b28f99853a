use Rattle.std.proofs.Common.{ℕ, ◌<◌, ◌≤◌, ◌-◌, slice_index}
use Rattle.flow_scans.proofs.range.RangeMax.exceeds.Given as goal

abbrev pub invariant-loop-place : goal.invariant-loop-place
invariant-loop-place l = record {
  behind : l.from ≤ l.place;
  passed : (k : ℕ) → l.from ≤ k → k < l.place → slice_index l.self k ≤ l.bound;
}

abbrev pub decreases-loop-place : goal.decreases-loop-place
decreases-loop-place l = l.to - l.place
