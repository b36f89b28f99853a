use Rattle.std.proofs.Common.{ℕ, ◌≡◌, ◌<◌, ◌≤◌, length, slice_index}
use Rattle.flow_scans.proofs.range.greatest.Given as goal

abbrev pub invariant-loop-number : goal.invariant-loop-number
invariant-loop-number l = record {
  upper : (k : ℕ) → k < l.number-index → slice_index l.numbers k ≤ l.most;
  attained : (at : ℕ) × (at < length l.numbers) × (slice_index l.numbers at ≡ l.most);
}
