use Rattle.std.proofs.Common.{ℕ, ◌≡◌, ◌*◌, ◌<◌, length, slice_index}
use Rattle.flow_scans.specs.Ranges.{IsMost}
use Rattle.flow_scans.proofs.range.chunk_maxima.Given as goal

abbrev pub invariant-loop-i : goal.invariant-loop-i
invariant-loop-i l = record {
  count : length l.maxima.items ≡ l.i;
  each : (k : ℕ) → k < l.i → IsMost l.numbers (k * 16) 16 (slice_index l.maxima.items k);
}
