use Rattle.std.proofs.Common.{ℕ, ◌≡◌, ◌<◌, slice_index}
use Rattle.flow_scans.specs.Runs.{number_at, AreRuns}
use Rattle.flow_scans.proofs.runs.Runs.of.Given as goal

abbrev pub invariant-loop-place : goal.invariant-loop-place
invariant-loop-place l = record {
  runs : AreRuns l.runs.items l.place;
  same : (k : ℕ) → k < l.place → number_at l.runs.items k ≡ slice_index l.numbers k;
}
