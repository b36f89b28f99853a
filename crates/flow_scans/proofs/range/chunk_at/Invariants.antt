use Rattle.std.proofs.Common.{◌<◌, ◌≤◌, ◌+◌}
use Rattle.flow_scans.specs.Ranges.{IsMost}
use Rattle.flow_scans.proofs.range.chunk_at.Given as goal

abbrev pub invariant-loop-level : goal.invariant-loop-level
invariant-loop-level l = record {
  most : IsMost l.values l.place l.chunk.width l.chunk.most;
  fits : l.place + l.chunk.width ≤ l.to;
  some : 0 < l.chunk.width;
}
