use Rattle.std.proofs.Common.{take}
use Rattle.flow_scans.specs.Spans.{Below}
use Rattle.flow_tests.proofs.scans.expect_below.Given as goal

abbrev pub invariant-loop-at : goal.invariant-loop-at
invariant-loop-at g l = Below l.count (take l.at-index l.spans)
