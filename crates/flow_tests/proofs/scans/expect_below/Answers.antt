use Rattle.std.proofs.Common.{arith}
use Rattle.flow_scans.specs.declared.span.Span.{Span}
use Rattle.flow_scans.proofs.Tables.{below_more}
use Rattle.flow_tests.proofs.scans.expect_below.Goals as goal

pub loop-at-preserved : goal.loop-at-preserved
loop-at-preserved g c =
    let d : Span = record { first = 0; end = 0 } in
    below_more c.args.spans.now c.loop-at.at-index c.args.count d c.loop-at-test.true c.loop-at.invariant (omega arith) (omega arith)
