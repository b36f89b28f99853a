use Rattle.std.proofs.Common.{arith, get_or}
use Rattle.flow_scans.proofs.Tables.{first_end_of}
use Rattle.flow_scans.proofs.span.first_ends.Goals as goal

pub returns-clause-each : goal.returns-clause-each
returns-clause-each c = λ q below.
    first_end_of c.args.spans.now c.args.gap c.args.count c.in_ok-near.near.items q (get_or c.loop-q.out.items q 0) c.requires.below c.requires.count
    c.in_ok-near.ensures.len c.in_ok-near.ensures.each below (c.loop-q.invariant.2 q (omega arith) (omega (arith, c.in_ok-near.ensures.len)))
