use Rattle.std.proofs.Common.{arith, get_or}
use Rattle.flow_scans.specs.Spans.{LastsBefore}
use Rattle.std.proofs.Common.{ℕ, List, length, subst}
use Rattle.flow_scans.proofs.Tables.{last_over_of}
use Rattle.flow_scans.proofs.span.last_overs.Goals as goal

pub returns-clause-each : goal.returns-clause-each
returns-clause-each c = λ q below.
    let same = c.as_slice.ensures.value in
    let each = subst (λ (far : List ℕ). LastsBefore far (length far) c.in_ok-out.out.items) same c.in_ok-out.ensures.each in
    last_over_of c.args.spans.now c.args.count c.in_ok-far.far.items q (get_or c.in_ok-out.out.items q 0) c.requires.below c.in_ok-far.ensures.each below (each q (omega (arith, c.in_ok-far.ensures.len)))
