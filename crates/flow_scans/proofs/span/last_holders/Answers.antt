use Rattle.std.proofs.Common.{arith, get_or}
use Rattle.flow_scans.specs.Spans.{LastsHolding}
use Rattle.std.proofs.Common.{ℕ, List, length, subst}
use Rattle.flow_scans.proofs.Tables.{last_holder_of}
use Rattle.flow_scans.proofs.span.last_holders.Goals as goal

pub returns-clause-each : goal.returns-clause-each
returns-clause-each c = λ q below.
    let same = c.as_slice-2.ensures.value in
    let each = subst (λ (far : List ℕ). LastsHolding far (length far) c.take_own.new.out.items) same c.take_own.ensures.each in
    last_holder_of c.args.spans.now c.args.count c.in_ok-far.far.items q (get_or c.take_own.new.out.items q 0) c.requires.below c.in_ok-far.ensures.each below (each q (omega (arith, c.in_ok-far.ensures.len)))
