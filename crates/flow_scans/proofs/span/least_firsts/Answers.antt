use Rattle.std.proofs.Common.{◌<◌, length, arith, get_or}
use Rattle.flow_scans.specs.declared.span.Span.{Span}
use Rattle.flow_scans.proofs.Tables.{end_below, least_step}
use Rattle.flow_scans.proofs.span.least_firsts.Goals as goal

pub lower-requires : goal.lower-requires
lower-requires c =
    let inside : c.loop-span.span-index < length c.args.spans.now = c.loop-span-test.true in
    let d : Span = record { first = 0; end = 0 } in
    omega (arith, end_below c.args.count c.args.spans.now c.loop-span.span-index d c.requires inside)

pub loop-span-preserved : goal.loop-span-preserved
loop-span-preserved c =
    let inside : c.loop-span.span-index < length c.args.spans.now = c.loop-span-test.true in
    let d : Span = record { first = 0; end = 0 } in
    let within : (get_or c.args.spans.now c.loop-span.span-index d).end < length c.loop-span.table.items = omega (arith, end_below c.args.count c.args.spans.now c.loop-span.span-index d c.requires inside) in
    (omega arith, least_step c.args.spans.now c.loop-span.span-index d c.args.count c.loop-span.table.items c.lower.new.table.items inside within c.lower.ensures.step c.loop-span.invariant.1)
