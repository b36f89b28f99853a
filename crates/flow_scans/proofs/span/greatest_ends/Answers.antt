use Rattle.std.proofs.Common.{◌<◌, length, arith, get_or}
use Rattle.flow_scans.specs.declared.span.Span.{Span}
use Rattle.flow_scans.proofs.Tables.{first_below, greatest_step}
use Rattle.flow_scans.proofs.span.greatest_ends.Goals as goal

pub raise-requires : goal.raise-requires
raise-requires c =
    let inside : c.loop-span.span-index < length c.args.spans.now = c.loop-span-test.true in
    let d : Span = record { first = 0; end = 0 } in
    omega (arith, first_below c.args.count c.args.spans.now c.loop-span.span-index d c.requires inside)

pub loop-span-preserved : goal.loop-span-preserved
loop-span-preserved c =
    let inside : c.loop-span.span-index < length c.args.spans.now = c.loop-span-test.true in
    let d : Span = record { first = 0; end = 0 } in
    let within : (get_or c.args.spans.now c.loop-span.span-index d).first < length c.loop-span.table.items = omega (arith, first_below c.args.count c.args.spans.now c.loop-span.span-index d c.requires inside) in
    (omega arith, greatest_step c.args.spans.now c.loop-span.span-index d c.args.count c.loop-span.table.items c.raise.new.table.items inside within c.raise.ensures.step c.loop-span.invariant.1)
