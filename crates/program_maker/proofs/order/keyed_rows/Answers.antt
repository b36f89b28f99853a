use Rattle.program_maker.proofs.OrderLaws.{keyed_next}
use Rattle.program_maker.proofs.order.keyed_rows.Goals as goal

pub loop-place-preserved : goal.loop-place-preserved
loop-place-preserved c = keyed_next c.args.rows.now c.loop-place.place _ c.loop-place.keyed.items _ c.loop-place.invariant c.loop-place-test.true c.in_ok-add_row.ensures
