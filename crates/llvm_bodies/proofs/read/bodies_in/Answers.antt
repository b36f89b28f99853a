use Rattle.std.proofs.Common.{refl}
use Rattle.std.proofs.lemmas.Result.{err_from_is_err_and}
use Rattle.bitstream_spelling.specs.declared.item.Item.TheVariants.{Enter}
use Rattle.llvm_bodies.proofs.Reaching.{reading_first, reading_more, fault_stops, reading_ends, lies_here, few_here, room_here}
use Rattle.llvm_bodies.proofs.read.bodies_in.Goals as goal

pub loop-item-init : goal.loop-item-init
loop-item-init c = reading_first _ _ c.requires.small _ _ c.new.ensures c.at_first.ensures refl c.new-2.ensures c.new-3.ensures c.new-4.ensures

pub step-requires-clause-lies : goal.step-requires-clause-lies
step-requires-clause-lies c = lies_here _ _ _ _ _ _ c.loop-item.invariant c.loop-item-test.true c.requires.framed

pub step-requires-clause-few : goal.step-requires-clause-few
step-requires-clause-few c = few_here _ _ _ _ _ _ c.loop-item.invariant c.loop-item-test.true c.requires.framed

pub step-requires-clause-room : goal.step-requires-clause-room
step-requires-clause-room c = room_here _ _ _ _ _ (Enter 0 0 0) c.loop-item.invariant c.loop-item-test.true c.requires.framed

pub returns-in_err-step : goal.returns-in_err-step
returns-in_err-step c =
    let p = err_from_is_err_and c.from_residual.result c.from_residual.ensures.1 in
    rw (p.1, p.2)
    (fault_stops _ _ _ _ _ _ c.loop-item.invariant c.loop-item-test.true c.in_err-step.field-0.0 c.requires.framed c.in_err-step.ensures)

pub loop-item-preserved : goal.loop-item-preserved
loop-item-preserved c = reading_more _ _ _ _ _ _ c.loop-item.invariant c.loop-item-test.true _ c.requires.small c.requires.framed c.in_ok-step.ensures

pub returns : goal.returns
returns c = reading_ends _ _ _ _ _ _ c.loop-item.invariant c.loop-item-test.false c.loop-item.auto.item-index-end refl
