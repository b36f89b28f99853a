use Rattle.std.proofs.Common.{refl}
use Rattle.std.proofs.lemmas.Result.{err_from_is_err_and}
use Rattle.llvm_types.proofs.Progress.{reading_more, fault_stops, reading_ends}
use Rattle.llvm_types.proofs.read.types_in.Goals as goal

pub returns-in_err-step : goal.returns-in_err-step
returns-in_err-step c =
    let p = err_from_is_err_and c.from_residual.result c.from_residual.ensures.1 in
    rw (p.1, p.2)
    (fault_stops c.args.list.now c.args.fields.now c.loop-item.item-index c.in-Ok.count c.loop-item.reader _ c.loop-item.invariant c.loop-item-test.true c.in-Ok.ensures.value c.step.new.reader c.in_err-step.field-0.0 c.requires c.in_err-step.ensures)

pub loop-item-preserved : goal.loop-item-preserved
loop-item-preserved c = reading_more _ _ _ _ _ _ c.loop-item.invariant c.loop-item-test.true c.in-Ok.ensures.value _ c.in_ok-step.ensures.0 c.in_ok-step.ensures.1

pub returns : goal.returns
returns c = reading_ends _ _ _ _ _ c.loop-item.invariant c.loop-item-test.false c.loop-item.auto.item-index-end refl
