use Rattle.std.proofs.Common.{◌+◌}
use Rattle.std.proofs.lemmas.Result.{err_from_is_err_and}
use Rattle.llvm_values.proofs.Checking.{checking_more, fault_stops, checking_ends, rest_whole}
use Rattle.llvm_values.proofs.check.check_items.Goals as goal

pub returns-in_err-step : goal.returns-in_err-step
returns-in_err-step c =
    let p = err_from_is_err_and c.from_residual.result c.from_residual.ensures.1 in
    rw (p.1, p.2)
    (fault_stops c.args.list.now c.args.fields.now c.args.types.now.list c.loop-index.index c.loop-index.reader _ c.loop-index.invariant c.loop-index-test.true c.requires.types _ (rest_whole c.args.list.now (c.loop-index.index + 1)) c.step.new.reader c.in_err-step.field-0.0 c.requires.framed c.in_err-step.ensures)

pub loop-index-preserved : goal.loop-index-preserved
loop-index-preserved c = checking_more c.args.list.now c.args.fields.now c.args.types.now.list _ _ _ c.loop-index.invariant c.loop-index-test.true c.requires.types _ (rest_whole c.args.list.now (c.loop-index.index + 1)) _ c.in_ok-step.ensures.0 c.in_ok-step.ensures.1

pub returns : goal.returns
returns c = checking_ends _ _ _ _ c.loop-index.invariant c.loop-index-test.false c.loop-index.auto.index-end
