use Rattle.std.proofs.Common.{◌+◌, ◌-◌, refl, take, drop, length}
use Rattle.std.proofs.lemmas.Result.{err_from_is_err_and}
use Rattle.llvm_nodes.proofs.Progress.{reading_more, fault_stops, reading_ends, behind_all}
use Rattle.llvm_nodes.proofs.read.meta_in.Goals as goal

pub returns-in_err-step : goal.returns-in_err-step
returns-in_err-step c =
    let p = err_from_is_err_and c.from_residual.result c.from_residual.ensures.1 in
    let list = c.args.list.now in
    rw (p.1, p.2)
    (fault_stops list c.args.fields.now c.args.types c.args.values c.loop-i.i _ c.loop-i.reader _ (take (length list - (c.loop-i.i + 1)) (drop (c.loop-i.i + 1) list)) c.loop-i.invariant c.loop-i-test.true
    c.in-Ok.ensures.value refl refl (behind_all list (c.loop-i.i + 1)) c.step.new.reader c.in_err-step.field-0.0 c.requires c.in_err-step.ensures)

pub loop-i-preserved : goal.loop-i-preserved
loop-i-preserved c =
    let list = c.args.list.now in
    reading_more _ _ _ _ _ _ _ _ (take (length list - (c.loop-i.i + 1)) (drop (c.loop-i.i + 1) list)) c.loop-i.invariant c.loop-i-test.true c.in-Ok.ensures.value refl refl (behind_all list (c.loop-i.i + 1)) _
    c.in_ok-step.ensures.0 c.in_ok-step.ensures.1

pub returns : goal.returns
returns c = reading_ends _ _ _ _ _ _ _ c.loop-i.invariant c.loop-i-test.false c.loop-i.auto.i-end refl refl refl refl
