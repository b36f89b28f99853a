use Rattle.std.proofs.Common.{arith}
use Rattle.container_writer.specs.Laying.{shader_part}
use Rattle.container_writer.proofs.Places.{plan_more, plan_last, where_ok}
use Rattle.container_writer.proofs.write.plan_of.Goals as goal

pub loop-part-preserved : goal.loop-part-preserved
loop-part-preserved c =
    let pushed = where_ok c.push.result c.is_err.result c.is_err.ensures.value c.if-is_err.false c.push.ensures.ok in
    let more = plan_more _ _ _ c.part-item.result _ _ _ c.loop-part-test.true c.part-item.is c.loop-part.invariant pushed in
    (more.0, omega (arith, more.1, c.len-in-loop-part.ensures))

pub returns-clause-places : goal.returns-clause-places
returns-clause-places c minor =
    let pushed = where_ok c.push-2.result c.is_err-2.result c.is_err-2.ensures.value c.if-is_err-2.false c.push-2.ensures.ok in
    plan_last _ _ _ _ (shader_part minor c.args.bitcode.now) _ _ _ c.as_slice-part-items.ensures (omega (arith, c.loop-part-test.false)) c.loop-part.invariant pushed
