use Rattle.std.proofs.Common.{refl}
use Rattle.decoration_rules.proofs.MarkLaws.{marks_none, marks_more, marks_all}
use Rattle.decoration_rules.proofs.marks.Decorations.of.Goals as goal

pub invariant_of-result : goal.invariant_of-result
invariant_of-result c = marks_all _ _ _ c.loop-inst.invariant c.loop-inst-test.false

pub loop-inst-init : goal.loop-inst-init
loop-inst-init c = marks_none _ c.args.insts.now (λ id. rw c.new-marks.ensures.empty refl)

pub loop-inst-preserved : goal.loop-inst-preserved
loop-inst-preserved c = marks_more _ _ _ _ _ c.loop-inst.invariant c.loop-inst-test.true c.inst-item.is c.in_ok-keep_marks.ensures
