use Rattle.std.proofs.Common.{refl}
use Rattle.order_rules.proofs.MergeLaws.{named_none, named_more, named_all}
use Rattle.order_rules.proofs.merges.named_labels.Goals as goal

pub loop-inst-init : goal.loop-inst-init
loop-inst-init c = named_none _ c.args.insts.now (λ l. rw c.new-named.ensures.empty refl)

pub loop-inst-preserved : goal.loop-inst-preserved
loop-inst-preserved c = named_more _ _ _ _ _ c.loop-inst.invariant c.loop-inst-test.true c.inst-item.is c.in_ok-put_label.ensures

pub returns : goal.returns
returns c = named_all _ _ _ c.loop-inst.invariant c.loop-inst-test.false
