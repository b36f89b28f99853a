use Rattle.order_rules.proofs.MergeLaws.{counting_first, counting_more, crowded_here, never_crowded, room}
use Rattle.order_rules.proofs.merges.first_crowded.Goals as goal

pub loop-at-init : goal.loop-at-init
loop-at-init c = counting_first _ c.args.insts.now c.in_ok-named_labels.ensures

pub pass-requires-clause-few_named : goal.pass-requires-clause-few_named
pass-requires-clause-few_named c = room _ _ _ _ c.index-insts-at.result c.loop-at.invariant c.loop-at-test.true c.requires

pub returns-then-passed-gt-MOST : goal.returns-then-passed-gt-MOST
returns-then-passed-gt-MOST c = crowded_here _ _ _ _ _ _ _ c.loop-at.invariant c.loop-at-test.true c.index-insts-at.is c.pass.ensures c.if-passed-gt-MOST.true

pub loop-at-preserved : goal.loop-at-preserved
loop-at-preserved c = counting_more _ _ _ _ _ _ _ c.loop-at.invariant c.loop-at-test.true c.index-insts-at.is c.pass.ensures c.if-passed-gt-MOST.false

pub returns : goal.returns
returns c = never_crowded _ _ _ _ c.loop-at.invariant c.loop-at-test.false
