use Rattle.flow_rules.specs.Lists.{OfFamily}
use Rattle.flow_rules.proofs.Parts.{lists_more, lists_all}
use Rattle.flow_rules.proofs.Blocks.{at_index}
use Rattle.flow_rules.proofs.lists.spans_of.Goals as goal

pub loop-p-preserved : goal.loop-p-preserved
loop-p-preserved c =
    lists_more (OfFamily c.args.blocks.now c.args.family) c.loop-p.p c.loop-p.spans.items c.push_family.new.spans.items c.loop-p.invariant
    (c.in_ok-push_family.ensures c.args.blocks.now (at_index c.args.blocks.now c.loop-p.p c.index-blocks-p.result c.loop-p-test.true c.index-blocks-p.is))

pub returns : goal.returns
returns c = lists_all c.args.blocks.now c.args.family c.loop-p.p c.loop-p.spans.items c.loop-p-test.false c.loop-p.invariant
