use Rattle.flow_rules.proofs.Blocks.{at_index}
use Rattle.flow_rules.proofs.Ends.{closing_none}
use Rattle.flow_rules.proofs.check.closes.Goals as goal

pub returns-in-None : goal.returns-in-None
returns-in-None c =
    closing_none c.args.blocks.now c.args.p c.args.header c.args.end
    (c.in-None.ensures c.args.blocks.now (at_index c.args.blocks.now c.args.header c.index-blocks-header.result c.requires c.index-blocks-header.is))
