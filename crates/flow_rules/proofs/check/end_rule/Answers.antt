use Rattle.flow_rules.proofs.Deciding.{true_tells, false_tells}
use Rattle.flow_rules.proofs.Edges.{end_first, end_answer}
use Rattle.flow_rules.proofs.check.end_rule.Goals as goal

pub returns-then-breaks_fork : goal.returns-then-breaks_fork
returns-then-breaks_fork c = (true_tells _ c.breaks_fork.result c.breaks_fork.ensures c.if-breaks_fork.true, end_first c.args.blocks.now c.args.p c.args.block.now)

pub returns : goal.returns
returns c = end_answer c.args.blocks.now c.args.p c.args.block.now c.edges_rule.result c.requires.at (false_tells _ c.breaks_fork.result c.breaks_fork.ensures c.if-breaks_fork.false) c.edges_rule.ensures
