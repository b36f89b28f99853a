use Rattle.flow_rules.specs.Flow.StructuralEdge.{by_branch}
use Rattle.flow_rules.proofs.check.edge_rule.Goals as goal

pub forward_rule-requires-clause-below : goal.forward_rule-requires-clause-below
forward_rule-requires-clause-below c = c.requires.numbered.targets c.args.p c.args.q (by_branch c.requires.edge)
