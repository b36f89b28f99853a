use Rattle.std.proofs.Common.{refl, sym, subst, ℕ, Option, take, ◌+◌}
use Rattle.flow_rules.specs.Answers.{RuleAnswer, BreaksSome}
use Rattle.flow_rules.proofs.Edges.{some_more}
use Rattle.flow_rules.proofs.check.edges_rule.Goals as goal

pub loop-target-preserved : goal.loop-target-preserved
loop-target-preserved c =
    let targets = c.targets-target-items.result.now in
    subst (λ (o : Option ℕ). RuleAnswer o (BreaksSome c.args.blocks.now c.args.p (take (c.loop-target.target-index + 1) targets))) (sym c.lesser-least.ensures)
    (some_more c.args.blocks.now c.args.p targets c.loop-target.target-index _ c.loop-target.least c.edge_rule.result c.loop-target-test.true refl c.loop-target.invariant c.edge_rule.ensures)
