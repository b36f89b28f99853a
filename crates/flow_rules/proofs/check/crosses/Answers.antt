use Rattle.std.proofs.Common.{ℕ, subst, sym, ltb, refl}
use Rattle.flow_rules.specs.Flow.StructuralEdge.{by_merge}
use Rattle.flow_rules.specs.Rules.{BreaksMerge}
use Rattle.flow_rules.specs.Answers.{Tells}
use Rattle.flow_rules.proofs.Blocks.{at_below}
use Rattle.flow_rules.proofs.Deciding.{crosses_at}
use Rattle.flow_rules.proofs.check.crosses.Goals as goal

pub returns : goal.returns
returns c =
    let within = at_below c.args.blocks.now c.args.p c.requires.header.block c.requires.header.at in
    let below = c.requires.numbered.targets c.args.p c.args.merge.merge_block (by_merge c.args.merge c.requires.header refl) in
    subst (λ (v : ℕ). Tells (ltb v c.args.merge.merge_block) (BreaksMerge c.args.blocks.now c.args.p c.args.merge 7)) (sym c.at.ensures)
    (crosses_at c.args.blocks.now c.requires.small c.args.p _ c.args.merge c.requires.header c.requires.clear (c.requires.tables.nested_ends.each c.args.p within) below c.requires.ahead c.requires.target)
