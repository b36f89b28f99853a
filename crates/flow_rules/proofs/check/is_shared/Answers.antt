use Rattle.std.proofs.Common.{ℕ, subst, sym, arith, ltb, refl}
use Rattle.flow_rules.specs.Flow.StructuralEdge.{by_merge}
use Rattle.flow_rules.specs.Rules.{BreaksMerge}
use Rattle.flow_rules.specs.Answers.{Tells}
use Rattle.flow_rules.proofs.Blocks.{at_below}
use Rattle.flow_rules.proofs.Deciding.{shared_merge}
use Rattle.flow_rules.proofs.check.is_shared.Goals as goal

pub at-requires : goal.at-requires
at-requires c =
    let below = c.requires.numbered.targets c.args.p c.args.merge.merge_block (by_merge c.args.merge c.requires.header refl) in
    omega (arith, c.requires.tables.mergers.counted)

pub returns : goal.returns
returns c =
    let below = c.requires.numbered.targets c.args.p c.args.merge.merge_block (by_merge c.args.merge c.requires.header refl) in
    subst (λ (v : ℕ). Tells (ltb v c.args.p) (BreaksMerge c.args.blocks.now c.args.p c.args.merge 3)) (sym c.at.ensures)
    (shared_merge c.args.blocks.now c.requires.small c.args.p _ c.args.merge c.requires.order c.requires.header c.requires.clear c.requires.tidy
    (at_below c.args.blocks.now c.args.p c.requires.header.block c.requires.header.at) (c.requires.tables.mergers.each c.args.merge.merge_block below))
