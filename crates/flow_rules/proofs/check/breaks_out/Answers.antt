use Rattle.std.proofs.Common.{ℕ, subst, sym, length, leb}
use Rattle.flow_rules.specs.Rules.{BreaksEdge}
use Rattle.flow_rules.specs.Lists.{SpanOf, FirstEnd, LeftOf}
use Rattle.flow_rules.specs.Answers.{Tells}
use Rattle.flow_rules.proofs.Blocks.{at_below}
use Rattle.flow_rules.proofs.Deciding.{true_tells, false_tells}
use Rattle.flow_rules.proofs.Edges.{allowed_10, left_10, body_10}
use Rattle.flow_rules.proofs.check.breaks_out.Goals as goal

pub returns-then-may_leave : goal.returns-then-may_leave
returns-then-may_leave c =
    allowed_10 c.args.blocks.now c.args.p c.args.q c.requires.small c.args.tables.now c.requires.tables c.requires.edge c.requires.clear c.requires.merges c.requires.ahead c.requires.below
    (true_tells _ c.may_leave.result c.may_leave.ensures c.if-may_leave.true)

pub returns-then-at-q : goal.returns-then-at-q
returns-then-at-q c =
    let p_in = at_below c.args.blocks.now c.args.p c.requires.edge.block c.requires.edge.at in
    left_10 c.args.blocks.now c.args.p c.args.q c.requires.small c.args.tables.now c.requires.tables c.requires.edge c.requires.clear c.requires.merges c.requires.ahead c.requires.below
    _ c.at.result _ (c.requires.tables.loops.each c.args.p p_in)
    (subst (λ (v : ℕ). FirstEnd (SpanOf (LeftOf c.args.blocks.now)) 0 (length c.args.blocks.now) c.args.p v) (sym c.at.ensures) (c.requires.tables.left_ends.each c.args.p p_in))
    (c.requires.tables.body_ends.each c.args.p p_in) (false_tells _ c.may_leave.result c.may_leave.ensures c.if-may_leave.false) c.if-at-q.true

pub returns : goal.returns
returns c =
    let p_in = at_below c.args.blocks.now c.args.p c.requires.edge.block c.requires.edge.at in
    subst (λ (v : ℕ). Tells (leb v c.args.q) (BreaksEdge c.args.blocks.now c.args.p c.args.q 10)) (sym c.at-2.ensures)
    (body_10 c.args.blocks.now c.args.p c.args.q c.requires.small c.args.tables.now c.requires.tables c.requires.edge c.requires.clear c.requires.merges c.requires.ahead c.requires.below
    _ c.at.result _ (c.requires.tables.loops.each c.args.p p_in)
    (subst (λ (v : ℕ). FirstEnd (SpanOf (LeftOf c.args.blocks.now)) 0 (length c.args.blocks.now) c.args.p v) (sym c.at.ensures) (c.requires.tables.left_ends.each c.args.p p_in))
    (c.requires.tables.body_ends.each c.args.p p_in) (false_tells _ c.may_leave.result c.may_leave.ensures c.if-may_leave.false) c.if-at-q.false)
