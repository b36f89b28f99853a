use Rattle.std.proofs.Common.{ℕ, subst, sym}
use Rattle.flow_rules.specs.Lists.{SpanOf, LastOver, LeastFirst, RowOf, CaseFrom}
use Rattle.flow_rules.proofs.Deciding.{true_tells, false_tells}
use Rattle.flow_rules.proofs.Edges.{forward_enters_row, forward_breaks, forward_crosses, forward_fine}
use Rattle.flow_rules.proofs.check.forward_rule.Goals as goal

pub returns-then-p-at : goal.returns-then-p-at
returns-then-p-at c =
    forward_enters_row c.args.blocks.now c.args.p c.args.q c.requires.small c.args.tables.now c.requires.tables c.requires.edge c.requires.clear c.requires.merges c.requires.ahead c.requires.below
    c.at.result (subst (λ (v : ℕ). LastOver (SpanOf (RowOf c.args.blocks.now)) 1 c.args.q v) (sym c.at.ensures) (c.requires.tables.row_overs.each c.args.q c.requires.below)) c.if-p-at.true

pub returns-then-breaks_out : goal.returns-then-breaks_out
returns-then-breaks_out c =
    forward_breaks c.args.blocks.now c.args.p c.args.q c.requires.small c.args.tables.now c.requires.tables c.requires.edge c.requires.clear c.requires.merges c.requires.ahead c.requires.below
    c.at.result (subst (λ (v : ℕ). LastOver (SpanOf (RowOf c.args.blocks.now)) 1 c.args.q v) (sym c.at.ensures) (c.requires.tables.row_overs.each c.args.q c.requires.below)) c.if-p-at.false
    (true_tells _ c.breaks_out.result c.breaks_out.ensures c.if-breaks_out.true)

pub returns-then-at-p : goal.returns-then-at-p
returns-then-at-p c =
    forward_crosses c.args.blocks.now c.args.p c.args.q c.requires.small c.args.tables.now c.requires.tables c.requires.edge c.requires.clear c.requires.merges c.requires.ahead c.requires.below
    c.at.result (subst (λ (v : ℕ). LastOver (SpanOf (RowOf c.args.blocks.now)) 1 c.args.q v) (sym c.at.ensures) (c.requires.tables.row_overs.each c.args.q c.requires.below)) c.if-p-at.false
    (false_tells _ c.breaks_out.result c.breaks_out.ensures c.if-breaks_out.false)
    c.at-2.result (subst (λ (v : ℕ). LeastFirst (SpanOf (CaseFrom c.args.blocks.now)) c.args.q v) (sym c.at-2.ensures) (c.requires.tables.case_froms.each c.args.q c.requires.below)) c.if-at-p.true

pub returns : goal.returns
returns c =
    forward_fine c.args.blocks.now c.args.p c.args.q c.requires.small c.args.tables.now c.requires.tables c.requires.edge c.requires.clear c.requires.merges c.requires.ahead c.requires.below
    c.at.result (subst (λ (v : ℕ). LastOver (SpanOf (RowOf c.args.blocks.now)) 1 c.args.q v) (sym c.at.ensures) (c.requires.tables.row_overs.each c.args.q c.requires.below)) c.if-p-at.false
    (false_tells _ c.breaks_out.result c.breaks_out.ensures c.if-breaks_out.false)
    c.at-2.result (subst (λ (v : ℕ). LeastFirst (SpanOf (CaseFrom c.args.blocks.now)) c.args.q v) (sym c.at-2.ensures) (c.requires.tables.case_froms.each c.args.q c.requires.below)) c.if-at-p.false
