use Rattle.std.proofs.Common.{arith, ℕ, subst, sym, length, ◌<◌}
use Rattle.flow_rules.specs.Lists.{SpanOf, FirstEnd, LastOver, RowOf, LoopOf}
use Rattle.flow_rules.proofs.Blocks.{at_index, at_below}
use Rattle.flow_rules.proofs.Edges.{no_loop, back_enters_row, back_leaves_loop, back_fine}
use Rattle.flow_rules.proofs.check.back_rule.Goals as goal

pub returns-in-None : goal.returns-in-None
returns-in-None c =
    let p_in = at_below c.args.blocks.now c.args.p c.requires.edge.block c.requires.edge.at in
    let q_in : c.args.q < length c.args.blocks.now = omega arith in
    no_loop c.args.blocks.now c.args.p c.args.q c.requires.small c.args.tables.now c.requires.tables c.requires.edge c.requires.clear c.requires.merges c.requires.back
    (c.in-None.ensures c.args.blocks.now (at_index c.args.blocks.now c.args.q c.index-blocks-q.result q_in c.index-blocks-q.is))

pub at-requires : goal.at-requires
at-requires c =
    let p_in = at_below c.args.blocks.now c.args.p c.requires.edge.block c.requires.edge.at in
    omega (arith, c.requires.tables.row_ends.counted)

pub returns-then-at-p : goal.returns-then-at-p
returns-then-at-p c =
    let p_in = at_below c.args.blocks.now c.args.p c.requires.edge.block c.requires.edge.at in
    let q_in : c.args.q < length c.args.blocks.now = omega arith in
    back_enters_row c.args.blocks.now c.args.p c.args.q c.requires.small c.args.tables.now c.requires.tables c.requires.edge c.requires.clear c.requires.merges c.requires.back
    _ (c.in-Some.ensures c.args.blocks.now (at_index c.args.blocks.now c.args.q c.index-blocks-q.result q_in c.index-blocks-q.is))
    c.at.result (subst (λ (v : ℕ). FirstEnd (SpanOf (RowOf c.args.blocks.now)) 1 (length c.args.blocks.now) c.args.q v) (sym c.at.ensures) (c.requires.tables.row_ends.each c.args.q q_in)) c.if-at-p.true

pub at-requires-2 : goal.at-requires-2
at-requires-2 c =
    let p_in = at_below c.args.blocks.now c.args.p c.requires.edge.block c.requires.edge.at in
    omega (arith, c.requires.tables.loops.counted)

pub returns-then-at-q : goal.returns-then-at-q
returns-then-at-q c =
    let p_in = at_below c.args.blocks.now c.args.p c.requires.edge.block c.requires.edge.at in
    let q_in : c.args.q < length c.args.blocks.now = omega arith in
    back_leaves_loop c.args.blocks.now c.args.p c.args.q c.requires.small c.args.tables.now c.requires.tables c.requires.edge c.requires.clear c.requires.merges c.requires.back
    _ (c.in-Some.ensures c.args.blocks.now (at_index c.args.blocks.now c.args.q c.index-blocks-q.result q_in c.index-blocks-q.is))
    c.at.result (subst (λ (v : ℕ). FirstEnd (SpanOf (RowOf c.args.blocks.now)) 1 (length c.args.blocks.now) c.args.q v) (sym c.at.ensures) (c.requires.tables.row_ends.each c.args.q q_in)) c.if-at-p.false
    c.at-2.result (subst (λ (v : ℕ). LastOver (SpanOf (LoopOf c.args.blocks.now)) 0 c.args.p v) (sym c.at-2.ensures) (c.requires.tables.loops.each c.args.p p_in)) c.if-at-q.true

pub returns : goal.returns
returns c =
    let p_in = at_below c.args.blocks.now c.args.p c.requires.edge.block c.requires.edge.at in
    let q_in : c.args.q < length c.args.blocks.now = omega arith in
    back_fine c.args.blocks.now c.args.p c.args.q c.requires.small c.args.tables.now c.requires.tables c.requires.edge c.requires.clear c.requires.merges c.requires.back
    _ (c.in-Some.ensures c.args.blocks.now (at_index c.args.blocks.now c.args.q c.index-blocks-q.result q_in c.index-blocks-q.is))
    c.at.result (subst (λ (v : ℕ). FirstEnd (SpanOf (RowOf c.args.blocks.now)) 1 (length c.args.blocks.now) c.args.q v) (sym c.at.ensures) (c.requires.tables.row_ends.each c.args.q q_in)) c.if-at-p.false
    c.at-2.result (subst (λ (v : ℕ). LastOver (SpanOf (LoopOf c.args.blocks.now)) 0 c.args.p v) (sym c.at-2.ensures) (c.requires.tables.loops.each c.args.p p_in)) c.if-at-q.false
