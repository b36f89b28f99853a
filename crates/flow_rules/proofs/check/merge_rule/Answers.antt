use Rattle.flow_rules.specs.Rules.{BreaksMerge}
use Rattle.flow_rules.specs.Answers.{NoneBelow}
use Rattle.flow_rules.proofs.Deciding.{true_tells, false_tells}
use Rattle.flow_rules.proofs.Merging.{none_more, answer_some, merge_first, not_suited, suited, not_ahead, ahead, selection_answer, selection_end}
use Rattle.flow_rules.proofs.check.merge_rule.Goals as goal

pub returns-then-not-suits : goal.returns-then-not-suits
returns-then-not-suits c = answer_some (BreaksMerge c.args.blocks.now c.args.p c.args.merge) 2 (merge_first c.args.blocks.now c.args.p c.args.merge)
    (not_suited c.args.blocks.now c.args.p c.args.merge c.args.block.now c.requires.at c.requires.header (false_tells _ c.suits.result (rw c.terminator.ensures at c.suits.ensures) c.if-not-suits.true))

pub returns-then-is_shared : goal.returns-then-is_shared
returns-then-is_shared c = answer_some (BreaksMerge c.args.blocks.now c.args.p c.args.merge) 3
    (none_more (BreaksMerge c.args.blocks.now c.args.p c.args.merge) 2 (merge_first c.args.blocks.now c.args.p c.args.merge)
    (suited c.args.blocks.now c.args.p c.args.merge c.args.block.now c.requires.at c.requires.header (true_tells _ c.suits.result (rw c.terminator.ensures at c.suits.ensures) c.if-not-suits.false) c.requires.tidy))
    (true_tells _ c.is_shared.result c.is_shared.ensures c.if-is_shared.true)

pub returns-then-merge-p : goal.returns-then-merge-p
returns-then-merge-p c = answer_some (BreaksMerge c.args.blocks.now c.args.p c.args.merge) 4
    (none_more (BreaksMerge c.args.blocks.now c.args.p c.args.merge) 3
    (none_more (BreaksMerge c.args.blocks.now c.args.p c.args.merge) 2 (merge_first c.args.blocks.now c.args.p c.args.merge)
    (suited c.args.blocks.now c.args.p c.args.merge c.args.block.now c.requires.at c.requires.header (true_tells _ c.suits.result (rw c.terminator.ensures at c.suits.ensures) c.if-not-suits.false) c.requires.tidy))
    (false_tells _ c.is_shared.result c.is_shared.ensures c.if-is_shared.false))
    (not_ahead c.args.blocks.now c.args.p c.args.merge c.args.block.now c.requires.at c.requires.header c.if-merge-p.true)

pub loop_rule-requires-clause-before : goal.loop_rule-requires-clause-before
loop_rule-requires-clause-before c =
    none_more (BreaksMerge c.args.blocks.now c.args.p c.args.merge) 4
    (none_more (BreaksMerge c.args.blocks.now c.args.p c.args.merge) 3
    (none_more (BreaksMerge c.args.blocks.now c.args.p c.args.merge) 2 (merge_first c.args.blocks.now c.args.p c.args.merge)
    (suited c.args.blocks.now c.args.p c.args.merge c.args.block.now c.requires.at c.requires.header (true_tells _ c.suits.result (rw c.terminator.ensures at c.suits.ensures) c.if-not-suits.false) c.requires.tidy))
    (false_tells _ c.is_shared.result c.is_shared.ensures c.if-is_shared.false))
    (ahead c.args.blocks.now c.args.p c.args.merge c.if-merge-p.false)

pub returns-then-crosses : goal.returns-then-crosses
returns-then-crosses c =
    let before : NoneBelow (BreaksMerge c.args.blocks.now c.args.p c.args.merge) 5 =
    none_more (BreaksMerge c.args.blocks.now c.args.p c.args.merge) 4
    (none_more (BreaksMerge c.args.blocks.now c.args.p c.args.merge) 3
    (none_more (BreaksMerge c.args.blocks.now c.args.p c.args.merge) 2 (merge_first c.args.blocks.now c.args.p c.args.merge)
    (suited c.args.blocks.now c.args.p c.args.merge c.args.block.now c.requires.at c.requires.header (true_tells _ c.suits.result (rw c.terminator.ensures at c.suits.ensures) c.if-not-suits.false) c.requires.tidy))
    (false_tells _ c.is_shared.result c.is_shared.ensures c.if-is_shared.false))
    (ahead c.args.blocks.now c.args.p c.args.merge c.if-merge-p.false)
    in
    answer_some (BreaksMerge c.args.blocks.now c.args.p c.args.merge) 7 (selection_answer c.args.blocks.now c.args.p c.args.merge c.in-Selection.is before)
    (true_tells _ c.crosses.result c.crosses.ensures c.if-crosses.true)

pub returns-else-crosses : goal.returns-else-crosses
returns-else-crosses c =
    let before : NoneBelow (BreaksMerge c.args.blocks.now c.args.p c.args.merge) 5 =
    none_more (BreaksMerge c.args.blocks.now c.args.p c.args.merge) 4
    (none_more (BreaksMerge c.args.blocks.now c.args.p c.args.merge) 3
    (none_more (BreaksMerge c.args.blocks.now c.args.p c.args.merge) 2 (merge_first c.args.blocks.now c.args.p c.args.merge)
    (suited c.args.blocks.now c.args.p c.args.merge c.args.block.now c.requires.at c.requires.header (true_tells _ c.suits.result (rw c.terminator.ensures at c.suits.ensures) c.if-not-suits.false) c.requires.tidy))
    (false_tells _ c.is_shared.result c.is_shared.ensures c.if-is_shared.false))
    (ahead c.args.blocks.now c.args.p c.args.merge c.if-merge-p.false)
    in
    selection_end c.args.blocks.now c.args.p c.args.merge c.in-Selection.is before (false_tells _ c.crosses.result c.crosses.ensures c.if-crosses.false)
