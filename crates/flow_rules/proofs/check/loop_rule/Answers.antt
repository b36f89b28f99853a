use Rattle.flow_rules.specs.Rules.{BreaksMerge}
use Rattle.flow_rules.specs.Rules.BreaksMerge.{s5_before, s5_behind, s6}
use Rattle.flow_rules.proofs.Blocks.{at_below}
use Rattle.flow_rules.proofs.Deciding.{true_tells, false_tells}
use Rattle.flow_rules.proofs.Merging.{none_more, answer_some, answer_none, merge_last, loop_5, none_6, none_7, none_8}
use Rattle.flow_rules.proofs.check.loop_rule.Goals as goal

pub returns-then-continue_target-p : goal.returns-then-continue_target-p
returns-then-continue_target-p c = answer_some (BreaksMerge c.args.blocks.now c.args.p c.args.merge) 5 c.requires.before (s5_before c.args.continue_target c.requires.loops c.if-continue_target-p.true)

pub returns-then-merge-continue_target : goal.returns-then-merge-continue_target
returns-then-merge-continue_target c = answer_some (BreaksMerge c.args.blocks.now c.args.p c.args.merge) 5 c.requires.before (s5_behind c.args.continue_target c.requires.loops c.if-merge-continue_target.true)

pub sole_back-requires-clause-within : goal.sole_back-requires-clause-within
sole_back-requires-clause-within c = at_below c.args.blocks.now c.args.p c.requires.loops.header.block c.requires.loops.header.at

pub returns-in-None : goal.returns-in-None
returns-in-None c = answer_some (BreaksMerge c.args.blocks.now c.args.p c.args.merge) 6
    (none_6 c.args.blocks.now c.args.p c.args.merge c.args.continue_target c.requires.loops c.requires.before c.if-continue_target-p.false c.if-merge-continue_target.false)
    (s6 c.args.continue_target c.requires.loops c.in-None.ensures)

pub crosses-requires-clause-target : goal.crosses-requires-clause-target
crosses-requires-clause-target c = loop_5 c.args.blocks.now c.args.p c.args.merge c.args.continue_target c.requires.loops c.if-continue_target-p.false c.if-merge-continue_target.false

pub returns-then-crosses : goal.returns-then-crosses
returns-then-crosses c = answer_some (BreaksMerge c.args.blocks.now c.args.p c.args.merge) 7
    (none_7 c.args.blocks.now c.args.p c.args.merge c.args.continue_target c.requires.loops c.requires.before c.if-continue_target-p.false c.if-merge-continue_target.false _ c.in-Some.ensures)
    (true_tells _ c.crosses.result c.crosses.ensures c.if-crosses.true)

pub returns-then-leaves_continue : goal.returns-then-leaves_continue
returns-then-leaves_continue c = answer_some (BreaksMerge c.args.blocks.now c.args.p c.args.merge) 8
    (none_8 c.args.blocks.now c.args.p c.args.merge c.args.continue_target c.requires.loops c.requires.before c.if-continue_target-p.false c.if-merge-continue_target.false _ c.in-Some.ensures
    (false_tells _ c.crosses.result c.crosses.ensures c.if-crosses.false))
    (true_tells _ c.leaves_continue.result c.leaves_continue.ensures c.if-leaves_continue.true)

pub returns : goal.returns
returns c = answer_none (BreaksMerge c.args.blocks.now c.args.p c.args.merge) 9
    (none_more (BreaksMerge c.args.blocks.now c.args.p c.args.merge) 8
    (none_8 c.args.blocks.now c.args.p c.args.merge c.args.continue_target c.requires.loops c.requires.before c.if-continue_target-p.false c.if-merge-continue_target.false _ c.in-Some.ensures
    (false_tells _ c.crosses.result c.crosses.ensures c.if-crosses.false))
    (false_tells _ c.leaves_continue.result c.leaves_continue.ensures c.if-leaves_continue.false))
    (merge_last c.args.blocks.now c.args.p c.args.merge)
