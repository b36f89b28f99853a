use Rattle.std.proofs.Common.{ℕ, subst, sym}
use Rattle.dx_base.specs.First.{IsFirst}
use Rattle.flow_rules.specs.Rules.{Broken}
use Rattle.flow_rules.proofs.Blocks.{at_index}
use Rattle.flow_rules.proofs.Deciding.{true_tells, false_tells}
use Rattle.flow_rules.proofs.Firsts.{first_label, first_stray, no_strays, first_merge, first_end, clear_more}
use Rattle.flow_rules.proofs.check.block_fault.Goals as goal

pub returns-then-breaks_label : goal.returns-then-breaks_label
returns-then-breaks_label c =
    let at = at_index c.args.blocks.now c.args.p c.index-blocks-p.result c.requires.within c.index-blocks-p.is in
    subst (λ (w : ℕ). IsFirst (Broken c.args.blocks.now) 12 w) (sym c.word.ensures)
    (first_label c.args.blocks.now c.requires.order c.args.p c.index-blocks-p.result at c.requires.clear (true_tells _ c.breaks_label.result c.breaks_label.ensures c.if-breaks_label.true))

pub returns-in-Some : goal.returns-in-Some
returns-in-Some c =
    let at = at_index c.args.blocks.now c.args.p c.index-blocks-p.result c.requires.within c.index-blocks-p.is in
    let (f, is, word) = c.in-Some.ensures in
    subst (λ (w : ℕ). IsFirst (Broken c.args.blocks.now) 2 w) (sym word)
    (first_stray c.args.blocks.now c.requires.order c.args.p c.index-blocks-p.result at c.requires.clear (false_tells _ c.breaks_label.result c.breaks_label.ensures c.if-breaks_label.false) f is)

pub merge_fault-requires-clause-at : goal.merge_fault-requires-clause-at
merge_fault-requires-clause-at c = at_index c.args.blocks.now c.args.p c.index-blocks-p.result c.requires.within c.index-blocks-p.is

pub merge_fault-requires-clause-tidy : goal.merge_fault-requires-clause-tidy
merge_fault-requires-clause-tidy c =
    let at = at_index c.args.blocks.now c.args.p c.index-blocks-p.result c.requires.within c.index-blocks-p.is in
    no_strays c.args.blocks.now c.requires.order c.args.p c.index-blocks-p.result at c.requires.clear (false_tells _ c.breaks_label.result c.breaks_label.ensures c.if-breaks_label.false) c.in-None.ensures

pub returns-in-Some-merge_fault : goal.returns-in-Some-merge_fault
returns-in-Some-merge_fault c =
    let at = at_index c.args.blocks.now c.args.p c.index-blocks-p.result c.requires.within c.index-blocks-p.is in
    let clean = false_tells _ c.breaks_label.result c.breaks_label.ensures c.if-breaks_label.false in
    let tidy = no_strays c.args.blocks.now c.requires.order c.args.p c.index-blocks-p.result at c.requires.clear clean c.in-None.ensures in
    let (g, is, word, answer) = c.in-Some-merge_fault.ensures in
    subst (λ (w : ℕ). IsFirst (Broken c.args.blocks.now) c.in-Some-merge_fault.fault.rule w) (sym word)
    (first_merge c.args.blocks.now c.requires.order c.args.p c.index-blocks-p.result at c.requires.clear clean tidy g c.in-Some-merge_fault.fault.rule is answer)

pub end_rule-requires-clause-at : goal.end_rule-requires-clause-at
end_rule-requires-clause-at c = at_index c.args.blocks.now c.args.p c.index-blocks-p.result c.requires.within c.index-blocks-p.is

pub returns-in-Some-end_rule : goal.returns-in-Some-end_rule
returns-in-Some-end_rule c =
    let at = at_index c.args.blocks.now c.args.p c.index-blocks-p.result c.requires.within c.index-blocks-p.is in
    let clean = false_tells _ c.breaks_label.result c.breaks_label.ensures c.if-breaks_label.false in
    subst (λ (w : ℕ). IsFirst (Broken c.args.blocks.now) c.in-Some-end_rule.rule w) (sym c.end_word.ensures)
    (first_end c.args.blocks.now c.requires.order c.args.p c.index-blocks-p.result at c.requires.clear clean c.in-None-merge_fault.ensures c.in-Some-end_rule.rule c.in-Some-end_rule.ensures)

pub returns-in-None-end_rule : goal.returns-in-None-end_rule
returns-in-None-end_rule c =
    let at = at_index c.args.blocks.now c.args.p c.index-blocks-p.result c.requires.within c.index-blocks-p.is in
    let clean = false_tells _ c.breaks_label.result c.breaks_label.ensures c.if-breaks_label.false in
    clear_more c.args.blocks.now c.requires.order c.args.p c.index-blocks-p.result at c.requires.clear clean c.in-None-merge_fault.ensures c.in-None-end_rule.ensures
