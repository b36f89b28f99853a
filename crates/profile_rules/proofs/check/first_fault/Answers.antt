use Rattle.profile_rules.proofs.CheckLaws.{checking_first, checking_more, checking_stops, checking_whole, in_block}
use Rattle.profile_rules.proofs.check.first_fault.Goals as goal

pub loop-line-init : goal.loop-line-init
loop-line-init c = checking_first _ _ c.in_ok-seen.ensures

pub line_rule-requires : goal.line_rule-requires
line_rule-requires c = in_block _ _ c.lines-line-items.ensures _ _ c.requires.blocks c.loop-line-test.true c.line-item.is

pub loop-line-preserved : goal.loop-line-preserved
loop-line-preserved c = checking_more _ _ c.lines-line-items.ensures _ _ _ _ _ _ c.loop-line.invariant c.loop-line-test.true c.line-item.is c.in_ok-step.ensures c.in_ok-rule.ensures c.if-rule-gt0.false

pub returns-then-rule-gt0 : goal.returns-then-rule-gt0
returns-then-rule-gt0 c = checking_stops _ _ c.lines-line-items.ensures _ _ _ _ _ _ c.loop-line.invariant c.loop-line-test.true c.line-item.is c.in_ok-step.ensures c.in_ok-rule.ensures c.requires.rises c.if-rule-gt0.true

pub returns : goal.returns
returns c = checking_whole _ _ c.lines-line-items.ensures _ _ c.loop-line.invariant c.loop-line-test.false c.loop-line.auto.line-index-end
