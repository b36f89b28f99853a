use Rattle.profile_rules.proofs.CheckLaws.{rule_operand, rule_block, rule_place, rule_call, rule_row}
use Rattle.profile_rules.proofs.check.line_rule.Goals as goal

pub returns-then-first-gt0 : goal.returns-then-first-gt0
returns-then-first-gt0 c = rule_operand c.args.scope.now c.args.line.now c.args.step _ c.in_ok-first.ensures c.if-first-gt0.true

pub returns-then-block-gt0 : goal.returns-then-block-gt0
returns-then-block-gt0 c = rule_block c.args.scope.now c.args.line.now c.args.step _ _ c.in_ok-first.ensures c.if-first-gt0.false c.in_ok-block.ensures c.if-block-gt0.true

pub returns-then-place-gt0 : goal.returns-then-place-gt0
returns-then-place-gt0 c = rule_place c.args.scope.now c.args.line.now c.args.step _ _ _ c.in_ok-first.ensures c.if-first-gt0.false c.in_ok-block.ensures c.if-block-gt0.false c.place_rule-place.ensures c.if-place-gt0.true

pub returns-then-call-gt0 : goal.returns-then-call-gt0
returns-then-call-gt0 c = rule_call c.args.scope.now c.args.line.now c.args.step _ _ _ _ c.in_ok-first.ensures c.if-first-gt0.false c.in_ok-block.ensures c.if-block-gt0.false c.place_rule-place.ensures c.if-place-gt0.false
    c.call_rule-call.ensures c.if-call-gt0.true

pub returns : goal.returns
returns c = rule_row c.args.scope.now c.args.line.now c.args.step _ _ _ _ _ c.in_ok-first.ensures c.if-first-gt0.false c.in_ok-block.ensures c.if-block-gt0.false c.place_rule-place.ensures c.if-place-gt0.false
    c.call_rule-call.ensures c.if-call-gt0.false c.row_rule.ensures
