use Rattle.std.proofs.Common.{sym, ap, ◌∙◌, arith}
use Rattle.std.proofs.lemmas.Option.{slice_get_within}
use Rattle.order_rules.specs.Order.{OutOfOrder}
use Rattle.order_rules.specs.Once.{is_wrong_once}
use Rattle.module_rules.proofs.RuleLaws.{the_place, found, unbroken_none, past_1, past_2, past_3, past_4}
use Rattle.module_rules.specs.Rules.{Breaks}
use Rattle.module_rules.proofs.check.order_rule.Goals as goal

pub returns-then-is_there : goal.returns-then-is_there
returns-then-is_there c = found c.args.tables.now.version c.args.tables.now.ids c.args.at c.args.inst.now 1 5 1 (Breaks.out_of_order (the_place (OutOfOrder c.args.tables.now.ids) c.args.tables.now.out_of_order c.args.at c.requires.tables.out_of_order_is (sym c.is_there.ensures ∙ c.if-is_there.true))) (omega arith) (omega arith) (unbroken_none c.args.tables.now.version c.args.tables.now.ids c.args.at c.args.inst.now 1)

pub returns-then-is_wrong_once : goal.returns-then-is_wrong_once
returns-then-is_wrong_once c = found c.args.tables.now.version c.args.tables.now.ids c.args.at c.args.inst.now 1 5 2 (Breaks.wrong_once (ap (λ l. is_wrong_once l c.args.at c.args.inst.now) (sym c.requires.tables.landmarks_are) ∙ sym c.is_wrong_once.ensures ∙ c.if-is_wrong_once.true)) (omega arith) (omega arith) (past_1 c.args.tables.now.version c.args.tables.now.ids c.args.at c.args.inst.now _ c.requires.tables.out_of_order_is (sym c.is_there.ensures ∙ c.if-is_there.false))

pub returns-then-is_defined_again : goal.returns-then-is_defined_again
returns-then-is_defined_again c = found c.args.tables.now.version c.args.tables.now.ids c.args.at c.args.inst.now 1 5 3 (Breaks.defined_again (sym c.is_defined_again.ensures ∙ c.if-is_defined_again.true)) (omega arith) (omega arith) (past_2 c.args.tables.now.version c.args.tables.now.ids c.args.at c.args.inst.now (past_1 c.args.tables.now.version c.args.tables.now.ids c.args.at c.args.inst.now _ c.requires.tables.out_of_order_is (sym c.is_there.ensures ∙ c.if-is_there.false)) (ap (λ l. is_wrong_once l c.args.at c.args.inst.now) (sym c.requires.tables.landmarks_are) ∙ sym c.is_wrong_once.ensures ∙ c.if-is_wrong_once.false))

pub misuses-requires-clause-within : goal.misuses-requires-clause-within
misuses-requires-clause-within c = slice_get_within _ _ _ c.requires.there

pub returns-then-misuses : goal.returns-then-misuses
returns-then-misuses c = found c.args.tables.now.version c.args.tables.now.ids c.args.at c.args.inst.now 1 5 4 (Breaks.misuses (c.misuses.ensures.0 c.if-misuses.true)) (omega arith) (omega arith) (past_3 c.args.tables.now.version c.args.tables.now.ids c.args.at c.args.inst.now (past_2 c.args.tables.now.version c.args.tables.now.ids c.args.at c.args.inst.now (past_1 c.args.tables.now.version c.args.tables.now.ids c.args.at c.args.inst.now _ c.requires.tables.out_of_order_is (sym c.is_there.ensures ∙ c.if-is_there.false)) (ap (λ l. is_wrong_once l c.args.at c.args.inst.now) (sym c.requires.tables.landmarks_are) ∙ sym c.is_wrong_once.ensures ∙ c.if-is_wrong_once.false)) (sym c.is_defined_again.ensures ∙ c.if-is_defined_again.false))

pub returns : goal.returns
returns c = past_4 c.args.tables.now.version c.args.tables.now.ids c.args.at c.args.inst.now _ (past_3 c.args.tables.now.version c.args.tables.now.ids c.args.at c.args.inst.now (past_2 c.args.tables.now.version c.args.tables.now.ids c.args.at c.args.inst.now (past_1 c.args.tables.now.version c.args.tables.now.ids c.args.at c.args.inst.now _ c.requires.tables.out_of_order_is (sym c.is_there.ensures ∙ c.if-is_there.false)) (ap (λ l. is_wrong_once l c.args.at c.args.inst.now) (sym c.requires.tables.landmarks_are) ∙ sym c.is_wrong_once.ensures ∙ c.if-is_wrong_once.false)) (sym c.is_defined_again.ensures ∙ c.if-is_defined_again.false)) c.misuses.ensures c.if-misuses.false
