use Rattle.std.proofs.Common.{sym, ap, ◌∙◌, arith}
use Rattle.order_rules.specs.Once.{is_placed}
use Rattle.order_rules.specs.Merges.{MakesCrowded}
use Rattle.module_rules.proofs.RuleLaws.{the_place, found, unbroken_none, past_11, past_12, past_14, past_15}
use Rattle.module_rules.specs.Rules.{Breaks}
use Rattle.module_rules.proofs.check.size_rule.Goals as goal

pub returns-then-not-is_placed : goal.returns-then-not-is_placed
returns-then-not-is_placed c = found c.args.tables.now.version c.args.tables.now.ids c.args.at c.args.inst.now 11 16 11 (Breaks.misplaced (ap (λ l. is_placed l c.args.at c.args.inst.now) (sym c.requires.tables.landmarks_are) ∙ sym c.is_placed.ensures ∙ c.if-not-is_placed.true)) (omega arith) (omega arith) (unbroken_none c.args.tables.now.version c.args.tables.now.ids c.args.at c.args.inst.now 11)

pub returns-then-is_wrong_size : goal.returns-then-is_wrong_size
returns-then-is_wrong_size c = found c.args.tables.now.version c.args.tables.now.ids c.args.at c.args.inst.now 11 16 12 (Breaks.wrong_size (sym c.is_wrong_size.ensures ∙ c.if-is_wrong_size.true)) (omega arith) (omega arith) (past_11 c.args.tables.now.version c.args.tables.now.ids c.args.at c.args.inst.now (ap (λ l. is_placed l c.args.at c.args.inst.now) (sym c.requires.tables.landmarks_are) ∙ sym c.is_placed.ensures ∙ c.if-not-is_placed.false))

pub returns-then-is_there : goal.returns-then-is_there
returns-then-is_there c = found c.args.tables.now.version c.args.tables.now.ids c.args.at c.args.inst.now 11 16 14 (Breaks.crowds (the_place (MakesCrowded c.args.tables.now.ids) c.args.tables.now.crowded c.args.at c.requires.tables.crowded_is (sym c.is_there.ensures ∙ c.if-is_there.true))) (omega arith) (omega arith) (past_12 c.args.tables.now.version c.args.tables.now.ids c.args.at c.args.inst.now (past_11 c.args.tables.now.version c.args.tables.now.ids c.args.at c.args.inst.now (ap (λ l. is_placed l c.args.at c.args.inst.now) (sym c.requires.tables.landmarks_are) ∙ sym c.is_placed.ensures ∙ c.if-not-is_placed.false)) (sym c.is_wrong_size.ensures ∙ c.if-is_wrong_size.false))

pub returns-then-has_many_pairs : goal.returns-then-has_many_pairs
returns-then-has_many_pairs c = found c.args.tables.now.version c.args.tables.now.ids c.args.at c.args.inst.now 11 16 15 (Breaks.many_pairs (sym c.has_many_pairs.ensures ∙ c.if-has_many_pairs.true)) (omega arith) (omega arith) (past_14 c.args.tables.now.version c.args.tables.now.ids c.args.at c.args.inst.now _ (past_12 c.args.tables.now.version c.args.tables.now.ids c.args.at c.args.inst.now (past_11 c.args.tables.now.version c.args.tables.now.ids c.args.at c.args.inst.now (ap (λ l. is_placed l c.args.at c.args.inst.now) (sym c.requires.tables.landmarks_are) ∙ sym c.is_placed.ensures ∙ c.if-not-is_placed.false)) (sym c.is_wrong_size.ensures ∙ c.if-is_wrong_size.false)) c.requires.tables.crowded_is (sym c.is_there.ensures ∙ c.if-is_there.false))

pub returns : goal.returns
returns c = past_15 c.args.tables.now.version c.args.tables.now.ids c.args.at c.args.inst.now (past_14 c.args.tables.now.version c.args.tables.now.ids c.args.at c.args.inst.now _ (past_12 c.args.tables.now.version c.args.tables.now.ids c.args.at c.args.inst.now (past_11 c.args.tables.now.version c.args.tables.now.ids c.args.at c.args.inst.now (ap (λ l. is_placed l c.args.at c.args.inst.now) (sym c.requires.tables.landmarks_are) ∙ sym c.is_placed.ensures ∙ c.if-not-is_placed.false)) (sym c.is_wrong_size.ensures ∙ c.if-is_wrong_size.false)) c.requires.tables.crowded_is (sym c.is_there.ensures ∙ c.if-is_there.false)) (sym c.has_many_pairs.ensures ∙ c.if-has_many_pairs.false)
