use Rattle.std.proofs.Common.{sym, ◌∙◌}
use Rattle.module_rules.proofs.RuleLaws.{miss_1, miss_2, miss_10, miss_none}
use Rattle.module_rules.proofs.check.missing_rule.Goals as goal

pub returns-then-not-has_end : goal.returns-then-not-has_end
returns-then-not-has_end c = miss_1 _ (sym c.has_end.ensures ∙ c.if-not-has_end.true)

pub returns-then-not-has_four : goal.returns-then-not-has_four
returns-then-not-has_four c = miss_2 _ (sym c.has_end.ensures ∙ c.if-not-has_end.false) (sym c.has_four.ensures ∙ c.if-not-has_four.true)

pub returns-then-not-has_block : goal.returns-then-not-has_block
returns-then-not-has_block c = miss_10 _ (sym c.has_end.ensures ∙ c.if-not-has_end.false) (sym c.has_four.ensures ∙ c.if-not-has_four.false) (sym c.has_block.ensures ∙ c.if-not-has_block.true)

pub returns : goal.returns
returns c = miss_none _ (sym c.has_end.ensures ∙ c.if-not-has_end.false) (sym c.has_four.ensures ∙ c.if-not-has_four.false) (sym c.has_block.ensures ∙ c.if-not-has_block.false)
