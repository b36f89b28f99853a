use Rattle.std.proofs.Common.{sym, subst, IsTrue, ◌↔◌, ◌∙◌, arith}
use Rattle.id_rules.specs.Again.{IsDeclaredAgain}
use Rattle.module_rules.proofs.RuleLaws.{found, unbroken_none, past_5, past_6, past_7}
use Rattle.module_rules.specs.Rules.{Breaks}
use Rattle.module_rules.proofs.check.type_rule.Goals as goal

pub returns-then-not-is_listed : goal.returns-then-not-is_listed
returns-then-not-is_listed c = found c.args.tables.now.version c.args.tables.now.ids c.args.at c.args.inst.now 5 8 5 (Breaks.unlisted (sym c.is_listed.ensures ∙ c.if-not-is_listed.true)) (omega arith) (omega arith) (unbroken_none c.args.tables.now.version c.args.tables.now.ids c.args.at c.args.inst.now 5)

pub returns-then-not-fits : goal.returns-then-not-fits
returns-then-not-fits c = found c.args.tables.now.version c.args.tables.now.ids c.args.at c.args.inst.now 5 8 6 (Breaks.unfitting (sym c.fits.ensures ∙ c.if-not-fits.true)) (omega arith) (omega arith) (past_5 c.args.tables.now.version c.args.tables.now.ids c.args.at c.args.inst.now (sym c.is_listed.ensures ∙ c.if-not-is_listed.false))

pub returns-then-is_declared_again : goal.returns-then-is_declared_again
returns-then-is_declared_again c = found c.args.tables.now.version c.args.tables.now.ids c.args.at c.args.inst.now 5 8 7 (Breaks.declared_again ((subst (λ l. IsTrue c.is_declared_again.result ↔ IsDeclaredAgain l c.args.at c.args.inst.now) c.requires.tables.types_are c.is_declared_again.ensures).0 c.if-is_declared_again.true)) (omega arith) (omega arith) (past_6 c.args.tables.now.version c.args.tables.now.ids c.args.at c.args.inst.now (past_5 c.args.tables.now.version c.args.tables.now.ids c.args.at c.args.inst.now (sym c.is_listed.ensures ∙ c.if-not-is_listed.false)) (sym c.fits.ensures ∙ c.if-not-fits.false))

pub returns : goal.returns
returns c = past_7 c.args.tables.now.version c.args.tables.now.ids c.args.at c.args.inst.now _ (past_6 c.args.tables.now.version c.args.tables.now.ids c.args.at c.args.inst.now (past_5 c.args.tables.now.version c.args.tables.now.ids c.args.at c.args.inst.now (sym c.is_listed.ensures ∙ c.if-not-is_listed.false)) (sym c.fits.ensures ∙ c.if-not-fits.false)) (subst (λ l. IsTrue c.is_declared_again.result ↔ IsDeclaredAgain l c.args.at c.args.inst.now) c.requires.tables.types_are c.is_declared_again.ensures) c.if-is_declared_again.false
