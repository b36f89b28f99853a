use Rattle.std.proofs.Common.{sym, subst, ◌∙◌, arith}
use Rattle.module_rules.specs.Answers.{IsWriteAnswer}
use Rattle.module_rules.proofs.RuleLaws.{found, unbroken_none, formed_at, broken_8, past_8, past_9, past_10}
use Rattle.module_rules.specs.Rules.{Breaks}
use Rattle.module_rules.proofs.check.entry_rule.Goals as goal

pub returns-then-not-is_sound_variable : goal.returns-then-not-is_sound_variable
returns-then-not-is_sound_variable c = found c.args.tables.now.version c.args.tables.now.ids c.args.at c.args.inst.now 8 11 8 (Breaks.unsound (sym c.is_sound_variable.ensures ∙ c.if-not-is_sound_variable.true)) (omega arith) (omega arith) (unbroken_none c.args.tables.now.version c.args.tables.now.ids c.args.at c.args.inst.now 8)

pub returns-then-writes_read_only : goal.returns-then-writes_read_only
returns-then-writes_read_only c = found c.args.tables.now.version c.args.tables.now.ids c.args.at c.args.inst.now 8 11 8 (broken_8 c.args.tables.now.version c.args.tables.now.ids c.args.at c.args.inst.now (subst (λ b. IsWriteAnswer b c.args.tables.now.ids c.args.inst.now) c.if-writes_read_only.true c.writes_read_only.ensures)) (omega arith) (omega arith) (unbroken_none c.args.tables.now.version c.args.tables.now.ids c.args.at c.args.inst.now 8)

pub is_wrong_interface-requires : goal.is_wrong_interface-requires
is_wrong_interface-requires c = let few = formed_at c.args.tables.now.ids c.args.at c.args.inst.now c.requires.tables.formed c.requires.there in omega arith

pub returns-then-branch : goal.returns-then-branch
returns-then-branch c = found c.args.tables.now.version c.args.tables.now.ids c.args.at c.args.inst.now 8 11 9 (Breaks.wrong_interface (sym c.in_ok-is_wrong_interface.ensures ∙ c.if-branch.true)) (omega arith) (omega arith) (past_8 c.args.tables.now.version c.args.tables.now.ids c.args.at c.args.inst.now (sym c.is_sound_variable.ensures ∙ c.if-not-is_sound_variable.false) (subst (λ b. IsWriteAnswer b c.args.tables.now.ids c.args.inst.now) c.if-writes_read_only.false c.writes_read_only.ensures))

pub returns-then-is_wrong_entry : goal.returns-then-is_wrong_entry
returns-then-is_wrong_entry c = found c.args.tables.now.version c.args.tables.now.ids c.args.at c.args.inst.now 8 11 10 (Breaks.wrong_entry (sym c.is_wrong_entry.ensures ∙ c.if-is_wrong_entry.true)) (omega arith) (omega arith) (past_9 c.args.tables.now.version c.args.tables.now.ids c.args.at c.args.inst.now (past_8 c.args.tables.now.version c.args.tables.now.ids c.args.at c.args.inst.now (sym c.is_sound_variable.ensures ∙ c.if-not-is_sound_variable.false) (subst (λ b. IsWriteAnswer b c.args.tables.now.ids c.args.inst.now) c.if-writes_read_only.false c.writes_read_only.ensures)) (sym c.in_ok-is_wrong_interface.ensures ∙ c.if-branch.false))

pub returns : goal.returns
returns c = past_10 c.args.tables.now.version c.args.tables.now.ids c.args.at c.args.inst.now (past_9 c.args.tables.now.version c.args.tables.now.ids c.args.at c.args.inst.now (past_8 c.args.tables.now.version c.args.tables.now.ids c.args.at c.args.inst.now (sym c.is_sound_variable.ensures ∙ c.if-not-is_sound_variable.false) (subst (λ b. IsWriteAnswer b c.args.tables.now.ids c.args.inst.now) c.if-writes_read_only.false c.writes_read_only.ensures)) (sym c.in_ok-is_wrong_interface.ensures ∙ c.if-branch.false)) (sym c.is_wrong_entry.ensures ∙ c.if-is_wrong_entry.false)
