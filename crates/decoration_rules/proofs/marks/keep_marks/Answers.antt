use Rattle.std.proofs.Common.{sym, ◌∙◌, arith}
use Rattle.std.proofs.lemmas.Grind.{common_steps}
use Rattle.decoration_rules.proofs.MarkLaws.{marked_none, marked_new}
use Rattle.decoration_rules.proofs.marks.keep_marks.Goals as goal

pub returns-in_default : goal.returns-in_default
returns-in_default c = marked_none _ _ (sym c.target.ensures ∙ c.in_default.is)

pub returns-in-Ok : goal.returns-in-Ok
returns-in-Ok c = marked_new _ _ _ c.in-Some.id c.add.result (sym c.target.ensures ∙ c.in-Some.is) (grind (arith, common_steps)) (λ q. grind (arith, common_steps, c.in-Ok.ensures.updates.0 q))
