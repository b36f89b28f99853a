use Rattle.std.proofs.Common.{sym, ◌∙◌, arith}
use Rattle.std.proofs.lemmas.Grind.{common_steps}
use Rattle.decoration_rules.proofs.ReadOnlyLaws.{next_none, next_not, next_new}
use Rattle.decoration_rules.proofs.read_only.keep.Goals as goal

pub returns-in_default : goal.returns-in_default
returns-in_default c = next_none _ _ _ _ (sym c.result_of.ensures ∙ c.in_default.is)

pub returns-then-not-adds : goal.returns-then-not-adds
returns-then-not-adds c = next_not _ _ _ _ c.in-Some.id (sym c.result_of.ensures ∙ c.in-Some.is) (sym c.adds.ensures ∙ c.if-not-adds.true)

pub returns-in-Ok : goal.returns-in-Ok
returns-in-Ok c = next_new _ _ _ _ _ c.in-Some.id (sym c.result_of.ensures ∙ c.in-Some.is) (sym c.adds.ensures ∙ c.if-not-adds.false) (λ q. grind (arith, common_steps, c.in-Ok.ensures.updates.0 q))
