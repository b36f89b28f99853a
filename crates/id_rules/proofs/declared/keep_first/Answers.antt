use Rattle.std.proofs.Common.{sym, ◌∙◌}
use Rattle.id_rules.proofs.KeyLaws.{kept_none, kept_there, kept_new}
use Rattle.id_rules.proofs.declared.keep_first.Goals as goal

pub returns-then-not-is_single : goal.returns-then-not-is_single
returns-then-not-is_single c = kept_none _ _ _ (sym c.is_single.ensures ∙ c.if-not-is_single.true)

pub returns-then-contains_key : goal.returns-then-contains_key
returns-then-contains_key c = kept_there _ _ _ c.key_of-key.result c.key_of-key.ensures (sym c.is_single.ensures ∙ c.if-not-is_single.false) (sym c.contains_key.ensures ∙ c.if-contains_key.true)

pub returns-in-Ok : goal.returns-in-Ok
returns-in-Ok c = kept_new _ _ _ _ c.key_of-key.result c.key_of-key.ensures (sym c.is_single.ensures ∙ c.if-not-is_single.false) (sym c.contains_key.ensures ∙ c.if-contains_key.false) c.in-Ok.ensures.updates.0
