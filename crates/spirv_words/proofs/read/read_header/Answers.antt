use Rattle.std.proofs.Common.{sym, ◌∙◌, subst, None}
use Rattle.spv_form.specs.Versions.{IsVersionOf}
use Rattle.spirv_words.proofs.HeaderLaws.{first_is_magic, first_is_version, first_is_schema}
use Rattle.spirv_words.proofs.read.read_header.Goals as goal
use Rattle.spirv_words.proofs.read.read_header.Goals.{After-refused-in_default}

pub returns-then-at-ne-MAGIC : goal.returns-then-at-ne-MAGIC
returns-then-at-ne-MAGIC c = rw c.refused.ensures (first_is_magic _ c.requires (λ e. c.if-at-ne-MAGIC.true (c.at.ensures ∙ e)))

other : (c : After-refused-in_default) → IsVersionOf None c.at-2.result
other c = subst (λ v. IsVersionOf v c.at-2.result) c.in_default.is c.of_word.ensures

pub returns-in_default : goal.returns-in_default
returns-in_default c =
    rw c.refused-in_default.ensures
    (first_is_version _ c.requires (sym c.at.ensures ∙ c.if-at-ne-MAGIC.false) (λ e. (other c).0 (c.at-2.ensures ∙ e)) (λ e. (other c).1 (c.at-2.ensures ∙ e)))

pub returns-then-at-ne-SCHEMA : goal.returns-then-at-ne-SCHEMA
returns-then-at-ne-SCHEMA c =
    rw c.refused-then-at-ne-SCHEMA.ensures
    (first_is_schema _ c.requires (sym c.at.ensures ∙ c.if-at-ne-MAGIC.false) c.in-Some.version (sym c.at-2.ensures ∙ c.in-Some.ensures) (λ e. c.if-at-ne-SCHEMA.true (c.at-3.ensures ∙ e)))
