use Rattle.std.proofs.Common.{sym, ◌∙◌}
use Rattle.spirv_meaning.specs.Names.{text_words}
use Rattle.spirv_meaning.proofs.Searching.{named_is, named_not}
use Rattle.spirv_meaning.proofs.site.named_id.Goals as goal

pub returns-then-spells : goal.returns-then-spells
returns-then-spells c =
    sym (named_is c.args.inst.now (text_words c.args.name.now) c.in_ok-id.id.now c.in_ok-id.text.now c.if-inst-ne-NAME.false (sym c.as_slice.ensures ∙ c.in_ok-id.ensures.cases.0) (c.spells.ensures.0 c.if-spells.true))

pub returns-else-spells : goal.returns-else-spells
returns-else-spells c =
    sym (named_not c.args.inst.now (text_words c.args.name.now) c.in_ok-id.id.now c.in_ok-id.text.now c.if-inst-ne-NAME.false (sym c.as_slice.ensures ∙ c.in_ok-id.ensures.cases.0) (λ same. let clash = sym c.if-spells.false ∙ c.spells.ensures.1 same in absurd (cc)))
