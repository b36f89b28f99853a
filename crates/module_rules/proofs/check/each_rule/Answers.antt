use Rattle.std.proofs.Common.{refl, subst, sym, ap, ◌∙◌, ◌≡◌, slice_get, length, Some, arith}
use Rattle.std.proofs.lemmas.Option.{slice_get_read}
use Rattle.module_rules.specs.Answers.{Finds}
use Rattle.module_rules.proofs.ModuleLaws.{clear_more, first_broken, all_clear}
use Rattle.module_rules.proofs.check.each_rule.Goals as goal

pub returns-in-Ok-Some : goal.returns-in-Ok-Some
returns-in-Ok-Some c =
    let version = c.args.tables.now.version in
    let insts = c.args.tables.now.ids in
    let at = c.loop-at.at in
    let x = c.inst-item.result in
    let there : slice_get insts at ≡ Some x = ap (λ l. slice_get l at) (sym c.insts-inst-items.ensures) ∙ slice_get_read _ _ _ _ refl c.loop-at-test.true c.inst-item.is in
    rw c.refused.ensures (first_broken version insts at c.loop-at.word x c.loop-at.invariant there c.in-Ok-Some.rule (subst (λ o. Finds version insts at x 1 16 o) c.in-Ok-Some.field-0-is c.in-Ok-Some.ensures))

pub loop-at-preserved : goal.loop-at-preserved
loop-at-preserved c =
    let version = c.args.tables.now.version in
    let insts = c.args.tables.now.ids in
    let at = c.loop-at.at in
    let x = c.inst-item.result in
    let there : slice_get insts at ≡ Some x = ap (λ l. slice_get l at) (sym c.insts-inst-items.ensures) ∙ slice_get_read _ _ _ _ refl c.loop-at-test.true c.inst-item.is in
    rw c.len.ensures (clear_more version insts at c.loop-at.word x c.loop-at.invariant there (subst (λ o. Finds version insts at x 1 16 o) c.in-Ok-None.field-0-is c.in-Ok-None.ensures))

pub returns : goal.returns
returns c = all_clear _ _ _ _ c.loop-at.invariant (omega (arith, ap length c.insts-inst-items.ensures))
