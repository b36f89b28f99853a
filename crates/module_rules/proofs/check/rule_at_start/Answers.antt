use Rattle.std.proofs.Common.{refl, subst, sym, ap, ◌∙◌, ◌≡◌, ◌<◌, slice_get, length, Some, None, arith}
use Rattle.std.proofs.lemmas.Option.{slice_get_read, same_Some}
use Rattle.spv_form.specs.declared.module.Inst.{Inst}
use Rattle.module_rules.specs.Answers.{IsLeastAtStart, Finds}
use Rattle.module_rules.proofs.ModuleLaws.{start_alone, start_with}
use Rattle.module_rules.proofs.check.rule_at_start.Goals as goal

pub returns-in-Some : goal.returns-in-Some
returns-in-Some c =
    let version = c.args.tables.now.version in
    let insts = c.args.tables.now.ids in
    let x = c.index-insts-0.result in
    let some : 0 < length c.insts-insts.result.now = omega arith in
    let there : slice_get insts 0 ≡ Some x = ap (λ l. slice_get l 0) (sym c.insts-insts.ensures) ∙ slice_get_read _ _ _ _ refl some c.index-insts-0.is in
    subst (IsLeastAtStart version insts) (sym c.min.ensures) (start_with version insts c.args.missing c.requires.missing x c.in-Some.rule there (subst (λ o. Finds version insts 0 x 1 16 o) c.in-Some.is c.in_ok-rule.ensures))

pub returns-in-None : goal.returns-in-None
returns-in-None c =
    let version = c.args.tables.now.version in
    let insts = c.args.tables.now.ids in
    let x = c.index-insts-0.result in
    let some : 0 < length c.insts-insts.result.now = omega arith in
    let there : slice_get insts 0 ≡ Some x = ap (λ l. slice_get l 0) (sym c.insts-insts.ensures) ∙ slice_get_read _ _ _ _ refl some c.index-insts-0.is in
    let f : Finds version insts 0 x 1 16 None = subst (λ o. Finds version insts 0 x 1 16 o) c.in-None.is c.in_ok-rule.ensures in
    start_alone version insts c.args.missing c.requires.missing (λ y e. subst (λ (z : Inst). Finds version insts 0 z 1 16 None) (same_Some x y (sym there ∙ e)) f)
