use Rattle.std.proofs.Common.{refl, arith, sym, ap, subst, ◌∙◌, ◌≡◌, length, slice_get, Some}
use Rattle.std.proofs.lemmas.Option.{slice_get_read}
use Rattle.decoration_rules.specs.ReadOnly.{IsSetOf}
use Rattle.decoration_rules.proofs.ReadOnlyLaws.{set_first, set_more, set_all}
use Rattle.decoration_rules.proofs.read_only.ReadOnly.of.Goals as goal

pub loop-at-init : goal.loop-at-init
loop-at-init c = set_first _ _ (λ id. rw c.new-set.ensures.empty refl)

pub loop-at-preserved : goal.loop-at-preserved
loop-at-preserved c =
    let is : slice_get c.insts-insts.result.now c.loop-at.at ≡ Some c.index-insts-at.result = slice_get_read c.insts-insts.result.now _ c.loop-at.at c.index-insts-at.result refl c.loop-at-test.true c.index-insts-at.is in
    set_more _ _ _ c.index-insts-at.result c.loop-at.invariant (ap (λ l. slice_get l c.loop-at.at) (sym c.insts-insts.ensures) ∙ is) _ c.in_ok-keep.ensures

pub invariant_of-result : goal.invariant_of-result
invariant_of-result c = subst (IsSetOf _) (sym c.insts-insts.ensures) (set_all _ _ _ c.loop-at.invariant (omega (arith, ap length c.insts-insts.ensures)))
