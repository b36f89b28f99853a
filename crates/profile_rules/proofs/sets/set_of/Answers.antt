use Rattle.std.proofs.Common.{◌∙◌, ◌||◌, ◌==◌, sym, ap, get_or}
use Rattle.std.proofs.lemmas.List.Folds.{list_any_more}
use Rattle.profile_rules.proofs.sets.set_of.Goals as goal

pub loop-number-preserved : goal.loop-number-preserved
loop-number-preserved c = λ q.
    c.in_ok-insert.ensures.adds q ∙ ap (λ b. b || (get_or c.args.numbers.now c.loop-number.number-index 0 == q)) (c.loop-number.invariant q)
    ∙ sym (list_any_more (λ m. m == q) c.args.numbers.now c.loop-number.number-index 0 c.loop-number-test.true)
