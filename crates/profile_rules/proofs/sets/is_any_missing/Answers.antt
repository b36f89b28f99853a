use Rattle.std.proofs.Common.{◌∙◌, sym, ap, get_or, not}
use Rattle.profile_tables.specs.Tables.{has}
use Rattle.profile_rules.proofs.ListLaws.{any_head, any_skip}
use Rattle.profile_rules.proofs.sets.is_any_missing.Goals as goal

pub returns-then-not-holds : goal.returns-then-not-holds
returns-then-not-holds c =
    let some = c.args.some.now in
    let i = c.loop-number.number-index in
    sym (c.loop-number.invariant ∙ any_head (λ n. not (has c.args.all.now n)) some i 0 c.loop-number-test.true (ap not (sym (c.in_ok-set.ensures (get_or some i 0)) ∙ sym c.holds.ensures ∙ c.if-not-holds.true)))

pub loop-number-preserved : goal.loop-number-preserved
loop-number-preserved c =
    let some = c.args.some.now in
    let i = c.loop-number.number-index in
    c.loop-number.invariant ∙ any_skip (λ n. not (has c.args.all.now n)) some i 0 c.loop-number-test.true (ap not (sym (c.in_ok-set.ensures (get_or some i 0)) ∙ sym c.holds.ensures ∙ c.if-not-holds.false))
