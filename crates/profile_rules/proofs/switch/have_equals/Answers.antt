use Rattle.std.proofs.Common.{rules, ◌∙◌, ◌||◌, sym, ap, get_or}
use Rattle.std.specs.Ordering.{nat_cmp}
use Rattle.std.specs.BTreeSet as tree
use Rattle.profile_rules.specs.Rules.{is_number}
use Rattle.profile_rules.specs.Helping.{hits}
use Rattle.profile_rules.proofs.ListLaws.{drop_at}
use Rattle.profile_rules.proofs.SetLaws.{equals_behind, behind_nothing, seen_more, seen_again}
use Rattle.profile_rules.proofs.switch.have_equals.Goals as goal

pub loop-case-init : goal.loop-case-init
loop-case-init c = behind_nothing c.args.pool.now (tree.contains nat_cmp c.new-seen.result) c.args.cases.now (λ q. search rules)

pub returns-then-branch : goal.returns-then-branch
returns-then-branch c =
    let pool = c.args.pool.now in
    let seen = tree.contains nat_cmp c.loop-case.seen in
    let cases = c.args.cases.now in
    let i = c.loop-case.case-index in
    let here = ap (hits seen) (sym c.constant.ensures) ∙ sym c.in_ok-was_seen.ensures.was ∙ c.if-branch.true in
    sym (c.loop-case.invariant ∙ ap (equals_behind pool seen) (drop_at cases i (0, 0) c.loop-case-test.true) ∙ seen_again pool seen (get_or cases i (0, 0)) _ here)

pub loop-case-preserved : goal.loop-case-preserved
loop-case-preserved c =
    let pool = c.args.pool.now in
    let seen = tree.contains nat_cmp c.loop-case.seen in
    let cases = c.args.cases.now in
    let i = c.loop-case.case-index in
    let here = ap (hits seen) (sym c.constant.ensures) ∙ sym c.in_ok-was_seen.ensures.was ∙ c.if-branch.false in
    c.loop-case.invariant ∙ ap (equals_behind pool seen) (drop_at cases i (0, 0) c.loop-case-test.true)
    ∙ seen_more pool seen _ (get_or cases i (0, 0)) _ here (λ q. c.in_ok-was_seen.ensures.adds q ∙ ap (λ n. seen q || is_number q n) c.constant.ensures)
