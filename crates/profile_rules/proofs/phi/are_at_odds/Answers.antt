use Rattle.std.proofs.Common.{◌∙◌, ◌==◌, sym, ap, get_or}
use Rattle.std.specs.Ordering.{nat_cmp}
use Rattle.std.specs.BTreeMap as tree
use Rattle.profile_rules.specs.Helping.{agrees_with, first_kept}
use Rattle.profile_rules.proofs.PhiLaws.{agreed_more, agreed_not, agreed_whole}
use Rattle.profile_rules.proofs.phi.are_at_odds.Goals as goal

pub returns-then-not-branch : goal.returns-then-not-branch
returns-then-not-branch c =
    let entries = c.args.entries.now in
    let i = c.loop-entry.entry-index in
    let firsts = tree.get nat_cmp c.loop-entry.firsts in
    let bad = ap (agrees_with (firsts (get_or entries i (0, 0)).1)) (sym c.operand_of.ensures) ∙ sym c.in_ok-agrees.ensures.good ∙ c.if-not-branch.true in
    sym (agreed_not c.args.scope.now entries i (0, 0) firsts c.loop-entry.invariant c.loop-entry-test.true bad)

pub loop-entry-preserved : goal.loop-entry-preserved
loop-entry-preserved c =
    let entries = c.args.entries.now in
    let i = c.loop-entry.entry-index in
    let firsts = tree.get nat_cmp c.loop-entry.firsts in
    let good = ap (agrees_with (firsts (get_or entries i (0, 0)).1)) (sym c.operand_of.ensures) ∙ sym c.in_ok-agrees.ensures.good ∙ c.if-not-branch.false in
    agreed_more c.args.scope.now entries i (0, 0) firsts _ c.loop-entry.invariant c.loop-entry-test.true good
    (λ q. c.in_ok-agrees.ensures.keeps q ∙ ap (first_kept (firsts q) ((get_or entries i (0, 0)).1 == q)) c.operand_of.ensures)

pub returns : goal.returns
returns c = sym (agreed_whole c.args.scope.now c.args.entries.now c.loop-entry.entry-index (tree.get nat_cmp c.loop-entry.firsts) c.loop-entry.invariant c.loop-entry-test.false)
