use Rattle.std.proofs.Common.{ℕ, subst, sym, arith, ◌∙◌}
use Rattle.flow_rules.specs.Flow.{SoleBack}
use Rattle.flow_rules.proofs.Deciding.{sole_found, sole_none}
use Rattle.flow_rules.proofs.check.sole_back.Goals as goal
use Rattle.flow_rules.proofs.check.sole_back.Goals.{else-first-lt4294967295-via-then-first-lt4294967295+else-first-last, else-first-lt4294967295-via-else-first-lt4294967295}

pub returns-then-first-last : goal.returns-then-first-last
returns-then-first-last c =
    subst (λ (v : ℕ). SoleBack c.args.blocks.now c.args.p v) (sym c.at-first.ensures)
    (sole_found c.args.blocks.now c.requires.small c.args.p _ _ (c.requires.tables.first_backs.each c.args.p c.requires.within) (c.requires.tables.last_backs.each c.args.p c.requires.within)
    (omega (arith, c.at-first.ensures)) (omega (arith, c.at-first.ensures, c.at-last.ensures)))

pub returns-else-first-lt4294967295 : goal.returns-else-first-lt4294967295
returns-else-first-lt4294967295 c =
    sole_none c.args.blocks.now c.requires.small c.args.p _ _ (c.requires.tables.first_backs.each c.args.p c.requires.within) (c.requires.tables.last_backs.each c.args.p c.requires.within)
    (λ low same. elim c.else-first-lt4294967295.branch [
      | else-first-lt4294967295-via-then-first-lt4294967295+else-first-last w ↦ w.if-first-last.false (c.at-first.ensures ∙ same ∙ sym c.at-last.ensures)
      | else-first-lt4294967295-via-else-first-lt4294967295 w ↦ absurd (omega (arith, c.at-first.ensures))
    ])
