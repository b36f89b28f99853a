use Rattle.std.proofs.Common.{ℕ, subst, sym, arith, ◌^◌, ◌-◌}
use Rattle.std.proofs.Common.{ltb, leb}
use Rattle.flow_rules.specs.Rules.{BreaksLabel}
use Rattle.flow_rules.specs.Answers.{Tells}
use Rattle.flow_rules.proofs.Deciding.{first_label, other_label}
use Rattle.flow_rules.proofs.check.breaks_label.Goals as goal

pub returns-then-p-eq0 : goal.returns-then-p-eq0
returns-then-p-eq0 c =
    subst (λ (v : ℕ). Tells (ltb v (2 ^ 32 - 1)) (BreaksLabel c.args.blocks.now c.args.p 12)) (sym c.at.ensures)
    (first_label c.args.blocks.now c.requires.small c.args.p _ (omega arith) (c.requires.tables.sources.each c.args.p c.requires.within))

pub returns-else-p-eq0 : goal.returns-else-p-eq0
returns-else-p-eq0 c =
    subst (λ (v : ℕ). Tells (leb c.args.p v) (BreaksLabel c.args.blocks.now c.args.p 12)) (sym c.at-else-p-eq0.ensures)
    (other_label c.args.blocks.now c.requires.small c.args.p _ (omega arith) c.requires.within (c.requires.tables.sources.each c.args.p c.requires.within))
