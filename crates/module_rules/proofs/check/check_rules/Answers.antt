use Rattle.std.proofs.Common.{subst, ap, ◌∙◌, ◌≡◌, length, List, None, arith}
use Rattle.spv_form.specs.declared.module.Inst.{Inst}
use Rattle.module_rules.specs.Answers.{IsLeastAtStart, FindsMissing, EachAnswer}
use Rattle.module_rules.proofs.ModuleLaws.{high, few, at_start, alone}
use Rattle.module_rules.proofs.check.check_rules.Goals as goal
use Rattle.module_rules.proofs.check.check_rules.Goals.{in-Ok-rule_at_start, in-Err}

pub returns-then-m-gt-MOST_BOUND : goal.returns-then-m-gt-MOST_BOUND
returns-then-m-gt-MOST_BOUND c = rw c.refused.ensures (high c.args.m.now c.if-m-gt-MOST_BOUND.true)

pub of-requires-clause-few : goal.of-requires-clause-few
of-requires-clause-few c = omega (arith, ap length c.as_slice.ensures, few c.args.m.now.insts c.requires.short)

pub of-requires-clause-formed : goal.of-requires-clause-formed
of-requires-clause-formed c = rw c.as_slice.ensures (record { bound = c.args.m.now.bound; all = c.requires.formed })

pub returns-in-Some : goal.returns-in-Some
returns-in-Some c =
    let ids : c.in-Ok.tables.ids ≡ c.args.m.now.insts = c.in-Ok.ensures.insts ∙ c.as_slice.ensures in
    elim c.match-rule_at_start.branch [
      | in-Ok-rule_at_start w ↦ rw (w.result-is, w.refused-in-Ok-rule_at_start.ensures)
          (at_start c.args.m.now w.in-Ok-rule_at_start.rule c.if-m-gt-MOST_BOUND.false
          (subst (λ v. IsLeastAtStart v c.args.m.now.insts w.in-Ok-rule_at_start.rule) c.in-Ok.ensures.version
          (subst (λ (l : List Inst). IsLeastAtStart c.in-Ok.tables.version l w.in-Ok-rule_at_start.rule) ids w.in-Ok-rule_at_start.ensures)))
      | in-Err w ↦ rw w.result-is tt
    ]

pub returns : goal.returns
returns c =
    let ids : c.in-Ok.tables.ids ≡ c.args.m.now.insts = c.in-Ok.ensures.insts ∙ c.as_slice.ensures in
    let landmarks : c.in-Ok.tables.landmarks ≡ c.args.m.now.insts = c.in-Ok.ensures.exact.landmarks_are ∙ ids in
    alone c.args.m.now _ c.if-m-gt-MOST_BOUND.false
    (subst (λ (l : List Inst). FindsMissing l None) landmarks (subst (λ o. FindsMissing c.in-Ok.tables.landmarks o) c.in_default-missing_rule.is c.missing_rule.ensures))
    (subst (λ v. EachAnswer c.each_rule.result v c.args.m.now.insts) c.in-Ok.ensures.version (subst (λ (l : List Inst). EachAnswer c.each_rule.result c.in-Ok.tables.version l) ids c.each_rule.ensures))
