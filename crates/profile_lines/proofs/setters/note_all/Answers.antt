use Rattle.std.proofs.Common.{◌≡◌, ◌∙◌, ◌+◌, ◌-◌, ℕ, arith, subst, drop}
use Rattle.profile_lines.specs.Setters.{AreSetters}
use Rattle.profile_lines.proofs.SetterLaws.{setters_next}
use Rattle.profile_lines.proofs.setters.note_all.Goals as goal

pub loop-left-preserved : goal.loop-left-preserved
loop-left-preserved c =
    let lines = c.args.lines.now in
    let left = c.loop-left.left in
    let same : left ≡ left - 1 + 1 = omega arith in
    let before = subst (λ (k : ℕ). AreSetters lines (drop k lines) c.loop-left.table) same c.loop-left.invariant.1 in
    (omega arith, setters_next lines (left - 1) _ _ _ before (omega arith) c.index-lines-left.is c.note.ensures, c.note.ensures.same_length ∙ c.loop-left.invariant.2)
