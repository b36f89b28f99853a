use Rattle.std.proofs.Common.{arith, ◌+◌, ◌≡◌, ◌++◌, ◌∷◌, [], List, ℕ, sym, subst}
use Rattle.std.proofs.lemmas.Grind.{common_steps}
use Rattle.region_leaves.specs.Edges.{AreMarked}
use Rattle.region_leaves.proofs.Marking.{marked_on, not_marked_on}
use Rattle.region_leaves.proofs.marked.Goals as goal
use Rattle.region_leaves.proofs.marked.Goals.{else-marks-i-via-then-marks-i+else-is_err, else-marks-i-via-else-marks-i}

pub loop-i-preserved : goal.loop-i-preserved
loop-i-preserved c =
    let P : List ℕ → Type 0 = λ l. AreMarked c.args.marks.now (c.loop-i.i + 1) l in
    elim c.else-marks-i.branch [
      | else-marks-i-via-then-marks-i+else-is_err w ↦ (
          let q : c.else-marks-i.numbers ≡ c.loop-i.numbers ++ c.loop-i.i ∷ [] = grind (arith, common_steps) in
          subst P (sym q) (marked_on c.args.marks.now c.loop-i.i c.loop-i.numbers c.loop-i.invariant w.if-marks-i.true))
      | else-marks-i-via-else-marks-i w ↦ subst P (sym w.numbers-is) (not_marked_on c.args.marks.now c.loop-i.i c.loop-i.numbers c.loop-i.invariant w.if-marks-i.false)
    ]
