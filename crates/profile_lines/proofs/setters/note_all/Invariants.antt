use Rattle.std.proofs.Common.{◌≡◌, ◌≤◌, drop, length}
use Rattle.profile_lines.specs.Setters.{AreSetters}
use Rattle.profile_lines.proofs.setters.note_all.Given as goal

abbrev pub invariant-loop-left : goal.invariant-loop-left
invariant-loop-left l = (l.left ≤ length l.lines) × AreSetters l.lines (drop l.left l.lines) l.table × (length l.table ≡ length l.fn.table)

abbrev pub decreases-loop-left : goal.decreases-loop-left
decreases-loop-left l = l.left
