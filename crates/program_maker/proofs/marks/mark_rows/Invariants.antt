use Rattle.std.proofs.Common.{take, length}
use Rattle.profile_tables.specs.Resources.{is_row_named}
use Rattle.program_maker.specs.Marks.{AreMarks}
use Rattle.program_maker.proofs.marks.mark_rows.Given as goal

abbrev pub invariant-loop-line : goal.invariant-loop-line
invariant-loop-line l = AreMarks (length l.scope.rows) (is_row_named l.scope (take l.line-index l.scope.lines)) l.marks
