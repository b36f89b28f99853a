use Rattle.std.proofs.Common.{take, length}
use Rattle.profile_tables.specs.Places.{is_named_by}
use Rattle.program_maker.specs.Marks.{AreMarks}
use Rattle.program_maker.proofs.marks.mark_variables.Given as goal

abbrev pub invariant-loop-line : goal.invariant-loop-line
invariant-loop-line l = AreMarks (length l.scope.pool.globals) (is_named_by l.scope (take l.line-index l.scope.lines)) l.marks
