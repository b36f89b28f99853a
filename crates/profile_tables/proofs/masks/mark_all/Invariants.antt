use Rattle.std.proofs.Common.{◌≡◌, take, length}
use Rattle.profile_tables.specs.Tables.{AreTaken}
use Rattle.profile_tables.proofs.masks.mark_all.Given as goal

abbrev pub invariant-loop-line : goal.invariant-loop-line
invariant-loop-line l = AreTaken (take l.line-index l.lines) l.table × (length l.table ≡ length l.fn.table)
