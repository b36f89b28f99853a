use Rattle.std.proofs.Common.{◌≡◌, take, length}
use Rattle.profile_tables.specs.Tables.{AreFroms}
use Rattle.profile_tables.proofs.froms.lead_all.Given as goal

abbrev pub invariant-loop-line : goal.invariant-loop-line
invariant-loop-line l = AreFroms (take l.line-index l.lines) l.table × (length l.table ≡ length l.fn.table)
