use Rattle.std.proofs.Common.{take}
use Rattle.profile_tables.specs.Tables.{AreAdded}
use Rattle.profile_tables.proofs.froms.add_all.Given as goal

abbrev pub invariant-loop-pair : goal.invariant-loop-pair
invariant-loop-pair l = AreAdded (take l.pair-index l.pairs) l.from l.fn.table l.table
