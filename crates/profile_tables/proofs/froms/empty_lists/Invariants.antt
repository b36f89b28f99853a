use Rattle.std.proofs.Common.{◌≡◌, replicate, []}
use Rattle.profile_tables.proofs.froms.empty_lists.Given as goal

abbrev pub invariant-loop : goal.invariant-loop
invariant-loop l = l.table.items ≡ replicate l.counter []
