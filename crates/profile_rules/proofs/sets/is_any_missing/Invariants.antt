use Rattle.std.proofs.Common.{◌≡◌, drop, not}
use Rattle.std.specs.List.{list_any}
use Rattle.profile_tables.specs.Tables.{has}
use Rattle.profile_rules.proofs.sets.is_any_missing.Given as goal

abbrev pub invariant-loop-number : goal.invariant-loop-number
invariant-loop-number l = list_any (λ n. not (has l.all n)) l.some ≡ list_any (λ n. not (has l.all n)) (drop l.number-index l.some)
