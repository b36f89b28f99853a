use Rattle.std.proofs.Common.{◌≡◌, ℕ, None, nat_eq, nat_lt, if◌then◌else◌}
use Rattle.std.specs.Option.{option_or}
use Rattle.std.specs.Prelude.{slice_get}
use Rattle.phi_entries.specs.Entries.{entry_in, entry_of}
use Rattle.phi_entries.proofs.entries.Entries.add_block.Given as goal

abbrev pub invariant-loop-n : goal.invariant-loop-n
invariant-loop-n l =
    (k n from : ℕ) → entry_of l.self k n from ≡ option_or (entry_of l.initial.self k n from) (if nat_eq k l.block then (if nat_lt n l.n then entry_in from (slice_get l.phis n) else None) else None)
