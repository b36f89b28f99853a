use Rattle.std.proofs.Common.{◌≡◌, ℕ, ◌&&◌, None, nat_eq, if◌then◌else◌, drop}
use Rattle.std.specs.Option.{option_or}
use Rattle.phi_entries.specs.Entries.{entry_of, first_entry}
use Rattle.phi_entries.proofs.entries.Entries.add_phi.Given as goal

abbrev pub invariant-loop-entry : goal.invariant-loop-entry
invariant-loop-entry l =
    (k n from : ℕ) → option_or (entry_of l.self k n from) (if nat_eq k l.block && nat_eq n l.phi then first_entry from (drop l.entry-index l.entries) else None) ≡ option_or (entry_of l.initial.self k n from) (if nat_eq k l.block && nat_eq n l.phi then first_entry from l.entries else None)
