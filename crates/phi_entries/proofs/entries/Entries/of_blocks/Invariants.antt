use Rattle.std.proofs.Common.{◌≡◌, ℕ, None, nat_lt, if◌then◌else◌}
use Rattle.std.specs.Prelude.{slice_get}
use Rattle.phi_entries.specs.Entries.{entry_at, entry_of}
use Rattle.phi_entries.proofs.entries.Entries.of_blocks.Given as goal

abbrev pub invariant-loop-k : goal.invariant-loop-k
invariant-loop-k l =
    (k n from : ℕ) → entry_of l.entries k n from ≡ (if nat_lt k l.k then entry_at (slice_get l.blocks k) n from else None)
