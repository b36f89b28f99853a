use Rattle.std.proofs.Common.{ℕ, ◌≡◌, map, take}
use Rattle.profile_rules.proofs.phi.blocks_of.Given as goal

abbrev pub invariant-loop-entry : goal.invariant-loop-entry
invariant-loop-entry l = l.blocks ≡ map (λ (e : ℕ × ℕ). e.1) (take l.entry-index l.entries)
