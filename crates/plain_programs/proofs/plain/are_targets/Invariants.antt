use Rattle.std.proofs.Common.{◌<◌, ◌≤◌, ℕ, get_or}
use Rattle.plain_programs.proofs.plain.are_targets.Given as goal

abbrev pub invariant-loop-target : goal.invariant-loop-target
invariant-loop-target l = (i : ℕ) → i < l.target-index → (1 ≤ get_or l.targets i 0) × (get_or l.targets i 0 < l.count)
