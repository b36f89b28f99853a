use Rattle.std.proofs.Common.{◌≤◌, ◌<◌, ℕ, get_or}
use Rattle.flow_scans.proofs.span.climb_down.Given as goal

abbrev pub invariant-loop-c : goal.invariant-loop-c
invariant-loop-c l = (l.c ≤ l.q) × ((f : ℕ) → l.c ≤ f → f < l.q → get_or l.far f 0 ≤ l.q)

abbrev pub decreases-loop-c : goal.decreases-loop-c
decreases-loop-c l = l.c
