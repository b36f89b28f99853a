use Rattle.std.proofs.Common.{length, ◌-◌, ◌+◌, ◌<◌, ◌≤◌, ℕ, get_or}
use Rattle.flow_scans.proofs.span.climb_up.Given as goal

abbrev pub invariant-loop-c : goal.invariant-loop-c
invariant-loop-c l = (l.q < l.c) × (l.c ≤ length l.near) × ((e : ℕ) → l.q < e → e < l.c → l.q < get_or l.near e 0 + l.gap)

abbrev pub decreases-loop-c : goal.decreases-loop-c
decreases-loop-c l = length l.near - l.c
