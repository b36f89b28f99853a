use Rattle.std.proofs.Common.{◌≡◌, ◌<◌, ◌≤◌, ℕ, length, get_or}
use Rattle.flow_scans.specs.Spans.{LastBefore, LastsHolding}
use Rattle.flow_scans.proofs.span.take_own.Given as goal

abbrev pub invariant-loop-q : goal.invariant-loop-q
invariant-loop-q l = record {
  len : length l.out.items ≡ length l.far;
  done : LastsHolding l.far l.q l.out.items;
  rest : (k : ℕ) → l.q ≤ k → k < length l.far → LastBefore l.far k (get_or l.out.items k 0);
}
