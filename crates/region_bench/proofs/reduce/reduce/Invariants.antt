use Rattle.std.proofs.Common.{◌≡◌}
use Rattle.region_bench.proofs.reduce.reduce.Given as goal

abbrev pub invariant-loop : goal.invariant-loop
invariant-loop l = l.graph.count ≡ l.fn.graph.count
