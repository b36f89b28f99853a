use Rattle.std.proofs.Common.{◌≡◌}
use Rattle.region_bench.proofs.reduce.pass.Given as goal

abbrev pub invariant-loop-j : goal.invariant-loop-j
invariant-loop-j l = l.graph.count ≡ l.fn.graph.count
