use Rattle.std.proofs.Common.{◌≡◌}
use Rattle.machine_tests.proofs.graphs.reduce.Given as goal

abbrev pub invariant-loop : goal.invariant-loop
invariant-loop l = l.graph.count ≡ l.count

abbrev pub invariant-loop-j : goal.invariant-loop-j
invariant-loop-j l = l.graph.count ≡ l.count
