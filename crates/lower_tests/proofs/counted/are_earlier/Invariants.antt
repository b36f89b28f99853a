use Rattle.std.proofs.Common.{◌≡◌, drop}
use Rattle.lower_tests.specs.Counted.{are_behind}
use Rattle.lower_tests.proofs.counted.are_earlier.Given as goal

abbrev pub invariant-loop-place : goal.invariant-loop-place
invariant-loop-place l = are_behind l.place (drop l.place l.list) ≡ are_behind 0 l.list
