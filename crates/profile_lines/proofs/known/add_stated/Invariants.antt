use Rattle.std.proofs.Common.{◌≡◌, ◌++◌, map, take}
use Rattle.profile_lines.specs.Values as is
use Rattle.profile_lines.proofs.known.add_stated.Given as goal

abbrev pub invariant-loop-value : goal.invariant-loop-value
invariant-loop-value l = l.known ≡ l.fn.known ++ map (is.known_of l.pool) (take l.value-index l.values)
