use Rattle.std.proofs.Common.{◌≡◌, drop, length}
use Rattle.profile_lines.specs.Values as is
use Rattle.profile_lines.proofs.known.add_lines.Given as goal

abbrev pub invariant-loop-line : goal.invariant-loop-line
invariant-loop-line l = is.known_from l.pool l.lines (length l.setters) l.known (drop l.line-index l.lines) ≡ is.known_from l.pool l.lines (length l.setters) l.fn.known l.lines
