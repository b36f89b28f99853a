use Rattle.std.proofs.Common.{◌≡◌, drop}
use Rattle.profile_lines.specs.Values as is
use Rattle.profile_lines.proofs.known.members.Given as goal

abbrev pub invariant-loop-n : goal.invariant-loop-n
invariant-loop-n l = is.members l.pool l.ty (drop l.n-index l.path) ≡ is.members l.pool l.fn.ty l.path
