use Rattle.std.proofs.Common.{◌≡◌, drop}
use Rattle.profile_lines.specs.Values as is
use Rattle.profile_lines.proofs.known.elements.Given as goal

abbrev pub invariant-loop-index : goal.invariant-loop-index
invariant-loop-index l = is.elements l.pool l.ty (drop l.index-index l.indices) ≡ is.elements l.pool l.fn.ty l.indices
