use Rattle.std.proofs.Common.{◌≡◌, ◌==◌, drop, option_map}
use Rattle.std.specs.List.{find}
use Rattle.profile_lines.specs.Calls as is
use Rattle.profile_lines.proofs.call.carried.Given as goal

abbrev pub invariant-loop-pair : goal.invariant-loop-pair
invariant-loop-pair l = is.carried l.line l.place ≡ option_map (λ p. p.1) (find (λ p. p.0 == l.place) (drop l.pair-index l.pair-items))
