use Rattle.std.proofs.Common.{◌≡◌, ℕ, take, map}
use Rattle.region_builder.proofs.whole.places_of.Given as goal

abbrev pub invariant-loop-root : goal.invariant-loop-root
invariant-loop-root l = l.places.items ≡ map (λ (root : ℕ × ℕ). root.1) (take l.root-index l.roots)
