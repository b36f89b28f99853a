use Rattle.std.proofs.Common.{◌≡◌, ℕ, take, map}
use Rattle.dispatch_loop.proofs.places.Given as goal

abbrev pub invariant-loop-root : goal.invariant-loop-root
invariant-loop-root l = l.arms ≡ map (λ (root : ℕ × ℕ). root.1) (take l.root-index l.roots)
