use Rattle.std.proofs.Common.{◌≡◌, ℕ, take, map}
use Rattle.region_builder.proofs.whole.blocks_of.Given as goal

abbrev pub invariant-loop-root : goal.invariant-loop-root
invariant-loop-root l = l.blocks.items ≡ map (λ (root : ℕ × ℕ). root.0) (take l.root-index l.roots)
