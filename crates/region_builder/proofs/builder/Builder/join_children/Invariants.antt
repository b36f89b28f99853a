use Rattle.std.proofs.Common.{◌≡◌, ℕ, true}
use Rattle.flow_graph.specs.Shapes.{plain}
use Rattle.region_builder.specs.Built.{Went, size}
use Rattle.region_builder.proofs.builder.Builder.join_children.Given as goal

abbrev pub invariant-loop-j : goal.invariant-loop-j
invariant-loop-j l = record { went : Went l.fn.self l.self l.joined; live : (plain l.self.graph).live l.a ≡ true; did : l.joined ≡ true → (j : ℕ) × ((plain l.fn.self.graph).edge l.a j ≡ true) }

abbrev pub decreases-loop-j : goal.decreases-loop-j
decreases-loop-j l = size l.self.graph
