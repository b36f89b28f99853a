use Rattle.std.proofs.Common.{◌≡◌, ◌<◌, true, false, ℕ}
use Rattle.std.specs.List.{slice_index}
use Rattle.flow_graph.specs.Shapes.{plain}
use Rattle.head_table.specs.Table.{over}
use Rattle.region_builder.specs.Settled.{IsSettledBy}
use Rattle.region_builder.specs.Built.{Went}
use Rattle.region_builder.specs.Advancing.{Advances}
use Rattle.region_builder.proofs.builder.Builder.visit_rank.Given as goal

abbrev pub invariant-loop-a : goal.invariant-loop-a
invariant-loop-a l = record {
  went : Went l.fn.self l.self l.changed;
  settled : l.changed ≡ false → (a : ℕ) → a < l.a → slice_index l.fn.self.ranks.items a ≡ l.rank → (plain l.fn.self.graph).live a ≡ true → IsSettledBy (over l.fn.self.heads) (plain l.fn.self.graph) a;
  bare : Advances l.fn.self l.self l.rank 0 l.a;
}
