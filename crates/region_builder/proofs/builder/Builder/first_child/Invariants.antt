use Rattle.std.proofs.Common.{◌≢◌, ◌<◌, ◌≤◌, ℕ}
use Rattle.flow_graph.specs.Shapes.{plain}
use Rattle.dxil_form.specs.Graphs.{SolePred}
use Rattle.head_table.specs.Table.{over}
use Rattle.region_builder.specs.Settled.{IsAllowed}
use Rattle.region_builder.proofs.builder.Builder.first_child.Given as goal

abbrev pub invariant-loop-j : goal.invariant-loop-j
invariant-loop-j l = record { least : 1 ≤ l.j; none : (j : ℕ) → j ≢ 0 → j < l.j → SolePred (plain l.self.graph) l.a j → IsAllowed (over l.self.heads) l.a j → ⊥ }
