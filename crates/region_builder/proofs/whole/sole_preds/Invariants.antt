use Rattle.std.proofs.Common.{◌≡◌, length}
use Rattle.flow_graph.specs.Shapes.{plain}
use Rattle.region_builder.specs.Children.{AreSolePreds}
use Rattle.region_builder.proofs.whole.sole_preds.Given as goal

abbrev pub invariant-loop-j : goal.invariant-loop-j
invariant-loop-j l = record { len : length l.preds.items ≡ l.j; sole : AreSolePreds (plain l.graph) l.preds.items }
