use Rattle.flow_graph.specs.Shapes.{plain}
use Rattle.region_builder.specs.Children.{AreRoots}
use Rattle.region_builder.proofs.whole.live_roots.Given as goal

abbrev pub invariant-loop-i : goal.invariant-loop-i
invariant-loop-i l = AreRoots (plain l.graph) l.i l.blocks l.places l.roots
