use Rattle.std.proofs.Common.{take}
use Rattle.flow_graph.specs.Shapes.{plain}
use Rattle.region_builder.specs.Absorbing.{AreAbsorbed}
use Rattle.region_builder.proofs.builder.absorb_all.Given as goal

abbrev pub invariant-loop-n : goal.invariant-loop-n
invariant-loop-n l = AreAbsorbed (plain l.fn.graph) l.a (take l.n l.nodes) (plain l.graph)
