use Rattle.std.proofs.Common.{◌≡◌, take}
use Rattle.std.specs.List.{filter_map}
use Rattle.region_builder.specs.Nodes.{node_edge}
use Rattle.region_builder.proofs.partial.node_edges.Given as goal

abbrev pub invariant-loop-edge : goal.invariant-loop-edge
invariant-loop-edge l = l.renamed.items ≡ filter_map (node_edge l.nodes) (take l.edge-index l.edges)
