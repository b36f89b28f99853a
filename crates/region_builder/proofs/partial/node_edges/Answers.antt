use Rattle.std.proofs.Common.{List, take, ap, sym, ◌∙◌, ◌++◌, Option}
use Rattle.std.specs.List.{filter_map}
use Rattle.std.specs.Option.{option_to_list}
use Rattle.flow_graph.specs.declared.linked.Edge.{Edge}
use Rattle.flow_graph.specs.Given.{no_edge}
use Rattle.region_builder.specs.Nodes.{node_edge}
use Rattle.region_builder.proofs.Naming.{renamed_step}
use Rattle.region_builder.proofs.partial.node_edges.Goals as goal

pub loop-edge-preserved : goal.loop-edge-preserved
loop-edge-preserved c =
    let e = renamed_step c.args.nodes.now c.args.edges.now c.loop-edge.edge-index no_edge c.loop-edge-test.true in
    c.in_ok-add_some.ensures ∙ ap (λ (z : List Edge). z ++ option_to_list c.rename.result) c.loop-edge.invariant
    ∙ ap (λ (z : Option Edge). filter_map (node_edge c.args.nodes.now) (take c.loop-edge.edge-index c.args.edges.now) ++ option_to_list z) c.rename.ensures ∙ sym e
