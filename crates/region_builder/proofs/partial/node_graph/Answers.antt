use Rattle.std.proofs.Common.{arith, ℕ, List, Option, length, ap, sym, subst, ◌∙◌, ◌≡◌}
use Rattle.std.specs.List.{filter_map}
use Rattle.std.proofs.lemmas.Result.{IfOk-weaker}
use Rattle.flow_graph.specs.declared.linked.Edge.{Edge}
use Rattle.flow_graph.specs.Shapes.{Shape, plain}
use Rattle.flow_graph.specs.Given.{given, Within}
use Rattle.region_leaves.specs.Edges.{edges_on}
use Rattle.region_leaves.proofs.Rooted.{few_blocks}
use Rattle.region_builder.specs.Nodes.{node_edge}
use Rattle.region_builder.specs.Started.{IsNodeGraph}
use Rattle.region_builder.proofs.Naming.{renamed_few, renamed_within}
use Rattle.region_builder.proofs.Starting.{given_nodes, some_block, block_below}
use Rattle.region_builder.proofs.partial.node_graph.Goals as goal
use Rattle.region_builder.proofs.partial.node_graph.Goals.{After-deref-3}

pub nodes_of-requires-clause-few : goal.nodes_of-requires-clause-few
nodes_of-requires-clause-few c =
    let few = few_blocks c.args.p.now c.requires.sound c.args.blocks.now c.requires.reachable in
    let most = c.requires.sound.counts.blocks in omega arith

pub nodes_of-requires-clause-within : goal.nodes_of-requires-clause-within
nodes_of-requires-clause-within c i l =
    let m = block_below c.args.p.now c.requires.sound c.args.blocks.now c.requires.reachable i l in omega arith

renamed_is : (c : After-deref-3) → c.in_ok-renamed.renamed.items ≡ filter_map (node_edge c.in_ok-nodes.nodes.items) (edges_on 0 c.args.p.now.blocks)
renamed_is c =
    c.in_ok-renamed.ensures ∙ ap (λ (z : List (Option ℕ)). filter_map (node_edge z) c.deref-2.result.now) c.deref.ensures.value
    ∙ ap (λ (z : List Edge). filter_map (node_edge c.in_ok-nodes.nodes.items) z) (c.deref-2.ensures.value ∙ c.in_ok-edges.ensures.items)

pub overflow_cast-blocks : goal.overflow_cast-blocks
overflow_cast-blocks c =
    let few = few_blocks c.args.p.now c.requires.sound c.args.blocks.now c.requires.reachable in
    let most = c.requires.sound.counts.blocks in omega arith

pub new-requires-clause-some : goal.new-requires-clause-some
new-requires-clause-some c = let l = some_block c.args.p.now c.requires.sound c.args.blocks.now c.requires.reachable in omega arith

pub new-requires-clause-nodes : goal.new-requires-clause-nodes
new-requires-clause-nodes c =
    let few = few_blocks c.args.p.now c.requires.sound c.args.blocks.now c.requires.reachable in
    let most = c.requires.sound.counts.blocks in omega arith

pub new-requires-clause-edges : goal.new-requires-clause-edges
new-requires-clause-edges c =
    let few = renamed_few c.in_ok-nodes.nodes.items (edges_on 0 c.args.p.now.blocks) in
    let x = ap (λ (z : List Edge). length z) (c.deref-3.ensures.value ∙ renamed_is c) in
    let y = ap (λ (z : List Edge). length z) c.in_ok-edges.ensures.items in
    omega (arith, c.in_ok-edges.ensures.few)

pub new-requires-clause-within : goal.new-requires-clause-within
new-requires-clause-within c =
    let P : List Edge → Type 0 = λ z. Within (length c.args.blocks.now) z in
    subst P (sym (c.deref-3.ensures.value ∙ renamed_is c)) (renamed_within c.args.blocks.now c.in_ok-nodes.nodes.items (edges_on 0 c.args.p.now.blocks) c.in_ok-nodes.ensures.exact)

pub returns : goal.returns
returns c =
    IfOk-weaker {X = Shape} c.new.result (λ g. plain g ≡ given (length c.args.blocks.now) c.deref-3.result.now) (λ g. IsNodeGraph c.args.p.now c.args.blocks.now (plain g))
    (λ g e. given_nodes c.args.p.now c.requires.sound c.args.blocks.now c.requires.reachable c.in_ok-nodes.nodes.items c.in_ok-renamed.renamed.items
    c.in_ok-nodes.ensures.exact (renamed_is (goal.at.returns c).After-deref-3) (plain g) (e ∙ ap (given (length c.args.blocks.now)) c.deref-3.ensures.value)) c.new.ensures.exact
