use Rattle.std.proofs.Common.{◌≡◌, ◌≤◌, List, Vec, Global, length, subst, sym, ap, refl, ◌∙◌, arith}
use Rattle.std.proofs.lemmas.Result.{IfOk-weaker}
use Rattle.dxil_form.specs.declared.block.Block.{Block}
use Rattle.flow_graph.specs.declared.linked.Edge.{Edge}
use Rattle.flow_graph.specs.Given.{Within}
use Rattle.region_leaves.specs.Edges.{edges_on}
use Rattle.region_leaves.proofs.Branching.{few_edges, edges_within}
use Rattle.region_leaves.proofs.declared_edges.Goals as goal

pub returns-clause-few : goal.returns-clause-few
returns-clause-few c =
    let f = few_edges 0 c.args.p.now.blocks in
    IfOk-weaker {X = Vec Edge Global} c.block_edges.result (λ v. v.items ≡ edges_on 0 c.as_slice.result.now) (λ v. length v.items ≤ 131072)
    (λ v e. (let q = ap length e ∙ ap (λ (l : List Block). length (edges_on 0 l)) c.as_slice.ensures in omega arith)) c.block_edges.ensures

pub returns-clause-within : goal.returns-clause-within
returns-clause-within c =
    let w = edges_within c.args.p.now.blocks _ refl (λ x y t. (c.requires.targets x y t).1) in
    let P : List Edge → Type 0 = λ l. Within (length c.args.p.now.blocks) l in
    IfOk-weaker {X = Vec Edge Global} c.block_edges.result (λ v. v.items ≡ edges_on 0 c.as_slice.result.now) (λ v. Within (length c.args.p.now.blocks) v.items)
    (λ v e. subst P (sym (e ∙ ap (edges_on 0) c.as_slice.ensures)) w) c.block_edges.ensures
