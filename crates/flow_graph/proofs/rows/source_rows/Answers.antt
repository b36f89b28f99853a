use Rattle.std.proofs.Common.{◌≡◌, ◌+◌, ◌∙◌, ℕ, true, List, ◌∷◌, [], ◌++◌, length, ap, subst, sym, arith, eqb, eqb-true}
use Rattle.std.proofs.lemmas.Bool.{and_parts}
use Rattle.flow_graph.specs.Links.{Joining, cell_at}
use Rattle.flow_graph.specs.Shapes.{joins, edges_of}
use Rattle.flow_graph.specs.Rows.{AreRows, backward}
use Rattle.flow_graph.proofs.Edges.{joining_from, joins_from}
use Rattle.flow_graph.proofs.RowLists.{adds_same, rows_on}
use Rattle.flow_graph.proofs.rows.source_rows.Goals as goal

pub loop-node-preserved : goal.loop-node-preserved
loop-node-preserved c =
    let adds = adds_same (λ b. Joining c.args.cells.now b c.loop-node.node) (λ b. joins (edges_of c.args.cells.now) b c.loop-node.node ≡ true) c.loop-node.ends.items c.add_sources.new.ends.items
    (λ b. (joins_from c.args.cells.now b c.loop-node.node, joining_from c.args.cells.now b c.loop-node.node)) c.in_ok-add_sources.ensures in
    let Q : List ℕ → Type 0 = λ l. AreRows (backward (edges_of c.args.cells.now)) (length c.args.first.now) (c.loop-node.node + 1) l c.add_sources.new.ends.items in
    let n : c.len.result ≡ length c.add_sources.new.ends.items = omega (arith, c.len.ensures) in
    let e : c.add-in-loop-node.new.list.items ≡ c.loop-node.starts.items ++ length c.add_sources.new.ends.items ∷ [] =
    c.in_ok-add-2.ensures ∙ ap (λ (z : ℕ). c.loop-node.starts.items ++ z ∷ []) n in
    subst Q (sym e) (rows_on (backward (edges_of c.args.cells.now)) (length c.args.first.now) c.loop-node.node c.loop-node.starts.items c.loop-node.ends.items
    c.add_sources.new.ends.items c.loop-node.invariant adds (λ b t. (let (d, _, u, _) = joining_from c.args.cells.now b c.loop-node.node t in
    let (v, e) = and_parts (cell_at c.args.cells.now d).used (eqb (cell_at c.args.cells.now d).from b) u in
    let q = eqb-true (cell_at c.args.cells.now d).from b e in
    let f = c.requires.sources d v in omega arith)))
