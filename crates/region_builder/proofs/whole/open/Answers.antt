use Rattle.std.proofs.Common.{◌≡◌, ℕ, List, length, map, ap, subst, refl, ◌∙◌, arith}
use Rattle.flow_graph.specs.Shapes.{plain}
use Rattle.head_table.specs.Ranks.{AreRanks}
use Rattle.region_builder.proofs.Starting.{started_live, graph_formed, graph_reached}
use Rattle.region_builder.proofs.Opening.{started_built, started_size, started_bare}
use Rattle.region_builder.proofs.whole.open.Goals as goal
use Rattle.region_builder.proofs.whole.open.Goals.{In_ok-places}

blocks_are : (c : In_ok-places) → c.in_ok-blocks.blocks.items ≡ map (λ (root : ℕ × ℕ). root.0) c.args.partial.roots
blocks_are c = c.in_ok-blocks.ensures ∙ ap (λ (l : List (ℕ × ℕ)). map (λ (root : ℕ × ℕ). root.0) l) c.as_slice.ensures

places_are : (c : In_ok-places) → c.in_ok-places.places.items ≡ map (λ (root : ℕ × ℕ). root.1) c.args.partial.roots
places_are c = c.in_ok-places.ensures ∙ ap (λ (l : List (ℕ × ℕ)). map (λ (root : ℕ × ℕ). root.1) l) c.as_slice-2.ensures

pub sole_preds-requires-clause-few : goal.sole_preds-requires-clause-few
sole_preds-requires-clause-few c =
    let (p, is) = c.requires in
    let (few, _) = started_live p c.args.partial is c.in_ok-blocks.blocks.items (blocks_are (goal.at.sole_preds-requires-clause-few c).In_ok-places) in omega arith

pub sole_preds-requires-clause-live : goal.sole_preds-requires-clause-live
sole_preds-requires-clause-live c i l =
    let (p, is) = c.requires in
    let (_, live) = started_live p c.args.partial is c.in_ok-blocks.blocks.items (blocks_are (goal.at.sole_preds-requires-clause-live c).In_ok-places) in live i (omega arith)

pub heads_of-requires-clause-count : goal.heads_of-requires-clause-count
heads_of-requires-clause-count c =
    let (p, is) = c.requires in
    let e = started_size p c.args.partial is c.in_ok-blocks.blocks.items (blocks_are (goal.at.heads_of-requires-clause-count c).In_ok-places) in omega arith

pub heads_of-requires-clause-few : goal.heads_of-requires-clause-few
heads_of-requires-clause-few c =
    let (p, is) = c.requires in
    let (few, _) = started_live p c.args.partial is c.in_ok-blocks.blocks.items (blocks_are (goal.at.heads_of-requires-clause-few c).In_ok-places) in omega arith

pub heads_of-requires-clause-formed : goal.heads_of-requires-clause-formed
heads_of-requires-clause-formed c = let (p, is) = c.requires in graph_formed p is.sound is.blocks is.reachable is.few (plain c.args.partial.graph) is.graph

pub heads_of-requires-clause-all_reached : goal.heads_of-requires-clause-all_reached
heads_of-requires-clause-all_reached c = let (p, is) = c.requires in graph_reached p is.sound is.blocks is.reachable is.few (plain c.args.partial.graph) is.graph

pub returns-clause-built : goal.returns-clause-built
returns-clause-built c p is =
    let d = (goal.at.returns-clause-built c).In_ok-places in
    let n : length c.in_ok-firsts.firsts.items ≡ length c.in_ok-blocks.blocks.items = omega (arith, c.in_ok-firsts.ensures.len, c.len.ensures) in
    let m : c.len-2.result ≡ length c.in_ok-blocks.blocks.items = omega (arith, c.len-2.ensures) in
    let P : ℕ → Type 0 = λ k. AreRanks (plain c.args.partial.graph) k c.in_ok-heads.heads.ranks.items in
    started_built p c.args.partial is _ (blocks_are d) (places_are d) refl refl n c.in_ok-firsts.ensures.sole (c.in_ok-heads.ensures.count ∙ m) c.in_ok-heads.ensures.exact
    (subst P m c.in_ok-heads.ensures.ranks)

pub returns-clause-bare : goal.returns-clause-bare
returns-clause-bare c =
    let d = (goal.at.returns-clause-bare c).In_ok-places in
    let (p, is) = c.requires in started_bare p c.args.partial is _ (blocks_are d) (places_are d) refl refl
