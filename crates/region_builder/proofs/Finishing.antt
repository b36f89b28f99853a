-- Where nothing may be done any more, each head of a graph without crossed rings has its loop.
use Rattle.std.proofs.Common.{◌≡◌, ◌↔◌, inl, inr, ℕ, ◌<◌, Bool, true, false, ◌&&◌, List, length, get_or, Option, Some, sym, ap, subst, ◌∙◌}
use Rattle.std.proofs.lemmas.Bool.{cases_eq, both_ways, and_parts, and_from}
use Rattle.std.proofs.lemmas.Option.{slice_get_within, slice_get-get_or, get_or_from_slice_get}
use Rattle.std.specs.List.{slice_get}
use Rattle.dxil_form.specs.declared.program.Program.{Program}
use Rattle.dxil_form.specs.declared.region.Region.{Region}
use Rattle.dxil_form.specs.declared.region.Region.TheVariants.{Leaf}
use Rattle.dxil_form.specs.Graphs.{Graph, Crossed, SolePred, IsHeadOver}
use Rattle.graph_laws.specs.Laws.{Step}
use Rattle.graph_laws.proofs.Heads.{Loops}
use Rattle.graph_laws.proofs.Public.{step_or_crossed, over_loops}
use Rattle.flow_graph.specs.Shapes.{plain}
use Rattle.head_table.specs.declared.table.HeadTable.{HeadTable}
use Rattle.head_table.specs.Table.{over}
use Rattle.region_laws.proofs.Places.{same_place}
use Rattle.region_leaves.proofs.Rooted.{index_of}
use Rattle.region_builder.specs.declared.partial.Partial.{Partial}
use Rattle.region_builder.specs.Built.{Built}
use Rattle.region_builder.specs.Settled.{AllSettledBy}
use Rattle.region_builder.specs.Loops.{Under, LoopsAreRings, ArmsAreSole}
use Rattle.region_builder.specs.Headed.{Headed}
use Rattle.region_builder.specs.Traced.{Traced}
use Rattle.region_builder.proofs.Leaving.{one_block}

module _ (p : Program) (list : List Region) (blocks places : List ℕ) (g : Graph) (b : Built p list blocks places g)
    (first : Partial) (firsts : List (Option ℕ)) (heads : HeadTable) (t : Traced p first list blocks places g firsts heads) where
  abbrev start : Graph
  start = plain first.graph

  abbrev test : ℕ → ℕ → Bool
  test h k = g.live k && over heads h k

  test_tells : Headed start list blocks places g (over heads) → (h k : ℕ) → (test h k ≡ true) ↔ IsHeadOver g h k
  test_tells hd h k = (
    λ o. (hd.tells h k).0 (let (l, y) = and_parts (g.live k) (over heads h k) o in (l, y)),
    λ o. (let (l, y) = (hd.tells h k).1 o in and_from (g.live k) (over heads h k) l y),
  )

  module _ (settled : AllSettledBy (over heads) g) (never : Crossed start → ⊥) where
    hd : Headed start list blocks places g (over heads)
    hd = t.headed never

    -- one node is left
    sole : (d : ℕ) → g.live d ≡ true → d ≡ 0
    sole d l = elim (cases_eq d 0) [
      | inl q ↦ q
      | inr n ↦ elim (step_or_crossed g b.formed b.all_reached test (test_tells hd) d l n) [
        | inl k ↦ absurd (never (t.rings.0 k))
        | inr step ↦ absurd (none step)
      ]
    ]
      where
        none : Step g test → ⊥
        none (inl (a, may)) = (settled a (b.formed.from a a may.edge)).no_fold (record { edge = may.edge; alone = λ k l o. may.alone k (and_from (g.live k) (over heads a k) l o) })
        none (inr (a, j, may)) =
            let l = b.formed.from a j may.pred.edge in
            (settled a l).no_absorb j may.nonzero may.pred (λ h o. (and_parts (g.live j) (over heads h j) (may.keeps h (and_from (g.live a) (over heads h a) l o))).1)

    -- and it has no ring
    pub nothing : (h c : ℕ) → g.live c ≡ true → over heads h c ≡ true → ⊥
    nothing h c l o =
        let k : Loops g h c = over_loops g b.formed b.all_reached h c ((hd.tells h c).0 (l, o)) in
        let x : k.last ≡ 0 = sole k.last (b.formed.from k.last h k.edge) in
        let y : h ≡ 0 = sole h (b.formed.to k.last h k.edge) in
        let P : ℕ → Type 0 = λ z. g.edge z h ≡ true in
        let Q : ℕ → Type 0 = λ z. g.edge 0 z ≡ true in
        (settled 0 b.formed.entry).no_fold (record { edge = subst Q y (subst P x k.edge); alone = λ d m _. sole d m })

    node_is : (i j : ℕ) → i < length blocks → j < length blocks → get_or blocks i 0 ≡ get_or blocks j 0 → i ≡ j
    node_is i j l m e = one_block b.reachable i j l m e

    pub loops_are_rings : LoopsAreRings start blocks list
    loops_are_rings = record {
      made = λ h k o. elim (hd.kept h k o) [ inl (r, (body, e)) ↦ (r, body, e) | inr (c, l, y, _) ↦ absurd (nothing h c l y) ];
      once = hd.once;
      heads = λ r body head k. (let (y, i, e, own, _, _) = hd.loops r body head k in (y, slice_get-get_or blocks y 0 i ∙ ap Some e, own));
      passes = λ r body h k c at is l. (
          let (y, i, e, _, under, _) = hd.loops r body c is in
          let m = slice_get_within blocks h c at in
          let same : y ≡ h = node_is y h i m (e ∙ sym (get_or_from_slice_get blocks h c 0 at)) in
          let P : ℕ → Type 0 = λ z. Under list r (get_or blocks k 0) ↔ IsHeadOver start z k in subst P same (under k l));
    }

  -- the table forgets all heads
  pub traced_clear : AllSettledBy (over heads) g → (now : HeadTable) → now.count ≡ heads.count → ((h c : ℕ) → over now h c ≡ false) → Traced p first list blocks places g firsts now
  traced_clear settled now count cleared = record {
    blocks_are = t.blocks_are;
    nodes = t.nodes;
    rings = t.rings;
    firsts_count = t.firsts_count;
    sole = t.sole;
    arms = t.arms;
    heads_count = count ∙ t.heads_count;
    headed = λ never. (let hd = t.headed never in record {
      tells = λ h k. (
        λ y. absurd (both_ways _ (cleared h k) y.1),
        λ o. (let (l, y) = (hd.tells h k).1 o in absurd (nothing settled never h k l y)),
      );
      heads = λ h c l y. absurd (both_ways _ (cleared h c) y);
      below = λ h c k l y i u. absurd (both_ways _ (cleared h c) y);
      kept = λ h k o. elim (hd.kept h k o) [ inl x ↦ inl x | inr (c, l, y, _) ↦ absurd (nothing settled never h c l y) ];
      loops = λ r body head k. (let (y, i, e, q, under, _) = hd.loops r body head k in (y, i, e, q, under, λ c l z. both_ways _ (cleared y c) z));
      once = hd.once;
    });
  }

  -- each arm's target has one edge into it
  pub arms_are_sole : ArmsAreSole p list
  arms_are_sole r f c k s d l h leaf i reached branches =
      let (x, y, at, e, pred) = t.arms r f k s l h i in
      let (z, m) = index_of p b.sound blocks b.reachable d reached in
      let edge : start.edge z y ≡ true = (t.nodes.edges z y).1 (d, k, m, node_at x y pred e, branches) in
      let same : z ≡ x = pred.sole z edge in
      let q : Leaf (get_or blocks x 0) ≡ Leaf c = same_place list f (Leaf (get_or blocks x 0)) (Leaf c) at leaf in
      let o : get_or blocks x 0 ≡ c = cc in
      sym (get_or_from_slice_get blocks z d 0 m) ∙ ap (λ (v : ℕ). get_or blocks v 0) same ∙ o
    where
      node_at : (x y : ℕ) → SolePred start x y → get_or blocks y 0 ≡ k → slice_get blocks y ≡ Some k
      node_at x y pred e = let (u, v, _, n, _) = (t.nodes.edges x y).0 pred.edge in slice_get-get_or blocks y 0 (slice_get_within blocks y v n) ∙ ap Some e
