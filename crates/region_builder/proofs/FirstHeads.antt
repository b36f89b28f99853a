-- Leaves and roots for all blocks, and the heads of their graph.
use Rattle.std.proofs.Common.{◌≡◌, inr, ℕ, ◌<◌, Bool, true, List, length, get_or, map, Option, Some, sym, ap, subst, ◌∙◌}
use Rattle.std.proofs.lemmas.Option.{none-some, slice_get-get_or}
use Rattle.std.specs.List.{slice_get}
use Rattle.dxil_form.specs.declared.program.Program.{Program}
use Rattle.dxil_form.specs.declared.region.Region.{Region}
use Rattle.dxil_form.specs.declared.region.Region.TheVariants.{Leaf, Loop, Arms}
use Rattle.dxil_form.specs.Graphs.{Graph, IsFormed, SolePred, IsHeadOver}
use Rattle.dxil_form.specs.Wired.{IsPart, parts}
use Rattle.graph_laws.specs.Laws.{TellsHeads}
use Rattle.flow_graph.specs.Shapes.{plain}
use Rattle.head_table.specs.declared.table.HeadTable.{HeadTable}
use Rattle.head_table.specs.Table.{over}
use Rattle.region_leaves.specs.Leaves.{AreReachable, leaves_of}
use Rattle.region_leaves.proofs.Placing.{leaf_at, at_leaf}
use Rattle.region_builder.specs.declared.partial.Partial.{Partial}
use Rattle.region_builder.specs.Started.{IsNodeGraph}
use Rattle.region_builder.specs.Loops.{Under}
use Rattle.region_builder.specs.Loops.Under.{is_leaf, in_part}
use Rattle.region_builder.specs.Headed.{Headed}
use Rattle.region_builder.specs.Traced.{Traced}
use Rattle.region_builder.proofs.Leaving.{one_block}
use Rattle.region_builder.proofs.Heading.{passed_live}

pub only_leaves : (bs : List ℕ) (r : ℕ) (x : Region) → slice_get (leaves_of bs) r ≡ Some x → (k : ℕ) × (x ≡ Leaf k) × (slice_get bs r ≡ Some k)
only_leaves bs r x h = let (b, e, q) = leaf_at bs r x h in (b, sym q, e)

no_part : (bs : List ℕ) (r i s : ℕ) → IsPart (leaves_of bs) r i s → ⊥
no_part bs r i s k =
    let (b, q, _) = only_leaves bs r k.region k.stands in
    let P : Region → Type 0 = λ x. slice_get (parts x) i ≡ Some s in none-some s (subst P q k.part)

under_leaf : (bs : List ℕ) (r k : ℕ) → Under (leaves_of bs) r k → slice_get bs r ≡ Some k
under_leaf bs r k (is_leaf h) = let (b, q, e) = only_leaves bs r (Leaf k) h in let o : b ≡ k = cc in e ∙ ap Some o
under_leaf bs r k (in_part {i = i} {s = s} m u) = absurd (no_part bs r i s m)

module _ (p : Program) (blocks : List ℕ) (are : AreReachable p blocks) (g : Graph) (is : IsNodeGraph p blocks g) (formed : IsFormed g)
    (places : List ℕ) (own : (i : ℕ) → i < length blocks → get_or places i 0 ≡ i) (tells : ℕ → ℕ → Bool) (told : TellsHeads g tells) where
  first_below : (h c b : ℕ) → g.live c ≡ true → tells h c ≡ true → b < length blocks → Under (leaves_of blocks) (get_or places c 0) (get_or blocks b 0) → IsHeadOver g h b
  first_below h c b l o i u =
      let m = (is.live c).0 l in
      let P : ℕ → Type 0 = λ z. Under (leaves_of blocks) z (get_or blocks b 0) in
      let e = under_leaf blocks c (get_or blocks b 0) (subst P (own c m) u) in
      let q : get_or blocks c 0 ≡ get_or blocks b 0 = cc_some (sym (slice_get-get_or blocks c 0 m) ∙ e) in
      let same : c ≡ b = one_block are c b m i q in
      let Q : ℕ → Type 0 = λ z. IsHeadOver g h z in subst Q same ((told h c).0 o)
    where
      cc_some : {x y : ℕ} → Some x ≡ Some y → x ≡ y
      cc_some e = cc

  pub first_headed : Headed g (leaves_of blocks) blocks places g tells
  first_headed = record {
    tells = λ h b. (λ y. (told h b).0 y.1, λ o. (passed_live g formed h b o, (told h b).1 o));
    heads = λ h c l o. (let (ring, k, _) = (told h c).0 o in (ring, k, k.enters.0));
    below = first_below;
    kept = λ h b o. (
        let l = passed_live g formed h b o in
        let i = (is.live b).0 l in
        let P : ℕ → Type 0 = λ z. Under (leaves_of blocks) z (get_or blocks b 0) in
        inr (b, l, (told h b).1 o, subst P (sym (own b i)) (is_leaf (at_leaf blocks b (get_or blocks b 0) (slice_get-get_or blocks b 0 i)))));
    loops = λ r body head h. (let (k, q, _) = only_leaves blocks r (Loop body head) h in absurd (cc));
    once = λ r s body inner head h _. (let (k, q, _) = only_leaves blocks r (Loop body head) h in absurd (cc));
  }

pub first_traced : (p : Program) (first : Partial) (blocks : List ℕ) → AreReachable p blocks → blocks ≡ map (λ (root : ℕ × ℕ). root.0) first.roots
    → IsNodeGraph p blocks (plain first.graph) → IsFormed (plain first.graph) → (places : List ℕ) → ((i : ℕ) → i < length blocks → get_or places i 0 ≡ i)
    → (firsts : List (Option ℕ)) → length firsts ≡ length blocks → ((i j : ℕ) → slice_get firsts j ≡ Some (Some i) → SolePred (plain first.graph) i j)
    → (heads : HeadTable) → heads.count ≡ length blocks → TellsHeads (plain first.graph) (over heads)
    → Traced p first (leaves_of blocks) blocks places (plain first.graph) firsts heads
first_traced p first blocks are e is formed places own firsts count sole heads size told = record {
  blocks_are = e;
  nodes = is;
  rings = (λ k. k, λ k. k);
  firsts_count = count;
  sole = sole;
  arms = λ r f k s l h _. (let (b, q, _) = only_leaves blocks r (Arms f l) h in absurd (cc));
  heads_count = size;
  headed = λ never. first_headed p blocks are (plain first.graph) is formed places own (over heads) told;
}
