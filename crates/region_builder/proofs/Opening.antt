-- The builder of leaves and roots.
use Rattle.std.proofs.Common.{◌≡◌, ℕ, ◌<◌, true, inl, List, length, get_or, map, Some, refl, ap, subst, sym, ◌∙◌, arith}
use Rattle.std.proofs.lemmas.Option.{slice_get-get_or}
use Rattle.std.specs.List.{slice_get}
use Rattle.dxil_form.specs.declared.region.Region.{Region}
use Rattle.dxil_form.specs.declared.region.Region.TheVariants.{Leaf, Then}
use Rattle.dxil_form.specs.Graphs.{IsFormed, AllReached}
use Rattle.dxil_form.specs.declared.program.Program.{Program}
use Rattle.graph_laws.specs.Laws.{TellsHeads}
use Rattle.flow_graph.specs.Shapes.{Shape, plain}
use Rattle.head_table.specs.Table.{over}
use Rattle.head_table.specs.Ranks.{AreRanks}
use Rattle.head_table.proofs.Ranking.{ranks_rise, ranks_low}
use Rattle.region_leaves.proofs.Placing.{at_leaf}
use Rattle.region_builder.specs.Bare.{Bare, Fixed}
use Rattle.region_leaves.specs.Leaves.{leaves_of, placed_from}
use Rattle.region_builder.specs.declared.partial.Partial.{Partial}
use Rattle.region_builder.specs.declared.builder.Builder.{Builder}
use Rattle.region_builder.specs.Started.{IsStarted}
use Rattle.region_builder.specs.Children.{AreSolePreds}
use Rattle.region_builder.specs.Walked.{Walked}
use Rattle.region_builder.specs.Built.{Built, BuiltBy}
use Rattle.region_builder.proofs.Starting.{start_built, firsts_placed, seconds_length, seconds_at, graph_formed, graph_reached}
use Rattle.region_builder.proofs.Walking.{carried}
use Rattle.region_builder.proofs.EndWalking.{start_walked}
use Rattle.region_builder.proofs.FirstHeads.{first_traced, only_leaves}
use Rattle.region_builder.proofs.Tracing.{traced_left}

pub started_size : (p : Program) (partial : Partial) → IsStarted p partial → (bs : List ℕ) → bs ≡ map (λ (root : ℕ × ℕ). root.0) partial.roots → length bs ≡ partial.graph.count
started_size p partial is bs x =
    let firsts : bs ≡ is.blocks = x ∙ ap (λ (l : List (ℕ × ℕ)). map (λ (root : ℕ × ℕ). root.0) l) is.roots ∙ firsts_placed 0 is.blocks in
    ap (λ (l : List ℕ). length l) firsts ∙ sym is.graph.count

pub started_built : (p : Program) (partial : Partial) → IsStarted p partial → (builder : Builder)
    → builder.blocks.items ≡ map (λ (root : ℕ × ℕ). root.0) partial.roots → builder.places.items ≡ map (λ (root : ℕ × ℕ). root.1) partial.roots
    → builder.list ≡ partial.list → builder.graph ≡ partial.graph → length builder.firsts.items ≡ length builder.blocks.items → AreSolePreds (plain partial.graph) builder.firsts.items
    → builder.heads.count ≡ length builder.blocks.items → TellsHeads (plain partial.graph) (over builder.heads) → AreRanks (plain partial.graph) (length builder.blocks.items) builder.ranks.items
    → BuiltBy p partial builder
started_built p partial is builder x y z w preds_count preds heads_count told ranks =
    let own_blocks : map (λ (root : ℕ × ℕ). root.0) partial.roots ≡ is.blocks = ap (λ (l : List (ℕ × ℕ)). map (λ (root : ℕ × ℕ). root.0) l) is.roots ∙ firsts_placed 0 is.blocks in
    let firsts : builder.blocks.items ≡ is.blocks = x ∙ own_blocks in
    let size = ap (λ (l : List ℕ). length l) firsts in
    let seconds : builder.places.items ≡ map (λ (root : ℕ × ℕ). root.1) (placed_from 0 is.blocks) = y ∙ ap (λ (l : List (ℕ × ℕ)). map (λ (root : ℕ × ℕ). root.1) l) is.roots in
    let leaves : builder.list ≡ leaves_of is.blocks = z ∙ is.list in
    let own : (i : ℕ) → i < length is.blocks → get_or (map (λ (root : ℕ × ℕ). root.1) (placed_from 0 is.blocks)) i 0 ≡ i = λ i l. seconds_at 0 is.blocks i l ∙ omega arith in
    let same : plain builder.graph ≡ plain partial.graph = ap plain w in
    record {
      built = carried (Built p) builder.list (leaves_of is.blocks) builder.blocks.items is.blocks builder.places.items (map (λ (root : ℕ × ℕ). root.1) (placed_from 0 is.blocks))
          (plain builder.graph) (plain partial.graph) leaves firsts seconds same
          (start_built p is.sound is.blocks is.reachable is.few (plain partial.graph) is.graph (map (λ (root : ℕ × ℕ). root.1) (placed_from 0 is.blocks)) (seconds_length 0 is.blocks) own);
      walked = carried (Walked p) builder.list (leaves_of is.blocks) builder.blocks.items is.blocks builder.places.items (map (λ (root : ℕ × ℕ). root.1) (placed_from 0 is.blocks))
          (plain builder.graph) (plain partial.graph) leaves firsts seconds same
          (start_walked p is.sound is.blocks is.reachable (plain partial.graph) is.graph (map (λ (root : ℕ × ℕ). root.1) (placed_from 0 is.blocks)) own);
      traced = traced_left p partial builder.list (leaves_of is.blocks) builder.blocks.items is.blocks builder.places.items (map (λ (root : ℕ × ℕ). root.1) (placed_from 0 is.blocks))
          (plain builder.graph) (plain partial.graph) builder.firsts.items builder.firsts.items builder.heads builder.heads leaves firsts seconds same refl refl
          (first_traced p partial is.blocks is.reachable (sym own_blocks) is.graph (graph_formed p is.sound is.blocks is.reachable is.few (plain partial.graph) is.graph)
          (map (λ (root : ℕ × ℕ). root.1) (placed_from 0 is.blocks)) own builder.firsts.items (preds_count ∙ size) preds.sole builder.heads (heads_count ∙ size) told);
      fixed = fixed;
    }
  where
    formed : IsFormed (plain partial.graph)
    formed = graph_formed p is.sound is.blocks is.reachable is.few (plain partial.graph) is.graph

    reached : AllReached (plain partial.graph)
    reached = graph_reached p is.sound is.blocks is.reachable is.few (plain partial.graph) is.graph

    count : length builder.blocks.items ≡ (plain partial.graph).count
    count = started_size p partial is builder.blocks.items x

    fixed : Fixed (plain partial.graph) (length builder.blocks.items) builder.firsts.items builder.ranks.items
    fixed = record {
      told = λ i j n pred. preds.all i j (let l = formed.within j (formed.to i j pred.edge) in let c = count in omega arith) pred;
      ranks_count = ranks.count;
      rise = ranks_rise (plain partial.graph) formed reached (length builder.blocks.items) builder.ranks.items ranks count;
      low = ranks_low (plain partial.graph) (length builder.blocks.items) builder.ranks.items ranks count;
    }

-- leaves are no Then
pub started_bare : (p : Program) (partial : Partial) → IsStarted p partial → (builder : Builder)
    → builder.blocks.items ≡ map (λ (root : ℕ × ℕ). root.0) partial.roots → builder.places.items ≡ map (λ (root : ℕ × ℕ). root.1) partial.roots
    → builder.list ≡ partial.list → builder.graph ≡ partial.graph → Bare (plain partial.graph) builder
started_bare p partial is builder x y z w = record {
  no_then = λ r f s t h. (
      let P : List Region → Type 0 = λ l. slice_get l r ≡ Some (Then f s t) in
      let (k, q, _) = only_leaves is.blocks r (Then f s t) (subst P (z ∙ is.list) h) in absurd (cc));
  edges = λ u v e. (let P : Shape → Type 0 = λ s. (plain s).edge u v ≡ true in subst P w e);
  ready = λ u l. (
      let P : Shape → Type 0 = λ s. (plain s).live u ≡ true in
      let i = (is.graph.live u).0 (subst P w l) in
      let seconds : builder.places.items ≡ map (λ (root : ℕ × ℕ). root.1) (placed_from 0 is.blocks) = y ∙ ap (λ (l : List (ℕ × ℕ)). map (λ (root : ℕ × ℕ). root.1) l) is.roots in
      let at : get_or builder.places.items u 0 ≡ u = ap (λ (l : List ℕ). get_or l u 0) seconds ∙ seconds_at 0 is.blocks u i ∙ omega arith in
      let Q : List Region → Type 0 = λ l. slice_get l (get_or builder.places.items u 0) ≡ Some (Leaf (get_or is.blocks u 0)) in
      let R : ℕ → Type 0 = λ n. slice_get (leaves_of is.blocks) n ≡ Some (Leaf (get_or is.blocks u 0)) in
      inl (get_or is.blocks u 0, subst Q (sym (z ∙ is.list)) (subst R (sym at) (at_leaf is.blocks u (get_or is.blocks u 0) (slice_get-get_or is.blocks u 0 i)))));
}
