-- Leaves and roots for all blocks are a beginning.
use Rattle.std.proofs.Common.{◌≡◌, inl, inr, ℕ, zero, suc, ◌+◌, ◌<◌, ◌≤◌, true, List, [], ◌∷◌, length, get_or, map, Option, Some, refl, sym, ap, subst, ◌∙◌, arith}
use Rattle.std.proofs.lemmas.Bool.{cases_eq, cases_order, ltb-true, lt-ltb}
use Rattle.std.proofs.lemmas.Option.{slice_get_within, slice_get-get_or, get_or_from_slice_get}
use Rattle.std.specs.List.{slice_get, filter_map}
use Rattle.dxil_form.specs.declared.program.Program.{Program}
use Rattle.dxil_form.specs.declared.region.Region.{Region}
use Rattle.dxil_form.specs.declared.region.Region.TheVariants.{Leaf}
use Rattle.dxil_form.specs.Graphs.{Graph, IsFormed, AllReached, Reached, Path}
use Rattle.dxil_form.specs.Branches.{branches, declared_graph}
use Rattle.dxil_form.specs.Sound.{Sound}
use Rattle.dxil_form.specs.Walks.EnteredBy.{by_block}
use Rattle.dxil_form.specs.Wired.{MayWant}
use Rattle.dxil_form.specs.Wired.MayWant.{leaf_wants, first_wants, second_wants, body_wants, source_wants, arm_wants, choice_wants}
use Rattle.region_laws.specs.Roots.{HasRoot, WiredRoots}
use Rattle.region_laws.proofs.Places.{same_place}
use Rattle.region_leaves.specs.Leaves.{AreReachable, leaves_of, placed_from}
use Rattle.region_leaves.proofs.Placing.{at_leaf, at_placed, leaves_length}
use Rattle.flow_graph.specs.declared.linked.Edge.{Edge}
use Rattle.flow_graph.specs.Given.{given, states}
use Rattle.region_leaves.specs.Edges.{edges_on}
use Rattle.region_leaves.proofs.Branching.{states_branches}
use Rattle.region_leaves.proofs.Reaching.{reached_inside}
use Rattle.region_leaves.proofs.Rooted.{leaves_wired, index_of, block_reached, branch_reached}
use Rattle.region_builder.specs.Nodes.{AreNodes, node_edge}
use Rattle.flow_graph.specs.Shapes.{plain}
use Rattle.region_builder.specs.declared.partial.Partial.{Partial}
use Rattle.region_builder.specs.Started.{IsNodeGraph, IsStarted}
use Rattle.region_builder.proofs.Naming.{renamed_edges}
use Rattle.region_builder.specs.Built.{Parts, Built}
use Rattle.region_builder.proofs.Counting.{count_most}

pub wired_parts : (p : Program) (list : List Region) (roots : List (ℕ × ℕ)) → WiredRoots p list roots → Parts p list
wired_parts p list roots w = record {
  later = w.later;
  once = w.once;
  leaf = w.leaf;
  reached = w.reached;
  leaf_once = w.leaf_once;
  second = w.second;
  body = w.body;
  one_loop = w.one_loop;
  source = w.source;
  arm = w.arm;
  no_dispatch = w.no_dispatch;
}

module _ (p : Program) (sound : Sound p) (blocks : List ℕ) (are : AreReachable p blocks) (few_blocks : length blocks ≤ 400) (g : Graph) (is : IsNodeGraph p blocks g) where
  -- block 0 is the first
  pub first_block : slice_get blocks 0 ≡ Some 0
  first_block =
      let (i, h) = index_of p sound blocks are 0 ([], refl) in
      let l = slice_get_within blocks i 0 h in
      let e = get_or_from_slice_get blocks i 0 0 h in
      elim (cases_eq i 0) [
        | inl q ↦ (let P : ℕ → Type 0 = λ y. slice_get blocks y ≡ Some 0 in subst P q h)
        | inr n ↦ (let r = are.rising 0 i (omega arith) l in absurd (omega arith))
      ]

  one_index : (i j b : ℕ) → slice_get blocks i ≡ Some b → slice_get blocks j ≡ Some b → i ≡ j
  one_index i j b h k =
      let l = slice_get_within blocks i b h in
      let m = slice_get_within blocks j b k in
      let x = get_or_from_slice_get blocks i b 0 h in
      let y = get_or_from_slice_get blocks j b 0 k in
      elim (cases_order i j) [
        | inl q ↦ q
        | inr (inl below) ↦ (let r = are.rising i j below m in absurd (omega arith))
        | inr (inr above) ↦ (let r = are.rising j i above l in absurd (omega arith))
      ]

  pub graph_formed : IsFormed g
  graph_formed = record {
    entry = (is.live 0).1 (slice_get_within blocks 0 0 first_block);
    within = λ i l. (let m = (is.live i).0 l in let c = is.count in omega arith);
    from = λ i j e. (let (b, k, x, y, t) = (is.edges i j).0 e in (is.live i).1 (slice_get_within blocks i b x));
    to = λ i j e. (let (b, k, x, y, t) = (is.edges i j).0 e in (is.live j).1 (slice_get_within blocks j k y));
  }

  node_path : (b : ℕ) (before : List ℕ) → Path (declared_graph p) 0 before b → (i : ℕ) → slice_get blocks i ≡ Some b → Reached g i
  node_path b [] q i h =
      let P : ℕ → Type 0 = λ y. slice_get blocks i ≡ Some y in ([], sym (one_index i 0 0 (subst P (sym q) h) first_block))
  node_path b (c ∷ before) (e, w) i h =
      let (j, k) = index_of p sound blocks are c (before, w) in
      let (nodes, v) = node_path c before w j k in
      (j ∷ nodes, ((is.edges j i).1 (c, b, k, h, e), v))

  pub graph_reached : AllReached g
  graph_reached i l =
      let h = slice_get-get_or blocks i 0 ((is.live i).0 l) in
      let (before, w) = block_reached p sound blocks are i (get_or blocks i 0) h in node_path (get_or blocks i 0) before w i h

  abbrev list : List Region
  list = leaves_of blocks

  wired : WiredRoots p list (placed_from 0 blocks)
  wired = leaves_wired p sound blocks are

  module _ (places : List ℕ) (count : length places ≡ length blocks) (own : (i : ℕ) → i < length blocks → get_or places i 0 ≡ i) where
    block_at : (i : ℕ) → g.live i ≡ true → slice_get blocks i ≡ Some (get_or blocks i 0)
    block_at i l = slice_get-get_or blocks i 0 ((is.live i).0 l)

    leaf_at : (i : ℕ) → g.live i ≡ true → slice_get list (get_or places i 0) ≡ Some (Leaf (get_or blocks i 0))
    leaf_at i l =
        let P : ℕ → Type 0 = λ y. slice_get list y ≡ Some (Leaf (get_or blocks i 0)) in
        subst P (sym (own i ((is.live i).0 l))) (at_leaf blocks i (get_or blocks i 0) (block_at i l))

    root_at : (i : ℕ) → g.live i ≡ true → HasRoot (placed_from 0 blocks) (get_or blocks i 0) (get_or places i 0)
    root_at i l =
        let e : 0 + i ≡ get_or places i 0 = let o = own i ((is.live i).0 l) in omega arith in
        (i, at_placed 0 blocks i (get_or blocks i 0) (block_at i l) ∙ ap (λ (y : ℕ). Some (get_or blocks i 0, y)) e)

    branch_edge : (i k : ℕ) → g.live i ≡ true → branches p (get_or blocks i 0) k ≡ true → (j : ℕ) × (g.edge i j ≡ true) × (get_or blocks j 0 ≡ k)
    branch_edge i k l t =
        let (j, h) = index_of p sound blocks are k (branch_reached p sound blocks are (get_or blocks i 0) k
        (block_reached p sound blocks are i (get_or blocks i 0) (block_at i l)) t) in
        (j, (is.edges i j).1 (get_or blocks i 0, k, block_at i l, h, t), get_or_from_slice_get blocks j k 0 h)

    only_leaf : (i : ℕ) (l : g.live i ≡ true) (x : Region) → slice_get list (get_or places i 0) ≡ Some x → Leaf (get_or blocks i 0) ≡ x
    only_leaf i l x h = same_place list (get_or places i 0) (Leaf (get_or blocks i 0)) x (leaf_at i l) h

    wants : (i k : ℕ) → g.live i ≡ true → MayWant p list (get_or places i 0) k → (j : ℕ) × (g.edge i j ≡ true) × (get_or blocks j 0 ≡ k)
    wants i k l (leaf_wants {b = b} h t) =
        let e : Leaf (get_or blocks i 0) ≡ Leaf b = only_leaf i l _ h in
        let q : b ≡ get_or blocks i 0 = cc in
        let P : ℕ → Type 0 = λ y. branches p y k ≡ true in branch_edge i k l (subst P q t)
    wants i k l (first_wants h m n) = cc (only_leaf i l _ h)
    wants i k l (second_wants h m) = cc (only_leaf i l _ h)
    wants i k l (body_wants h m n) = cc (only_leaf i l _ h)
    wants i k l (source_wants h m n) = cc (only_leaf i l _ h)
    wants i k l (arm_wants h c m) = cc (only_leaf i l _ h)
    wants i k l (choice_wants h c m n) = cc (only_leaf i l _ h)

    wanted : (i j : ℕ) → g.edge i j ≡ true → MayWant p list (get_or places i 0) (get_or blocks j 0)
    wanted i j e =
        let l = graph_formed.from i j e in
        let (b, k, x, y, t) = (is.edges i j).0 e in
        let P : ℕ → Type 0 = λ z. branches p z k ≡ true in
        let Q : ℕ → Type 0 = λ z. branches p (get_or blocks i 0) z ≡ true in
        leaf_wants (leaf_at i l) (subst Q (sym (get_or_from_slice_get blocks j k 0 y)) (subst P (sym (get_or_from_slice_get blocks i b 0 x)) t))

    pub start_built : Built p list blocks places g
    start_built = record {
      sound = sound;
      reachable = are;
      few_blocks = few_blocks;
      count = is.count;
      places_count = count;
      formed = graph_formed;
      all_reached = graph_reached;
      regions = wired_parts p list (placed_from 0 blocks) wired;
      within = λ i l. slice_get_within list (get_or places i 0) _ (leaf_at i l);
      enters = λ i l. by_block (leaf_at i l);
      apart = λ i j l m e. (let x = own i ((is.live i).0 l) in let y = own j ((is.live j).0 m) in omega arith);
      free = λ i q n l k. wired.free (get_or blocks i 0) (get_or places i 0) q n (root_at i l) k;
      named = λ s l. (let e = leaves_length blocks in let m : s < length blocks = omega arith in inl (s, (is.live s).1 m, own s m));
      wants = wants;
      wanted = wanted;
      few = (let e = leaves_length blocks in let c = is.count in
          let x = count_most g.count g.live in let y = count_most g.count (λ i. g.edge i i) in omega arith);
    }

-- the graph of the edges between nodes is the graph of the nodes
module _ (p : Program) (sound : Sound p) (blocks : List ℕ) (are : AreReachable p blocks) where
  pub some_block : 0 < length blocks
  some_block = let (i, h) = index_of p sound blocks are 0 ([], refl) in let l = slice_get_within blocks i 0 h in omega arith

  pub block_below : (i : ℕ) → i < length blocks → get_or blocks i 0 < length p.blocks
  block_below i l = reached_inside p sound (get_or blocks i 0) (block_reached p sound blocks are i (get_or blocks i 0) (slice_get-get_or blocks i 0 l))

  pub given_nodes : (nodes : List (Option ℕ)) (es : List Edge) → AreNodes blocks (length blocks) nodes → es ≡ filter_map (node_edge nodes) (edges_on 0 p.blocks)
      → (g : Graph) → g ≡ given (length blocks) es → IsNodeGraph p blocks g
  given_nodes nodes es named is g same = let P : Graph → Type 0 = λ z. IsNodeGraph p blocks z in subst P (sym same) (record {
    count = refl;
    live = λ i. (λ t. ltb-true i (length blocks) t, λ l. lt-ltb i (length blocks) l);
    edges = λ i j. (
      λ t. (let Q : List Edge → Type 0 = λ z. states z i j ≡ true in
          let (b, k, x, y, z) = (renamed_edges blocks nodes (edges_on 0 p.blocks) named i j).0 (subst Q is t) in
          (b, k, x, y, (states_branches p.blocks b k).0 z)),
      λ h. (let (b, k, x, y, z) = h in let Q : List Edge → Type 0 = λ z. states z i j ≡ true in
          subst Q (sym is) ((renamed_edges blocks nodes (edges_on 0 p.blocks) named i j).1 (b, k, x, y, (states_branches p.blocks b k).1 z))),
    );
  })

pub firsts_placed : (i : ℕ) (bs : List ℕ) → map (λ (root : ℕ × ℕ). root.0) (placed_from i bs) ≡ bs
firsts_placed i [] = refl
firsts_placed i (b ∷ bs) = ap (λ (l : List ℕ). b ∷ l) (firsts_placed (suc i) bs)

pub seconds_length : (i : ℕ) (bs : List ℕ) → length (map (λ (root : ℕ × ℕ). root.1) (placed_from i bs)) ≡ length bs
seconds_length i [] = refl
seconds_length i (b ∷ bs) = ap suc (seconds_length (suc i) bs)

pub seconds_at : (i : ℕ) (bs : List ℕ) (k : ℕ) → k < length bs → get_or (map (λ (root : ℕ × ℕ). root.1) (placed_from i bs)) k 0 ≡ i + k
seconds_at i [] k l = absurd (omega arith)
seconds_at i (b ∷ bs) zero l = omega arith
seconds_at i (b ∷ bs) (suc k) l = let e = seconds_at (suc i) bs k (omega arith) in omega arith

pub started_live : (p : Program) (partial : Partial) → IsStarted p partial → (bs : List ℕ) → bs ≡ map (λ (root : ℕ × ℕ). root.0) partial.roots
    → (length bs ≤ 400) × ((i : ℕ) → i < length bs → (plain partial.graph).live i ≡ true)
started_live p partial is bs x =
    let firsts : bs ≡ is.blocks = x ∙ ap (λ (l : List (ℕ × ℕ)). map (λ (root : ℕ × ℕ). root.0) l) is.roots ∙ firsts_placed 0 is.blocks in
    let n = ap (λ (l : List ℕ). length l) firsts in
    let f = is.few in
    (omega arith, λ i l. (is.graph.live i).1 (omega arith))
