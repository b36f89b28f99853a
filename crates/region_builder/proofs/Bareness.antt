-- Where each block has at most one edge into it, no region is a Then.
use Rattle.std.proofs.Common.{◌≡◌, ◌≢◌, ◌⊎◌, inl, inr, ℕ, ◌+◌, ◌<◌, ◌≤◌, true, false, List, [], ◌∷◌, ◌++◌, length, get_or, Some, refl, sym, ap, subst, ◌∙◌, arith}
use Rattle.std.proofs.lemmas.Bool.{cases_eq, both_ways}
use Rattle.std.proofs.lemmas.List.{get_or-set_other}
use Rattle.std.specs.List.{slice_get}
use Rattle.dxil_form.specs.declared.program.Program.{Program}
use Rattle.dxil_form.specs.declared.region.Region.{Region}
use Rattle.dxil_form.specs.declared.region.Region.TheVariants.{Leaf, Then, Arms}
use Rattle.dxil_form.specs.Graphs.{Graph, Path, Ring, Crossed, SolePred}
use Rattle.dxil_form.specs.Branches.{has}
use Rattle.flow_graph.specs.Shapes.{plain}
use Rattle.head_table.specs.Table.{over}
use Rattle.region_laws.proofs.Places.{front, cases_last}
use Rattle.region_builder.specs.declared.partial.Partial.{Partial}
use Rattle.region_builder.specs.declared.builder.Builder.{Builder}
use Rattle.region_builder.specs.Settled.{IsAllowed, MayRepeat}
use Rattle.region_builder.specs.Built.{BuiltBy, Went}
use Rattle.region_builder.specs.Bare.{IsTree, NoThen, HasLeaf, Bare, IsSeen, BareFrom, BareAbove, NoArms, Branched}
use Rattle.region_builder.proofs.Starting.{first_block, graph_formed, graph_reached}

-- ---- the tree

module _ (p : Program) (first : Partial) (b : Builder) (is : BuiltBy p first b) (tree : IsTree (plain first.graph)) where
  abbrev start : Graph
  start = plain first.graph

  abbrev ranks : List ℕ
  ranks = b.ranks.items

  pub no_zero : (x : ℕ) → start.edge x 0 ≡ true → ⊥
  no_zero x e =
      let (c, k, h, m, t) = (is.traced.nodes.edges x 0).0 e in
      let zero : slice_get b.blocks.items 0 ≡ Some 0 = first_block p is.built.sound b.blocks.items is.built.reachable is.built.few_blocks start is.traced.nodes in
      let q : Some k ≡ Some 0 = sym m ∙ zero in
      let o : k ≡ 0 = cc in
      let (l, _) = is.built.sound.targets c k t in omega arith

  no_self_on : (x : ℕ) (before : List ℕ) → Path start 0 before x → start.edge x x ≡ true → ⊥
  no_self_on x [] q e = let P : ℕ → Type 0 = λ z. start.edge x z ≡ true in no_zero x (subst P (sym q) e)
  no_self_on x (c ∷ before) (d, w) e =
      let q : c ≡ x = tree c x x d e in
      let P : ℕ → Type 0 = λ z. Path start 0 before z in no_self_on x before (subst P q w) e

  pub no_self : (x : ℕ) → start.edge x x ≡ true → ⊥
  no_self x e =
      let formed = graph_formed p is.built.sound b.blocks.items is.built.reachable is.built.few_blocks start is.traced.nodes in
      let (before, w) = graph_reached p is.built.sound b.blocks.items is.built.reachable is.built.few_blocks start is.traced.nodes x (formed.from x x e) in no_self_on x before w e

  pub sole_edge : (x y : ℕ) → start.edge x y ≡ true → SolePred start x y
  sole_edge x y e = record {
    edge = e;
    other = λ q. (let P : ℕ → Type 0 = λ z. start.edge z y ≡ true in no_self y (subst P q e));
    sole = λ z d. tree z x y d e;
  }

  not_zero : (x y : ℕ) → start.edge x y ≡ true → y ≢ 0
  not_zero x y e q = let P : ℕ → Type 0 = λ z. start.edge x z ≡ true in no_zero x (subst P q e)

  pub edge_rises : (x y : ℕ) → start.edge x y ≡ true → get_or ranks x 0 < get_or ranks y 0
  edge_rises x y e = is.fixed.rise x y (not_zero x y e) (sole_edge x y e)

  -- a path along such edges rises
  path_rises : (g : Graph) → ((x y : ℕ) → g.edge x y ≡ true → start.edge x y ≡ true) → (x y c : ℕ) (before : List ℕ) → Path g x (c ∷ before) y → get_or ranks x 0 < get_or ranks y 0
  path_rises g within x y c [] (e, q) = let P : ℕ → Type 0 = λ z. start.edge z y ≡ true in edge_rises x y (subst P (sym q) (within c y e))
  path_rises g within x y c (d ∷ before) (e, w) = let l = path_rises g within x c d before w in let m = edge_rises c y (within c y e) in omega arith

  no_ring : (g : Graph) → ((x y : ℕ) → g.edge x y ≡ true → start.edge x y ≡ true) → (ring : List ℕ) → Ring g ring → ⊥
  no_ring g within [] (a, i, w) = absurd i
  no_ring g within (c ∷ ring) (a, i, w) = let l = path_rises g within a a c ring w in omega arith

  not_crossed : Crossed start → ⊥
  not_crossed k = no_ring start (λ x y e. e) k.ring k.closed

  -- ---- while regions are put together
  module _ (bare : Bare start b) where
    -- no head is left
    no_heads : (h k : ℕ) → (plain b.graph).live k ≡ true → over b.heads h k ≡ true → ⊥
    no_heads h k l o =
        let (ring, head, _) = ((is.traced.headed not_crossed).tells h k).0 (l, o) in no_ring (plain b.graph) bare.edges ring head.closed

    pub now_sole : (x y : ℕ) → (plain b.graph).edge x y ≡ true → SolePred (plain b.graph) x y
    now_sole x y e = record {
      edge = e;
      other = (sole_edge x y (bare.edges x y e)).other;
      sole = λ z d. tree z x y (bare.edges z y d) (bare.edges x y e);
    }

    pub no_repeat : (a : ℕ) → MayRepeat (over b.heads) (plain b.graph) a → ⊥
    no_repeat a may = no_self a (bare.edges a a may.edge)

    abbrev IsArm : ℕ → ℕ → Type 0
    IsArm a y = (y ≢ 0) × SolePred (plain b.graph) a y × (slice_get b.firsts.items y ≡ Some (Some a)) × IsAllowed (over b.heads) a y

    pub is_arm : (a y : ℕ) → (plain b.graph).edge a y ≡ true → IsArm a y
    is_arm a y e =
        let s = bare.edges a y e in
        let n = not_zero a y s in
        (n, now_sole a y e, is.fixed.told a y n (sole_edge a y s), λ h o. absurd (no_heads h a (is.built.formed.from a y e) o))

    -- where nothing could be an arm, no edge leads from a leaf's node
    pub no_edges : (a : ℕ) → HasLeaf b a ⊎ ((y : ℕ) → (plain b.graph).edge a y ≡ true → ⊥) → (HasLeaf b a → NoArms b a) → (y : ℕ) → (plain b.graph).edge a y ≡ true → ⊥
    no_edges a (inl leaf) none y e = let (n, s, f, w) = is_arm a y e in none leaf y n s f w
    no_edges a (inr stuck) none y e = stuck y e

    module _ (new : Builder) (a : ℕ) (k : Branched b new a) (done : (j y : ℕ) → start.edge a j ≡ true → (plain b.graph).edge j y ≡ true → ⊥) where
      pub old_edge : (x y : ℕ) → (plain new.graph).edge x y ≡ true → (has y k.nodes ≡ false) × ((plain b.graph).edge x y ≡ true)
      old_edge x y e = let (_, f, o) = (k.absorbed.edge x y).0 e in (
        f,
        elim o [
          | inl d ↦ d
          | inr (_, (j, t, d)) ↦ absurd (done j y (bare.edges a j (k.sole j t).edge) d)
        ],
      )

      pub branched_none : (y : ℕ) → (plain new.graph).edge a y ≡ true → ⊥
      branched_none y e =
          let (f, d) = old_edge a y e in
          let (n, s, o, w) = is_arm a y d in both_ways _ f (k.all y n s o w)

      pub bare_branched : Bare start new
      bare_branched = record {
        no_then = λ r f s t h. (
            let P : List Region → Type 0 = λ l. slice_get l r ≡ Some (Then f s t) in
            elim (cases_last b.list (Arms k.puts.first k.puts.arms) r (Then f s t) (subst P k.puts.list h)) [
              | inl o ↦ bare.no_then r f s t o
              | inr (_, o) ↦ absurd (cc)
            ]);
        edges = λ x y e. bare.edges x y (old_edge x y e).1;
        ready = ready;
      }
        where
          kept : (x : ℕ) → x ≢ a → HasLeaf b x → HasLeaf new x
          kept x n (leaf, h) =
              let P : List Region → Type 0 = λ l. slice_get l (get_or new.places.items x 0) ≡ Some (Leaf leaf) in
              let Q : ℕ → Type 0 = λ z. slice_get (b.list ++ Arms k.puts.first k.puts.arms ∷ []) z ≡ Some (Leaf leaf) in
              let e : get_or new.places.items x 0 ≡ get_or b.places.items x 0 = ap (λ (l : List ℕ). get_or l x 0) k.puts.places ∙ get_or-set_other b.places.items a x (length b.list) 0 n in
              (leaf, subst P (sym k.puts.list) (subst Q (sym e) (front b.list (Arms k.puts.first k.puts.arms ∷ []) (get_or b.places.items x 0) (Leaf leaf) h)))

          ready : (x : ℕ) → (plain new.graph).live x ≡ true → HasLeaf new x ⊎ ((y : ℕ) → (plain new.graph).edge x y ≡ true → ⊥)
          ready x l = elim (cases_eq x a) [
            | inl q ↦ (let P : ℕ → Type 0 = λ z. (y : ℕ) → (plain new.graph).edge z y ≡ true → ⊥ in inr (subst P (sym q) branched_none))
            | inr n ↦ elim (bare.ready x ((k.absorbed.live x).0 l).0) [
              | inl leaf ↦ inl (kept x n leaf)
              | inr stuck ↦ inr (λ y e. stuck y (old_edge x y e).1)
            ]
          ]

-- ---- nothing was done

pub bare_same : (start : Graph) (old new : Builder) → new.list ≡ old.list → new.places.items ≡ old.places.items → plain new.graph ≡ plain old.graph → Bare start old → Bare start new
bare_same start old new x y z bare = record {
  no_then = (let P : List Region → Type 0 = λ l. NoThen l in subst P (sym x) bare.no_then);
  edges = λ u v e. (let P : Graph → Type 0 = λ g. g.edge u v ≡ true in bare.edges u v (subst P z e));
  ready = λ u l. (
      let P : Graph → Type 0 = λ g. g.live u ≡ true in
      elim (bare.ready u (subst P z l)) [
        | inl (k, h) ↦ (
            let Q : List Region → Type 0 = λ m. slice_get m (get_or new.places.items u 0) ≡ Some (Leaf k) in
            let R : List ℕ → Type 0 = λ m. slice_get old.list (get_or m u 0) ≡ Some (Leaf k) in inl (k, subst Q (sym x) (subst R (sym y) h)))
        | inr stuck ↦ inr (λ v e. (let S : Graph → Type 0 = λ g. g.edge u v ≡ true in stuck v (subst S z e)))
      ]);
}

pub bare_went : (start : Graph) (old new : Builder) → Went old new false → Bare start old → Bare start new
bare_went start old new w bare = bare_same start old new (w.list refl) (w.places refl) (w.same refl) bare

-- ---- one node is visited

-- one node more has been seen
pub seen_less : (ranks : List ℕ) (r a x : ℕ) → IsSeen ranks r (a + 1) x → IsSeen ranks r a x ⊎ ((x ≡ a) × (get_or ranks x 0 ≡ r))
seen_less ranks r a x (inl l) = inl (inl l)
seen_less ranks r a x (inr (q, l)) = elim (cases_eq x a) [ inl e ↦ inr (e, q) | inr n ↦ inl (inr (q, omega arith)) ]

-- a visit where no edge is new and none leads from the node any more
pub visited : (start : Graph) (old new : Builder) (r a : ℕ) → new.ranks.items ≡ old.ranks.items → BareFrom start old r a → Bare start new
    → ((x y : ℕ) → (plain new.graph).edge x y ≡ true → (plain old.graph).edge x y ≡ true) → (get_or old.ranks.items a 0 ≡ r → (y : ℕ) → (plain new.graph).edge a y ≡ true → ⊥) → BareFrom start new r (a + 1)
visited start old new r a same from bare less none = record {
  bare = bare;
  done = λ x y s e. (
      let P : List ℕ → Type 0 = λ l. IsSeen l r (a + 1) x in
      elim (seen_less old.ranks.items r a x (subst P same s)) [
        | inl t ↦ from.done x y t (less x y e)
        | inr (q, o) ↦ (
            let Q : ℕ → Type 0 = λ z. get_or old.ranks.items z 0 ≡ r in
            let R : ℕ → Type 0 = λ z. (plain new.graph).edge z y ≡ true in none (subst Q q o) y (subst R q e))
      ]);
}

-- nothing is done at a node of another rank
pub idle_at : (start : Graph) (b : Builder) (r a : ℕ) → (get_or b.ranks.items a 0 ≡ r → ⊥) → BareFrom start b r a → BareFrom start b r (a + 1)
idle_at start b r a n from = visited start b b r a refl from from.bare (λ x y e. e) (λ q y e. n q)

-- no rank is so high
pub above_first : (p : Program) (first : Partial) (b : Builder) → BuiltBy p first b → (m : ℕ) → length b.blocks.items + 2 ≤ m → Bare (plain first.graph) b → BareAbove (plain first.graph) b m
above_first p first b is m l bare = record {
  bare = bare;
  done = λ x y i e. (
      let n = is.built.formed.within x (is.built.formed.from x y e) in
      let c = is.built.count in
      let k = is.fixed.low x (omega arith) in omega arith);
}

pub above_from : (start : Graph) (b : Builder) (r m : ℕ) → m ≤ r + 1 → BareAbove start b m → BareFrom start b r 0
above_from start b r m l above = record { bare = above.bare; done = λ x y s e. done x y s e }
  where
    done : (x y : ℕ) → IsSeen b.ranks.items r 0 x → (plain b.graph).edge x y ≡ true → ⊥
    done x y (inl k) e = above.done x y (omega arith) e
    done x y (inr (_, k)) e = omega arith

pub from_above : (p : Program) (first : Partial) (b : Builder) → BuiltBy p first b → (r n m : ℕ) → n ≡ length b.blocks.items → r ≤ m → BareFrom (plain first.graph) b r n → BareAbove (plain first.graph) b m
from_above p first b is r n m q l from = record { bare = from.bare; done = λ x y i e. from.done x y (seen x i (is.built.formed.from x y e)) e }
  where
    seen : (x : ℕ) → m ≤ get_or b.ranks.items x 0 → (plain b.graph).live x ≡ true → IsSeen b.ranks.items r n x
    seen x i live =
        let w = is.built.formed.within x live in
        let c = is.built.count in
        elim (cases_eq (get_or b.ranks.items x 0) r) [ inl e ↦ inr (e, omega arith) | inr o ↦ inl (omega arith) ]
