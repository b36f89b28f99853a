-- A root that goes on with another, and a root that goes round.
use Rattle.std.proofs.Common.{◌≡◌, ◌≢◌, ◌⊎◌, inl, inr, ℕ, zero, suc, ◌+◌, ◌*◌, ◌≤◌, Bool, true, false, not, eqb, ◌&&◌, List, [], ◌∷◌, ◌++◌, length, get_or, set, Some, refl, sym, ap, subst, ◌∙◌, arith, eq-eqb, ne_eqb}
use Rattle.std.proofs.lemmas.Bool.{cases_order, cases_Bool, both_ways, eqb-true, eqb-false, and_parts, and_from, not-true, not_from_false, not_from_true, and_left, and_right, false_from_ne_true, false≢true}
use Rattle.std.specs.List.{slice_get}
use Rattle.dxil_form.specs.declared.program.Program.{Program}
use Rattle.dxil_form.specs.declared.region.Region.{Region}
use Rattle.dxil_form.specs.declared.region.Region.TheVariants.{Then, Loop}
use Rattle.dxil_form.specs.Graphs.{Graph, SolePred, folded, absorbed, count_below}
use Rattle.dxil_form.specs.Walks.{EnteredBy}
use Rattle.dxil_form.specs.Walks.EnteredBy.{by_first, by_head}
use Rattle.dxil_form.specs.Wired.{MayWant, parts}
use Rattle.dxil_form.specs.Wired.MayWant.{leaf_wants, first_wants, second_wants, body_wants, source_wants, arm_wants, choice_wants}
use Rattle.graph_laws.proofs.Rewrites.{edge_absorbed, absorbed_edge, fold_less}
use Rattle.graph_laws.proofs.Public.{fold_reached, absorb_reached}
use Rattle.flow_graph.proofs.Rewritten.{same_graph}
use Rattle.region_laws.proofs.Places.{last, same_place}
use Rattle.region_laws.proofs.Growing.{enter_up, want_up, want_down, entered_once}
use Rattle.region_builder.specs.Built.{Built, self_edges}
use Rattle.region_builder.proofs.Growing.{Fitting, Rewritten, Joining, built_on}
use Rattle.region_builder.proofs.Counting.{count_less, count_one}

module _ (p : Program) (list : List Region) (blocks places : List ℕ) (g : Graph) (b : Built p list blocks places g) where
  -- nodes of one block are one
  pub one_node : (i k : ℕ) → g.live i ≡ true → g.live k ≡ true → get_or blocks i 0 ≡ get_or blocks k 0 → i ≡ k
  one_node i k l m e =
      let c = b.count in
      let x = b.formed.within i l in
      let y = b.formed.within k m in
      elim (cases_order i k) [
        | inl q ↦ q
        | inr (inl below) ↦ (let r = b.reachable.rising i k below (omega arith) in absurd (omega arith))
        | inr (inr above) ↦ (let r = b.reachable.rising k i above (omega arith) in absurd (omega arith))
      ]

  -- ---- a goes on with j
  module _ (a j : ℕ) (nonzero : j ≢ 0) (pred : SolePred g a j) where
    abbrev second_region : Region
    second_region = Then (get_or places a 0) (get_or places j 0) (get_or blocks j 0)

    abbrev gone : ℕ → Bool
    gone i = eqb i j

    abbrev now : Graph
    now = absorbed g a j

    a_live : g.live a ≡ true
    a_live = b.formed.from a j pred.edge

    j_live : g.live j ≡ true
    j_live = b.formed.to a j pred.edge

    not_j : (i : ℕ) → gone i ≡ false → i ≢ j
    not_j i f q = eqb-false i j f q

    pub join_rewritten : Rewritten g now a gone
    join_rewritten = let (formed, reached) = absorb_reached g b.formed b.all_reached a j nonzero pred in record {
      count = refl;
      formed = formed;
      all_reached = reached;
      stays = a_live;
      not_gone = ne_eqb a j pred.other;
      was = λ i t. (let P : ℕ → Type 0 = λ y. g.live y ≡ true in subst P (sym (eqb-true i j t)) j_live);
      live = λ i t. (let (l, n) = and_parts (g.live i) (not (eqb i j)) t in (l, not-true (eqb i j) n));
      lives = λ i l f. and_from (g.live i) (not (eqb i j)) l (not_from_false (eqb i j) f);
      edge = λ i k n e. (let (_, _, o) = edge_absorbed g a j nonzero pred i k e in elim o [ inl d ↦ d | inr (q, _) ↦ absurd (n q) ]);
      edges = λ i k n f e. absorbed_edge g a j nonzero pred i k (not_j i f)
          (λ q. (let P : ℕ → Type 0 = λ y. g.edge i y ≡ true in n (pred.sole i (subst P q e)))) (inl e);
    }

    pub join_parts : Joining places second_region a gone
    join_parts = record {
      own = (0, refl);
      all = λ i t. (1, ap (λ (y : ℕ). Some (get_or places y 0)) (sym (eqb-true i j t)));
      only = only;
      once = once;
    }
      where
        only : (n s : ℕ) → slice_get (parts second_region) n ≡ Some s → (i : ℕ) × ((i ≡ a) ⊎ (gone i ≡ true)) × (get_or places i 0 ≡ s)
        only zero s h = (a, inl refl, cc)
        only (suc zero) s h = (j, inr (eq-eqb j j refl), cc)
        only (suc (suc n)) s h = absurd (cc)

        differ : get_or places a 0 ≡ get_or places j 0 → ⊥
        differ e = pred.other (b.apart a j a_live j_live e)

        once : (m n s : ℕ) → slice_get (parts second_region) m ≡ Some s → slice_get (parts second_region) n ≡ Some s → m ≡ n
        once zero zero s h k = refl
        once zero (suc zero) s h k = absurd (differ (cc))
        once zero (suc (suc n)) s h k = absurd (cc)
        once (suc zero) zero s h k = absurd (differ (cc))
        once (suc zero) (suc zero) s h k = refl
        once (suc zero) (suc (suc n)) s h k = absurd (cc)
        once (suc (suc m)) n s h k = absurd (cc)

    pub join_fits : Fitting p list second_region
    join_fits = record {
      no_leaf = λ c q. cc;
      no_dispatch = λ arms q. cc;
      second = λ first second target q. (
          let s : get_or places j 0 ≡ second = cc in
          let t : get_or blocks j 0 ≡ target = cc in
          let P : ℕ → Type 0 = λ y. EnteredBy list y target in
          let Q : ℕ → Type 0 = λ y. EnteredBy list (get_or places j 0) y in subst P s (subst Q t (b.enters j j_live)));
      body = λ body head q. absurd (cc);
      one_loop = λ body head inner h q k. cc;
      source = λ first arms q. absurd (cc);
      arm = λ first k c arms q m. absurd (cc);
    }

    abbrev joined : List Region
    joined = list ++ second_region ∷ []

    at_end : (region : Region) → slice_get joined (length list) ≡ Some region → second_region ≡ region
    at_end region h = same_place joined (length list) second_region region (last list second_region) h

    up : {r k : ℕ} → MayWant p list r k → MayWant p joined r k
    up m = want_up list b.regions.later second_region p m

    down : (i : ℕ) {k : ℕ} → g.live i ≡ true → MayWant p joined (get_or places i 0) k → MayWant p list (get_or places i 0) k
    down i l m = want_down list b.regions.later second_region p (b.within i l) m

    join_enters : EnteredBy joined (length list) (get_or blocks a 0)
    join_enters = by_first (last list second_region) (enter_up list b.regions.later second_region (b.enters a a_live))

    abbrev Wanting : ℕ → Type 0
    Wanting k = (y : ℕ) × (now.edge a y ≡ true) × (get_or blocks y 0 ≡ k)

    join_wants : (k : ℕ) → MayWant p joined (length list) k → Wanting k
    join_wants k (leaf_wants h t) = cc (at_end _ h)
    join_wants k (first_wants {first = first} {second = second} {target = target} h m n) =
        let e : second_region ≡ Then first second target = at_end _ h in
        let f : first ≡ get_or places a 0 = cc in
        let t : get_or blocks j 0 ≡ target = cc in
        let P : ℕ → Type 0 = λ y. MayWant p joined y k in
        let (y, d, q) = b.wants a k a_live (down a a_live (subst P f m)) in
        (y, absorbed_edge g a j nonzero pred a y pred.other (λ o. n (sym q ∙ ap (λ (z : ℕ). get_or blocks z 0) o ∙ t)) (inl d), q)
    join_wants k (second_wants {first = first} {second = second} {target = target} h m) =
        let e : second_region ≡ Then first second target = at_end _ h in
        let f : second ≡ get_or places j 0 = cc in
        let P : ℕ → Type 0 = λ y. MayWant p joined y k in
        let (y, d, q) = b.wants j k j_live (down j j_live (subst P f m)) in
        let Q : ℕ → Type 0 = λ z. g.edge j z ≡ true in
        (y, absorbed_edge g a j nonzero pred a y pred.other (λ o. pred.other (sym (pred.sole j (subst Q o d)))) (inr (refl, d)), q)
    join_wants k (body_wants h m n) = cc (at_end _ h)
    join_wants k (source_wants h m n) = cc (at_end _ h)
    join_wants k (arm_wants h c m) = cc (at_end _ h)
    join_wants k (choice_wants h c m n) = cc (at_end _ h)

    join_wanted : (y : ℕ) → now.edge a y ≡ true → MayWant p joined (length list) (get_or blocks y 0)
    join_wanted y e =
        let (_, n, o) = edge_absorbed g a j nonzero pred a y e in
        elim o [
          | inl d ↦ first_wants (last list second_region) (up (b.wanted a y d)) (λ q. n (one_node y j (b.formed.to a y d) j_live q))
          | inr (_, d) ↦ second_wants (last list second_region) (up (b.wanted j y d))
        ]

    join_few : length list + 1 + 2 * count_below now.count now.live + self_edges now ≤ 4 * length blocks
    join_few =
        let few = b.few in
        let lives = count_less g.count now.live g.live (λ x t. (join_rewritten.live x t).0) j (b.formed.within j j_live)
        (and_right (g.live j) _ (not_from_true (eqb j j) (eq-eqb j j refl))) j_live in
        let selfs = count_one g.count (λ i. now.edge i i) (λ i. g.edge i i) a (λ x n t. join_rewritten.edge x x n t) in
        omega arith

    pub join_built : Built p joined blocks (set places a (length list)) now
    join_built = built_on p list blocks places g b second_region a gone now join_rewritten join_parts join_fits join_enters join_wants join_wanted join_few

  -- ---- a goes round
  module _ (a : ℕ) (self : g.edge a a ≡ true) where
    abbrev loop_region : Region
    loop_region = Loop (get_or places a 0) (get_or blocks a 0)

    abbrev around : Graph
    around = folded g a

    abbrev pub nobody : ℕ → Bool
    nobody i = false

    own_live : g.live a ≡ true
    own_live = b.formed.from a a self

    folded_edge : (i k : ℕ) → g.edge i k ≡ true → ((i ≡ a) × (k ≡ a) → ⊥) → around.edge i k ≡ true
    folded_edge i k e n = and_from (g.edge i k) _ e (not_from_false (eqb i a && eqb k a)
        (false_from_ne_true (eqb i a && eqb k a) (λ t. (let (q, o) = and_parts (eqb i a) (eqb k a) t in n (eqb-true i a q, eqb-true k a o)))))

    edge_folded : (k : ℕ) → around.edge a k ≡ true → (g.edge a k ≡ true) × (k ≢ a)
    edge_folded k t =
        let (e, n) = and_parts (g.edge a k) _ t in
        (e, λ q. both_ways (eqb a a && eqb k a) (not-true (eqb a a && eqb k a) n) (and_from (eqb a a) (eqb k a) (eq-eqb a a refl) (eq-eqb k a q)))

    pub loop_rewritten : Rewritten g around a nobody
    loop_rewritten = let (formed, reached) = fold_reached g b.formed b.all_reached a in record {
      count = refl;
      formed = formed;
      all_reached = reached;
      stays = own_live;
      not_gone = refl;
      was = λ i t. absurd (false≢true t);
      live = λ i t. (t, refl);
      lives = λ i l f. l;
      edge = λ i k n e. fold_less g a i k e;
      edges = λ i k n f e. folded_edge i k e (λ q. n q.0);
    }

    pub loop_parts : Joining places loop_region a nobody
    loop_parts = record {
      own = (0, refl);
      all = λ i t. absurd (false≢true t);
      only = only;
      once = once;
    }
      where
        only : (n s : ℕ) → slice_get (parts loop_region) n ≡ Some s → (i : ℕ) × ((i ≡ a) ⊎ (nobody i ≡ true)) × (get_or places i 0 ≡ s)
        only zero s h = (a, inl refl, cc)
        only (suc n) s h = absurd (cc)

        once : (m n s : ℕ) → slice_get (parts loop_region) m ≡ Some s → slice_get (parts loop_region) n ≡ Some s → m ≡ n
        once zero zero s h k = refl
        once zero (suc n) s h k = absurd (cc)
        once (suc m) n s h k = absurd (cc)

    -- a root that is a loop no longer wants its own block
    no_loop : (inner h : ℕ) → slice_get list (get_or places a 0) ≡ Some (Loop inner h) → ⊥
    no_loop inner h k = go (b.wanted a a self)
      where
        head_is : h ≡ get_or blocks a 0
        head_is = entered_once list b.regions.later b.regions.no_dispatch (by_head k) (b.enters a own_live)

        at_root : (region : Region) → slice_get list (get_or places a 0) ≡ Some region → Loop inner h ≡ region
        at_root region m = same_place list (get_or places a 0) (Loop inner h) region k m

        go : MayWant p list (get_or places a 0) (get_or blocks a 0) → ⊥
        go (leaf_wants m t) = cc (at_root _ m)
        go (first_wants m x n) = cc (at_root _ m)
        go (second_wants m x) = cc (at_root _ m)
        go (body_wants {body = body} {head = head} m x n) = let e : Loop inner h ≡ Loop body head = at_root _ m in let q : h ≡ head = cc in n (sym head_is ∙ q)
        go (source_wants m x n) = cc (at_root _ m)
        go (arm_wants m c x) = cc (at_root _ m)
        go (choice_wants m c x n) = cc (at_root _ m)

    pub loop_fits : Fitting p list loop_region
    loop_fits = record {
      no_leaf = λ c q. cc;
      no_dispatch = λ arms q. cc;
      second = λ first second target q. absurd (cc);
      body = λ body head q. (
          let s : get_or places a 0 ≡ body = cc in
          let t : get_or blocks a 0 ≡ head = cc in
          let P : ℕ → Type 0 = λ y. EnteredBy list y head in
          let Q : ℕ → Type 0 = λ y. EnteredBy list (get_or places a 0) y in subst P s (subst Q t (b.enters a own_live)));
      one_loop = λ body head inner h q k. (
          let s : body ≡ get_or places a 0 = cc in
          let P : ℕ → Type 0 = λ y. slice_get list y ≡ Some (Loop inner h) in no_loop inner h (subst P s k));
      source = λ first arms q. absurd (cc);
      arm = λ first k c arms q m. absurd (cc);
    }

    abbrev looped : List Region
    looped = list ++ loop_region ∷ []

    at_loop : (region : Region) → slice_get looped (length list) ≡ Some region → loop_region ≡ region
    at_loop region h = same_place looped (length list) loop_region region (last list loop_region) h

    loop_wants : (k : ℕ) → MayWant p looped (length list) k → (y : ℕ) × (around.edge a y ≡ true) × (get_or blocks y 0 ≡ k)
    loop_wants k (leaf_wants h t) = cc (at_loop _ h)
    loop_wants k (first_wants h m n) = cc (at_loop _ h)
    loop_wants k (second_wants h m) = cc (at_loop _ h)
    loop_wants k (body_wants {body = body} {head = head} h m n) =
        let e : loop_region ≡ Loop body head = at_loop _ h in
        let f : body ≡ get_or places a 0 = cc in
        let t : get_or blocks a 0 ≡ head = cc in
        let P : ℕ → Type 0 = λ y. MayWant p looped y k in
        let (y, d, q) = b.wants a k own_live (want_down list b.regions.later loop_region p (b.within a own_live) (subst P f m)) in
        (y, folded_edge a y d (λ o. n (sym q ∙ ap (λ (z : ℕ). get_or blocks z 0) o.1 ∙ t)), q)
    loop_wants k (source_wants h m n) = cc (at_loop _ h)
    loop_wants k (arm_wants h c m) = cc (at_loop _ h)
    loop_wants k (choice_wants h c m n) = cc (at_loop _ h)

    loop_wanted : (y : ℕ) → around.edge a y ≡ true → MayWant p looped (length list) (get_or blocks y 0)
    loop_wanted y t =
        let (e, n) = edge_folded y t in
        body_wants (last list loop_region) (want_up list b.regions.later loop_region p (b.wanted a y e))
        (λ q. n (one_node y a (b.formed.to a y e) own_live q))

    loop_few : length list + 1 + 2 * count_below around.count around.live + self_edges around ≤ 4 * length blocks
    loop_few =
        let few = b.few in
        let selfs = count_less g.count (λ i. around.edge i i) (λ i. g.edge i i) (λ x t. fold_less g a x x t) a (b.formed.within a own_live)
        (false_from_ne_true (around.edge a a) (λ t. (edge_folded a t).1 refl)) self in
        omega arith

    pub loop_built : Built p looped blocks (set places a (length list)) around
    loop_built = built_on p list blocks places g b loop_region a nobody around loop_rewritten loop_parts loop_fits
        (by_head (last list loop_region)) loop_wants loop_wanted loop_few

-- a fold of a node without an edge to itself changes nothing
pub folded_same : (g : Graph) (a : ℕ) → (g.edge a a ≡ true → ⊥) → folded g a ≡ g
folded_same g a none = same_graph (folded g a) g refl (λ x. refl) (λ x y. same x y (cases_Bool (eqb x a && eqb y a)))
  where
    gone : (x y : ℕ) → (eqb x a && eqb y a) ≡ true → g.edge x y ≡ false
    gone x y t =
        let (q, o) = and_parts (eqb x a) (eqb y a) t in
        let P : ℕ → Type 0 = λ z. g.edge z y ≡ true in
        let Q : ℕ → Type 0 = λ z. g.edge a z ≡ true in
        false_from_ne_true (g.edge x y) (λ e. none (subst Q (eqb-true y a o) (subst P (eqb-true x a q) e)))

    same : (x y : ℕ) → ((eqb x a && eqb y a) ≡ true) ⊎ ((eqb x a && eqb y a) ≡ false) → (g.edge x y && not (eqb x a && eqb y a)) ≡ g.edge x y
    same x y (inl t) = and_left (g.edge x y) _ (gone x y t) ∙ sym (gone x y t)
    same x y (inr f) = kept (g.edge x y) (not (eqb x a && eqb y a)) (not_from_false (eqb x a && eqb y a) f)
      where
        kept : (e n : Bool) → n ≡ true → (e && n) ≡ e
        kept true n t = t
        kept false n t = refl

-- the same for what a call leaves
module _ (p : Program) (list : List Region) (blocks places : List ℕ) (g : Graph) (b : Built p list blocks places g) where
  abbrev Left : List Region → List ℕ → List ℕ → Graph → Type 0
  Left l bs ps h = Built p l bs ps h

  pub replaced : (l m : List Region) (bs cs ps qs : List ℕ) (h k : Graph) → l ≡ m → bs ≡ cs → ps ≡ qs → h ≡ k → Built p m cs qs k → Built p l bs ps h
  replaced l m bs cs ps qs h k x y z w built =
      let P : List Region → Type 0 = λ v. Left v bs ps h in
      let Q : List ℕ → Type 0 = λ v. Left m v ps h in
      let R : List ℕ → Type 0 = λ v. Left m cs v h in
      let S : Graph → Type 0 = λ v. Left m cs qs v in subst P (sym x) (subst Q (sym y) (subst R (sym z) (subst S (sym w) built)))

  pub join_left : (a j : ℕ) → j ≢ 0 → SolePred g a j → (region : Region) → region ≡ Then (get_or places a 0) (get_or places j 0) (get_or blocks j 0)
      → (l : List Region) (bs ps : List ℕ) (h : Graph) → l ≡ list ++ region ∷ [] → bs ≡ blocks → ps ≡ set places a (length list) → h ≡ absorbed g a j → Built p l bs ps h
  join_left a j n pred region is l bs ps h x y z w =
      replaced l _ bs _ ps _ h _ (x ∙ ap (λ (r : Region). list ++ r ∷ []) is) y z w (join_built p list blocks places g b a j n pred)

  pub loop_left : (a : ℕ) → g.edge a a ≡ true → (region : Region) → region ≡ Loop (get_or places a 0) (get_or blocks a 0)
      → (l : List Region) (bs ps : List ℕ) (h : Graph) → l ≡ list ++ region ∷ [] → bs ≡ blocks → ps ≡ set places a (length list) → h ≡ folded g a → Built p l bs ps h
  loop_left a self region is l bs ps h x y z w =
      replaced l _ bs _ ps _ h _ (x ∙ ap (λ (r : Region). list ++ r ∷ []) is) y z w (loop_built p list blocks places g b a self)

  pub fold_left : (a : ℕ) → (g.edge a a ≡ true → ⊥) → (h : Graph) → h ≡ folded g a → Built p list blocks places h
  fold_left a none h w = let S : Graph → Type 0 = λ v. Left list blocks places v in subst S (sym (w ∙ folded_same g a none)) b
