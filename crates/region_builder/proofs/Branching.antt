-- A leaf whose branch goes on with the roots of several nodes.
use Rattle.std.proofs.Common.{◌≡◌, ◌⊎◌, inl, inr, ℕ, zero, suc, ◌+◌, ◌*◌, ◌<◌, ◌≤◌, Bool, true, false, List, [], ◌∷◌, ◌++◌, length, get_or, set, map, Some, refl, sym, ap, subst, ◌∙◌, arith}
use Rattle.std.proofs.lemmas.Bool.{both_ways, false_from_ne_true}
use Rattle.std.proofs.lemmas.Option.{none-some, some_pair_parts, slice_get-get_or}
use Rattle.std.specs.List.{slice_get, Contains}
use Rattle.dxil_form.specs.declared.program.Program.{Program}
use Rattle.dxil_form.specs.declared.region.Region.{Region}
use Rattle.dxil_form.specs.declared.region.Region.TheVariants.{Leaf, Arms}
use Rattle.dxil_form.specs.Graphs.{Graph, SolePred, count_below}
use Rattle.dxil_form.specs.Branches.{branches, has}
use Rattle.dxil_form.specs.Walks.{EnteredBy}
use Rattle.dxil_form.specs.Walks.EnteredBy.{by_block, by_source}
use Rattle.dxil_form.specs.Wired.{MayWant, parts}
use Rattle.dxil_form.specs.Wired.MayWant.{leaf_wants, first_wants, second_wants, body_wants, source_wants, arm_wants, choice_wants}
use Rattle.region_laws.proofs.Places.{last, same_place, get_has, has_get}
use Rattle.region_laws.proofs.Growing.{enter_up, want_up, want_down, entered_once}
use Rattle.region_builder.specs.Built.{Built, self_edges}
use Rattle.region_builder.specs.Absorbing.{AreChildren, AreAbsorbed, arms_of}
use Rattle.region_builder.proofs.Growing.{Fitting, Rewritten, Joining, built_on}
use Rattle.region_builder.proofs.Counting.{count_less, count_one}
use Rattle.region_builder.proofs.Steps.{one_node, replaced}
use Rattle.region_builder.proofs.Absorbing.{has_place, place_has, not_child}

-- the arm of the node at a place
pub arm_at : (blocks places nodes : List ℕ) (n j : ℕ) → slice_get nodes n ≡ Some j → slice_get (arms_of blocks places nodes) n ≡ Some (get_or blocks j 0, get_or places j 0)
arm_at blocks places [] n j h = absurd (none-some j h)
arm_at blocks places (x ∷ xs) zero j h = let q : x ≡ j = cc in ap (λ (y : ℕ). Some (get_or blocks y 0, get_or places y 0)) q
arm_at blocks places (x ∷ xs) (suc n) j h = arm_at blocks places xs n j h

at_arm : (blocks places nodes : List ℕ) (n k s : ℕ) → slice_get (arms_of blocks places nodes) n ≡ Some (k, s)
    → (j : ℕ) × (slice_get nodes n ≡ Some j) × (get_or blocks j 0 ≡ k) × (get_or places j 0 ≡ s)
at_arm blocks places [] n k s h = absurd (none-some (k, s) h)
at_arm blocks places (x ∷ xs) zero k s h = let (q, o) = some_pair_parts (get_or blocks x 0) k (get_or places x 0) s h in (x, refl, q, o)
at_arm blocks places (x ∷ xs) (suc n) k s h = at_arm blocks places xs n k s h

-- and its place among the parts
part_at : (blocks places nodes : List ℕ) (n j : ℕ) → slice_get nodes n ≡ Some j → slice_get (map (λ (arm : ℕ × ℕ). arm.1) (arms_of blocks places nodes)) n ≡ Some (get_or places j 0)
part_at blocks places [] n j h = absurd (none-some j h)
part_at blocks places (x ∷ xs) zero j h = let q : x ≡ j = cc in ap (λ (y : ℕ). Some (get_or places y 0)) q
part_at blocks places (x ∷ xs) (suc n) j h = part_at blocks places xs n j h

at_part : (blocks places nodes : List ℕ) (n s : ℕ) → slice_get (map (λ (arm : ℕ × ℕ). arm.1) (arms_of blocks places nodes)) n ≡ Some s
    → (j : ℕ) × (slice_get nodes n ≡ Some j) × (get_or places j 0 ≡ s)
at_part blocks places [] n s h = absurd (none-some s h)
at_part blocks places (x ∷ xs) zero s h = (x, refl, cc)
at_part blocks places (x ∷ xs) (suc n) s h = at_part blocks places xs n s h

module _ (p : Program) (list : List Region) (blocks places : List ℕ) (g : Graph) (b : Built p list blocks places g)
    (a : ℕ) (nodes : List ℕ) (c : AreChildren g a nodes) (block : ℕ) (leaf : slice_get list (get_or places a 0) ≡ Some (Leaf block))
    (now : Graph) (are : AreAbsorbed g a nodes now) where
  abbrev arms : List (ℕ × ℕ)
  arms = arms_of blocks places nodes

  abbrev region : Region
  region = Arms (get_or places a 0) arms

  abbrev gone : ℕ → Bool
  gone i = has i nodes

  abbrev branched : List Region
  branched = list ++ region ∷ []

  first_child : (j : ℕ) × (slice_get nodes 0 ≡ Some j)
  first_child = let s = c.some in (get_or nodes 0 0, slice_get-get_or nodes 0 0 (omega arith))

  a_live : g.live a ≡ true
  a_live = let (j, h) = first_child in b.formed.from a j (c.sole 0 j h).edge

  pub child_live : (n j : ℕ) → slice_get nodes n ≡ Some j → g.live j ≡ true
  child_live n j h = b.formed.to a j (c.sole n j h).edge

  pub child_pred : (j : ℕ) → has j nodes ≡ true → SolePred g a j
  child_pred j t = let (n, h) = has_place nodes j t in c.sole n j h

  pub rewritten : Rewritten g now a gone
  rewritten = record {
    count = are.count;
    formed = are.formed;
    all_reached = are.all_reached;
    stays = a_live;
    not_gone = not_child g a nodes c;
    was = λ i t. (let (n, h) = has_place nodes i t in child_live n i h);
    live = λ i t. (are.live i).0 t;
    lives = λ i l f. (are.live i).1 (l, f);
    edge = λ i k n e. elim ((are.edge i k).0 e).2 [ inl d ↦ d | inr (q, _) ↦ absurd (n q) ];
    edges = λ i k n f e. (are.edge i k).1 (f, false_from_ne_true (has k nodes) (λ t. n ((child_pred k t).sole i e)), inl e);
  }

  pub branch_parts : Joining places region a gone
  branch_parts = record {
    own = (0, refl);
    all = λ i t. (let (n, h) = has_place nodes i t in (suc n, part_at blocks places nodes n i h));
    only = only;
    once = once;
  }
    where
      only : (n s : ℕ) → slice_get (parts region) n ≡ Some s → (i : ℕ) × ((i ≡ a) ⊎ (gone i ≡ true)) × (get_or places i 0 ≡ s)
      only zero s h = (a, inl refl, cc)
      only (suc n) s h = let (j, m, q) = at_part blocks places nodes n s h in (j, inr (place_has nodes n j m), q)

      apart : (n s : ℕ) → get_or places a 0 ≡ s → slice_get (map (λ (arm : ℕ × ℕ). arm.1) arms) n ≡ Some s → ⊥
      apart n s e h =
          let (j, m, q) = at_part blocks places nodes n s h in
          (c.sole n j m).other (b.apart a j a_live (child_live n j m) (e ∙ sym q))

      once : (m n s : ℕ) → slice_get (parts region) m ≡ Some s → slice_get (parts region) n ≡ Some s → m ≡ n
      once zero zero s h k = refl
      once zero (suc n) s h k = absurd (apart n s (cc) k)
      once (suc m) zero s h k = absurd (apart m s (cc) h)
      once (suc m) (suc n) s h k =
          let (i, x, q) = at_part blocks places nodes m s h in
          let (j, y, o) = at_part blocks places nodes n s k in
          let e : i ≡ j = b.apart i j (child_live m i x) (child_live n j y) (q ∙ sym o) in
          let P : ℕ → Type 0 = λ z. slice_get nodes m ≡ Some z in
          ap suc (c.once m n j (subst P e x) y)

  -- the leaf's block is that of a
  pub block_is : get_or blocks a 0 ≡ block
  block_is = entered_once list b.regions.later b.regions.no_dispatch (b.enters a a_live) (by_block leaf)

  at_leaf : (x : Region) → slice_get list (get_or places a 0) ≡ Some x → Leaf block ≡ x
  at_leaf x h = same_place list (get_or places a 0) (Leaf block) x leaf h

  leaf_branches : {k : ℕ} → MayWant p list (get_or places a 0) k → branches p block k ≡ true
  leaf_branches {k} (leaf_wants {b = y} h t) = let e : Leaf block ≡ Leaf y = at_leaf _ h in let q : y ≡ block = cc in let P : ℕ → Type 0 = λ z. branches p z k ≡ true in subst P q t
  leaf_branches (first_wants h m n) = cc (at_leaf _ h)
  leaf_branches (second_wants h m) = cc (at_leaf _ h)
  leaf_branches (body_wants h m n) = cc (at_leaf _ h)
  leaf_branches (source_wants h m n) = cc (at_leaf _ h)
  leaf_branches (arm_wants h i m) = cc (at_leaf _ h)
  leaf_branches (choice_wants h i m n) = cc (at_leaf _ h)

  pub arm_of : (k s : ℕ) → Contains arms (k, s) → (n : ℕ) × (j : ℕ) × (slice_get nodes n ≡ Some j) × (get_or blocks j 0 ≡ k) × (get_or places j 0 ≡ s)
  arm_of k s i = let (n, h) = get_has arms (k, s) i in let (j, m, q, o) = at_arm blocks places nodes n k s h in (n, j, m, q, o)

  pub branch_fits : Fitting p list region
  branch_fits = record {
    no_leaf = λ x q. cc;
    no_dispatch = λ x q. cc;
    second = λ first second target q. absurd (cc);
    body = λ body head q. absurd (cc);
    one_loop = λ body head inner h q k. cc;
    source = source;
    arm = arm;
  }
    where
      source : (first : ℕ) (l : List (ℕ × ℕ)) → region ≡ Arms first l → (x : ℕ) × (slice_get list first ≡ Some (Leaf x)) × ((k s : ℕ) → Contains l (k, s) → branches p x k ≡ true)
      source first l q =
          let f : get_or places a 0 ≡ first = cc in
          let m : l ≡ arms = cc in
          let P : ℕ → Type 0 = λ z. slice_get list z ≡ Some (Leaf block) in (
            block,
            subst P f leaf,
            λ k s i. (
                let Q : List (ℕ × ℕ) → Type 0 = λ z. Contains z (k, s) in
                let (n, j, h, e, _) = arm_of k s (subst Q m i) in
                let R : ℕ → Type 0 = λ z. branches p block z ≡ true in subst R e (leaf_branches (b.wanted a j (c.sole n j h).edge))),
          )

      arm : (first k s : ℕ) (l : List (ℕ × ℕ)) → region ≡ Arms first l → Contains l (k, s) → EnteredBy list s k
      arm first k s l q i =
          let m : l ≡ arms = cc in
          let Q : List (ℕ × ℕ) → Type 0 = λ z. Contains z (k, s) in
          let (n, j, h, e, o) = arm_of k s (subst Q m i) in
          let P : ℕ → Type 0 = λ z. EnteredBy list z k in
          let R : ℕ → Type 0 = λ z. EnteredBy list (get_or places j 0) z in subst P o (subst R e (b.enters j (child_live n j h)))

  at_end : (x : Region) → slice_get branched (length list) ≡ Some x → region ≡ x
  at_end x h = same_place branched (length list) region x (last list region) h

  branch_enters : EnteredBy branched (length list) (get_or blocks a 0)
  branch_enters = by_source (last list region) (enter_up list b.regions.later region (b.enters a a_live))

  down : (i : ℕ) {k : ℕ} → g.live i ≡ true → MayWant p branched (get_or places i 0) k → MayWant p list (get_or places i 0) k
  down i l m = want_down list b.regions.later region p (b.within i l) m

  up : {r k : ℕ} → MayWant p list r k → MayWant p branched r k
  up m = want_up list b.regions.later region p m

  branch_wants : (k : ℕ) → MayWant p branched (length list) k → (y : ℕ) × (now.edge a y ≡ true) × (get_or blocks y 0 ≡ k)
  branch_wants k (leaf_wants h t) = cc (at_end _ h)
  branch_wants k (first_wants h m n) = cc (at_end _ h)
  branch_wants k (second_wants h m) = cc (at_end _ h)
  branch_wants k (body_wants h m n) = cc (at_end _ h)
  branch_wants k (source_wants {first = first} {arms = l} h m n) =
      let e : region ≡ Arms first l = at_end _ h in
      let f : first ≡ get_or places a 0 = cc in
      let same : arms ≡ l = cc in
      let P : ℕ → Type 0 = λ y. MayWant p branched y k in
      let (y, d, q) = b.wants a k a_live (down a a_live (subst P f m)) in (
        y,
        (are.edge a y).1 (
          not_child g a nodes c,
          false_from_ne_true (has y nodes) (λ t. (
              let (i, g1) = has_place nodes y t in
              let Q : List (ℕ × ℕ) → Type 0 = λ z. Contains z (k, get_or places y 0) in
              let R : ℕ → Type 0 = λ z. Contains arms (z, get_or places y 0) in
              n (get_or places y 0) (subst Q same (subst R q (has_get arms i (get_or blocks y 0, get_or places y 0) (arm_at blocks places nodes i y g1)))))),
          inl d,
        ),
        q,
      )
  branch_wants k (arm_wants {first = first} {j = t} {a = s} {arms = l} h i m) =
      let e : region ≡ Arms first l = at_end _ h in
      let same : l ≡ arms = cc in
      let Q : List (ℕ × ℕ) → Type 0 = λ z. Contains z (t, s) in
      let (n, j, g1, _, o) = arm_of t s (subst Q same i) in
      let P : ℕ → Type 0 = λ y. MayWant p branched y k in
      let (y, d, q) = b.wants j k (child_live n j g1) (down j (child_live n j g1) (subst P (sym o) m)) in (
        y,
        (are.edge a y).1 (
          not_child g a nodes c,
          false_from_ne_true (has y nodes) (λ z. (c.sole n j g1).other (sym ((child_pred y z).sole j d))),
          inr (refl, (j, place_has nodes n j g1, d)),
        ),
        q,
      )
  branch_wants k (choice_wants h i m n) = cc (at_end _ h)

  branch_wanted : (y : ℕ) → now.edge a y ≡ true → MayWant p branched (length list) (get_or blocks y 0)
  branch_wanted y t = let (_, f, o) = (are.edge a y).0 t in go f o
    where
      go : has y nodes ≡ false → (g.edge a y ≡ true) ⊎ ((a ≡ a) × ((j : ℕ) × (has j nodes ≡ true) × (g.edge j y ≡ true))) → MayWant p branched (length list) (get_or blocks y 0)
      go f (inl d) = source_wants (last list region) (up (b.wanted a y d)) (λ s i. (
          let (n, j, h, e, _) = arm_of (get_or blocks y 0) s i in
          let q : j ≡ y = one_node p list blocks places g b j y (child_live n j h) (b.formed.to a y d) e in
          let P : ℕ → Type 0 = λ z. has z nodes ≡ true in both_ways _ f (subst P q (place_has nodes n j h))))
      go f (inr (_, (j, h, d))) =
          let (n, m) = has_place nodes j h in
          arm_wants (last list region) (has_get arms n (get_or blocks j 0, get_or places j 0) (arm_at blocks places nodes n j m)) (up (b.wanted j y d))

  branch_few : length list + 1 + 2 * count_below now.count now.live + self_edges now ≤ 4 * length blocks
  branch_few =
      let few = b.few in
      let (j, h) = first_child in
      let same = are.count in
      let lives = count_less g.count now.live g.live (λ x t. (rewritten.live x t).0) j (b.formed.within j (child_live 0 j h))
      (false_from_ne_true (now.live j) (λ t. both_ways _ (rewritten.live j t).1 (place_has nodes 0 j h))) (child_live 0 j h) in
      let selfs = count_one g.count (λ i. now.edge i i) (λ i. g.edge i i) a (λ x n t. rewritten.edge x x n t) in
      let x = ap (λ (n : ℕ). count_below n now.live) same in
      let y = ap (λ (n : ℕ). count_below n (λ i. now.edge i i)) same in
      omega arith

  pub branch_built : Built p branched blocks (set places a (length list)) now
  branch_built = built_on p list blocks places g b region a gone now rewritten branch_parts branch_fits branch_enters branch_wants branch_wanted branch_few

-- children and their parent have places
module _ (p : Program) (list : List Region) (blocks places : List ℕ) (g : Graph) (b : Built p list blocks places g) where
  pub node_inside : (i : ℕ) → g.live i ≡ true → (i < length blocks) × (i < length places)
  node_inside i l = let x = b.formed.within i l in let c = b.count in let n = b.places_count in (omega arith, omega arith)

  pub parent_inside : (a : ℕ) (nodes : List ℕ) → AreChildren g a nodes → (a < length blocks) × (a < length places)
  parent_inside a nodes c =
      let s = c.some in
      let h : slice_get nodes 0 ≡ Some (get_or nodes 0 0) = slice_get-get_or nodes 0 0 (omega arith) in
      node_inside a (b.formed.from a (get_or nodes 0 0) (c.sole 0 (get_or nodes 0 0) h).edge)

  pub child_inside : (a : ℕ) (nodes : List ℕ) → AreChildren g a nodes → (n : ℕ) → n < length nodes → (get_or nodes n 0 < length blocks) × (get_or nodes n 0 < length places)
  child_inside a nodes c n l =
      let h = slice_get-get_or nodes n 0 l in
      node_inside (get_or nodes n 0) (b.formed.to a (get_or nodes n 0) (c.sole n (get_or nodes n 0) h).edge)

  pub branch_left : (a : ℕ) (nodes : List ℕ) → AreChildren g a nodes → (block : ℕ) → slice_get list (get_or places a 0) ≡ Some (Leaf block)
      → (x : Region) → x ≡ Arms (get_or places a 0) (arms_of blocks places nodes)
      → (l : List Region) (bs ps : List ℕ) (h : Graph) → l ≡ list ++ x ∷ [] → bs ≡ blocks → ps ≡ set places a (length list) → AreAbsorbed g a nodes h → Built p l bs ps h
  branch_left a nodes c block leaf x is l bs ps h u y z are =
      replaced p list blocks places g b l _ bs _ ps _ h _ (u ∙ ap (λ (r : Region). list ++ r ∷ []) is) y z refl
      (branch_built p list blocks places g b a nodes c block leaf h are)
