-- The steps keep what the roots pass.
use Rattle.std.proofs.Common.{◌≡◌, ◌≢◌, ◌↔◌, inl, inr, ℕ, ◌<◌, Bool, true, false, eqb, ◌&&◌, ◌||◌, List, [], ◌∷◌, ◌++◌, length, get_or, set, Some, refl, sym, ap, subst, ◌∙◌, arith, eq-eqb, ne_eqb}
use Rattle.std.proofs.Math.Path.{fun_ext}
use Rattle.std.proofs.lemmas.Bool.{cases_Bool, cases_eq, both_ways, or_cases, or_left, or_right, and_parts, and_from, not-true, eqb-true, false_from_ne_true}
use Rattle.std.proofs.lemmas.Option.{same_Some}
use Rattle.std.proofs.lemmas.List.{get_or-set_same, get_or-set_other}
use Rattle.std.specs.List.{slice_get}
use Rattle.dxil_form.specs.declared.program.Program.{Program}
use Rattle.dxil_form.specs.declared.region.Region.{Region}
use Rattle.dxil_form.specs.declared.region.Region.TheVariants.{Then, Loop}
use Rattle.dxil_form.specs.Graphs.{Graph, SolePred, folded, absorbed}
use Rattle.dxil_form.specs.Branches.{branches}
use Rattle.dxil_form.specs.Walks.{Goes}
use Rattle.dxil_form.specs.Walks.Goes.{then_leaves, then_goes_on, loop_leaves}
use Rattle.graph_laws.proofs.Rewrites.{edge_absorbed}
use Rattle.region_laws.proofs.Places.{last, cases_last}
use Rattle.region_laws.specs.Paths.{Run, nowhere, PassesUpTo}
use Rattle.region_laws.proofs.Runs.{run_wider}
use Rattle.region_laws.proofs.Walking.{goes_up, goes_down}
use Rattle.region_laws.specs.Standing.{less, Stands}
use Rattle.region_laws.proofs.Standing.{minus, minus_parts, minus_from, exact, from_exact, drop, going_stands}
use Rattle.region_laws.proofs.Going.{goes_may, stands_up, then_leads, loop_exact}
use Rattle.region_builder.specs.Walked.{TellsEntries, Walked}
use Rattle.region_builder.specs.Built.{Built}
use Rattle.region_builder.proofs.Entries.{entry_test, entry_tells}
use Rattle.region_builder.proofs.Growing.{Rewritten}
use Rattle.region_builder.proofs.Steps.{one_node, join_rewritten, folded_same}

pub same_bools : (b d : Bool) → (b ≡ true → d ≡ true) → (d ≡ true → b ≡ true) → b ≡ d
same_bools true d h k = sym (h refl)
same_bools false true h k = k refl
same_bools false false h k = refl

pub same_tests : (e f : ℕ → Bool) → ((x : ℕ) → e x ≡ true → f x ≡ true) → ((x : ℕ) → f x ≡ true → e x ≡ true) → e ≡ f
same_tests e f h k = fun_ext (λ x. same_bools (e x) (f x) (h x) (k x))

module _ (p : Program) (list : List Region) (blocks places : List ℕ) (g : Graph) (b : Built p list blocks places g) (w : Walked p list blocks places g) where
  -- a root wants only along edges
  pub along : (i k : ℕ) → g.live i ≡ true → (v : List ℕ) → Goes p list (get_or places i 0) v (Some k) → (j : ℕ) × (g.edge i j ≡ true) × (get_or blocks j 0 ≡ k)
  along i k l v h = b.wants i k l (goes_may b.regions.no_dispatch k h)

  pub no_walk : (i j : ℕ) → g.live i ≡ true → g.live j ≡ true → (g.edge i j ≡ true → ⊥) → (v : List ℕ) → Goes p list (get_or places i 0) v (Some (get_or blocks j 0)) → ⊥
  no_walk i j l m none v h =
      let (k, e, q) = along i (get_or blocks j 0) l v h in
      let same : k ≡ j = one_node p list blocks places g b k j (b.formed.to i k e) m q in
      let P : ℕ → Type 0 = λ y. g.edge i y ≡ true in none (subst P same e)

  module _ (a : ℕ) (gone : ℕ → Bool) (now : Graph) (r : Rewritten g now a gone) (t : ℕ → Bool)
      (tells : (c : ℕ) → (t c ≡ true) ↔ ((i : ℕ) × (gone i ≡ true) × (get_or blocks i 0 ≡ c)))
      (left : ℕ → Bool) (entries : TellsEntries blocks now left) where
    -- all entries, those that are gone among them
    abbrev all : ℕ → Bool
    all c = left c || t c

    pub all_tell : TellsEntries blocks g all
    all_tell c = (there, back)
      where
        there : all c ≡ true → (i : ℕ) × (g.live i ≡ true) × (get_or blocks i 0 ≡ c)
        there h = elim (or_cases (left c) (t c) h) [
          | inl x ↦ (let (i, l, q) = (entries c).0 x in (i, (r.live i l).0, q))
          | inr x ↦ (let (i, d, q) = (tells c).0 x in (i, r.was i d, q))
        ]

        back : (i : ℕ) × (g.live i ≡ true) × (get_or blocks i 0 ≡ c) → all c ≡ true
        back (i, l, q) = elim (cases_Bool (gone i)) [
          | inl d ↦ or_right (left c) (t c) ((tells c).1 (i, d, q))
          | inr n ↦ or_left (left c) (t c) ((entries c).1 (i, r.lives i l n, q))
        ]

    pub left_is : minus all t ≡ left
    left_is = same_tests (minus all t) left there back
      where
        there : (x : ℕ) → minus all t x ≡ true → left x ≡ true
        there x h = let (y, n) = minus_parts all t x h in elim (or_cases (left x) (t x) y) [ inl l ↦ l | inr z ↦ absurd (both_ways (t x) n z) ]

        back : (x : ℕ) → left x ≡ true → minus all t x ≡ true
        back x h = minus_from all t x (or_left (left x) (t x) h) (false_from_ne_true (t x) (λ z. (
            let (i, l, q) = (entries x).0 h in
            let (j, d, e) = (tells x).0 z in
            let same : j ≡ i = one_node p list blocks places g b j i (r.was j d) (r.live i l).0 (e ∙ sym q) in
            let P : ℕ → Type 0 = λ y. gone y ≡ true in both_ways (gone i) (r.live i l).1 (subst P same d))))

    -- a root that is not a stays as it is
    pub other_stands : (x : Region) → ((i j : ℕ) → i ≢ a → gone j ≡ true → g.edge i j ≡ true → ⊥) → (i : ℕ) → now.live i ≡ true → i ≢ a
        → Stands p (list ++ x ∷ []) (get_or places i 0) (get_or blocks i 0) left
    other_stands x apart i l n =
        let P : (ℕ → Bool) → Type 0 = λ e. Stands p (list ++ x ∷ []) (get_or places i 0) (get_or blocks i 0) e in
        let live = (r.live i l).0 in
        subst P left_is (stands_up p list b.regions.later b.regions.no_dispatch x (get_or places i 0) (get_or blocks i 0) (minus all t) (b.within i live)
        (drop p list (get_or places i 0) (get_or blocks i 0) all t (w.stands all all_tell i live) (λ k h v m. (
        let (j, d, q) = (tells k).0 h in
        let Q : ℕ → Type 0 = λ y. Goes p list (get_or places i 0) v (Some y) in
        no_walk i j live (r.was j d) (apart i j n d) v (subst Q (sym q) m)))))

-- ---- the three steps

module _ (p : Program) (list : List Region) (blocks places : List ℕ) (g : Graph) (b : Built p list blocks places g) (w : Walked p list blocks places g) where
  pub inside : (i : ℕ) → g.live i ≡ true → i < length places
  inside i l = let x = b.formed.within i l in let c = b.count in let n = b.places_count in omega arith

  -- the root of a is the new region, and all other roots are as they were
  pub placed : (x : Region) (a i : ℕ) (stops : ℕ → Bool) → g.live a ≡ true
      → (i ≡ a → Stands p (list ++ x ∷ []) (length list) (get_or blocks a 0) stops)
      → ((i ≡ a → ⊥) → Stands p (list ++ x ∷ []) (get_or places i 0) (get_or blocks i 0) stops)
      → Stands p (list ++ x ∷ []) (get_or (set places a (length list)) i 0) (get_or blocks i 0) stops
  placed x a i stops l here other = elim (cases_eq i a) [
    | inl q ↦ (
        let P : ℕ → Type 0 = λ y. Stands p (list ++ x ∷ []) (get_or (set places a (length list)) y 0) (get_or blocks y 0) stops in
        let Q : ℕ → Type 0 = λ y. Stands p (list ++ x ∷ []) y (get_or blocks a 0) stops in
        subst P (sym q) (subst Q (sym (get_or-set_same places a (length list) 0 (inside a l))) (here q)))
    | inr n ↦ (
        let Q : ℕ → Type 0 = λ y. Stands p (list ++ x ∷ []) y (get_or blocks i 0) stops in
        subst Q (sym (get_or-set_other places a i (length list) 0 n)) (other n))
  ]

  abbrev pub Wants : Region → ℕ → ℕ → ℕ → Type 0
  Wants x a i y = (v : List ℕ) × Goes p (list ++ x ∷ []) (get_or (set places a (length list)) i 0) v (Some (get_or blocks y 0))

  pub wanting : (x : Region) (a i y : ℕ) → g.live a ≡ true
      → (i ≡ a → (v : List ℕ) × Goes p (list ++ x ∷ []) (length list) v (Some (get_or blocks y 0)))
      → ((i ≡ a → ⊥) → (v : List ℕ) × Goes p (list ++ x ∷ []) (get_or places i 0) v (Some (get_or blocks y 0)))
      → Wants x a i y
  wanting x a i y l here other = elim (cases_eq i a) [
    | inl q ↦ (
        let P : ℕ → Type 0 = λ z. Wants x a z y in
        let Q : ℕ → Type 0 = λ z. (v : List ℕ) × Goes p (list ++ x ∷ []) z v (Some (get_or blocks y 0)) in
        subst P (sym q) (subst Q (sym (get_or-set_same places a (length list) 0 (inside a l))) (here q)))
    | inr n ↦ (
        let Q : ℕ → Type 0 = λ z. (v : List ℕ) × Goes p (list ++ x ∷ []) z v (Some (get_or blocks y 0)) in
        subst Q (sym (get_or-set_other places a i (length list) 0 n)) (other n))
  ]

  pub up_goes : (x : Region) (r k : ℕ) → (v : List ℕ) × Goes p list r v (Some k) → (v : List ℕ) × Goes p (list ++ x ∷ []) r v (Some k)
  up_goes x r k (v, h) = (v, goes_up p list b.regions.later b.regions.no_dispatch x h)

  pub up_stands : (x : Region) (i : ℕ) (stops : ℕ → Bool) → g.live i ≡ true → Stands p list (get_or places i 0) (get_or blocks i 0) stops
      → Stands p (list ++ x ∷ []) (get_or places i 0) (get_or blocks i 0) stops
  up_stands x i stops l s = stands_up p list b.regions.later b.regions.no_dispatch x (get_or places i 0) (get_or blocks i 0) stops (b.within i l) s

  -- a walk that is wanted by a region of the longer list was so before
  pub down_no_walk : (x : Region) (i j : ℕ) → g.live i ≡ true → g.live j ≡ true → (g.edge i j ≡ true → ⊥) → (v : List ℕ)
      → Goes p (list ++ x ∷ []) (get_or places i 0) v (Some (get_or blocks j 0)) → ⊥
  down_no_walk x i j l m none v h =
      no_walk p list blocks places g b w i j l m none v (goes_down p list b.regions.later b.regions.no_dispatch x (b.within i l) h)

  module _ (a j : ℕ) (nonzero : j ≢ 0) (pred : SolePred g a j) where
    abbrev x : Region
    x = Then (get_or places a 0) (get_or places j 0) (get_or blocks j 0)

    abbrev whole : List Region
    whole = list ++ x ∷ []

    here : slice_get whole (length list) ≡ Some x
    here = last list x

    abbrev gone : ℕ → Bool
    gone i = eqb i j

    abbrev now : Graph
    now = absorbed g a j

    a_live : g.live a ≡ true
    a_live = b.formed.from a j pred.edge

    j_live : g.live j ≡ true
    j_live = b.formed.to a j pred.edge

    rewritten : Rewritten g now a gone
    rewritten = join_rewritten p list blocks places g b a j nonzero pred

    abbrev t : ℕ → Bool
    t c = eqb c (get_or blocks j 0)

    tells : (c : ℕ) → (t c ≡ true) ↔ ((i : ℕ) × (gone i ≡ true) × (get_or blocks i 0 ≡ c))
    tells c = (
      λ h. (j, eq-eqb j j refl, sym (eqb-true c (get_or blocks j 0) h)),
      λ k. (let (i, d, q) = k in eq-eqb c (get_or blocks j 0) (sym q ∙ ap (λ (y : ℕ). get_or blocks y 0) (eqb-true i j d))),
    )

    no_self : (v : List ℕ) → Goes p whole (get_or places j 0) v (Some (get_or blocks j 0)) → ⊥
    no_self v h = down_no_walk x j j j_live j_live (λ e. pred.other (sym (pred.sole j e))) v h

    module _ (left : ℕ → Bool) (entries : TellsEntries blocks now left) where
      abbrev every : ℕ → Bool
      every c = left c || t c

      every_tells : TellsEntries blocks g every
      every_tells = all_tell p list blocks places g b w a gone now rewritten t tells left entries

      second : (k c : ℕ) → (k ≡ get_or blocks j 0) × (c ≡ get_or places j 0) → PassesUpTo p whole c k (less every k)
      second k c (q, e) =
          let P : ℕ → Type 0 = λ y. PassesUpTo p whole c y (less every y) in
          let Q : ℕ → Type 0 = λ y. PassesUpTo p whole y (get_or blocks j 0) (less every (get_or blocks j 0)) in
          subst P (sym q) (subst Q (sym e) (exact p whole (get_or places j 0) (get_or blocks j 0) every (up_stands x j every j_live (w.stands every every_tells j j_live)) no_self))

      own_stands : Stands p whole (length list) (get_or blocks a 0) left
      own_stands =
          let P : (ℕ → Bool) → Type 0 = λ e. Stands p whole (length list) (get_or blocks a 0) e in
          subst P (left_is p list blocks places g b w a gone now rewritten t tells left entries)
          (going_stands p whole (length list) (get_or places a 0) (get_or blocks a 0)
          (λ k c. (k ≡ get_or blocks j 0) × (c ≡ get_or places j 0)) t
          (λ k h. (get_or places j 0, (eqb-true k (get_or blocks j 0) h, refl)))
          (λ k c l. eq-eqb k (get_or blocks j 0) l.0)
          (then_leads p whole (length list) (get_or places a 0) (get_or places j 0) (get_or blocks j 0) here)
          every
          (ne_eqb (get_or blocks a 0) (get_or blocks j 0) (λ q. pred.other (one_node p list blocks places g b a j a_live j_live q)))
          (up_stands x a every a_live (w.stands every every_tells a a_live))
          second
          (λ k c l. (every_tells k).1 (j, j_live, sym l.0))
          (λ k c i d l m v h. (
          let P : ℕ → Type 0 = λ y. Goes p whole y v (Some i) in
          let Q : ℕ → Type 0 = λ y. Goes p whole (get_or places j 0) v (Some y) in
          no_self v (subst Q m.0 (subst P l.1 h)))))

    join_stands : (left : ℕ → Bool) → TellsEntries blocks now left → (i : ℕ) → now.live i ≡ true
        → Stands p whole (get_or (set places a (length list)) i 0) (get_or blocks i 0) left
    join_stands left entries i l = placed x a i left a_live (λ q. own_stands left entries)
        (λ n. other_stands p list blocks places g b w a gone now rewritten t tells left entries x
        (λ i k o d e. (let P : ℕ → Type 0 = λ y. g.edge i y ≡ true in o (pred.sole i (subst P (eqb-true k j d) e)))) i l n)

    differs : (y : ℕ) → g.live y ≡ true → y ≢ j → Some (get_or blocks y 0) ≢ Some (get_or blocks j 0)
    differs y l n q = n (one_node p list blocks places g b y j l j_live (same_Some (get_or blocks y 0) (get_or blocks j 0) q))

    join_goes : (i y : ℕ) → now.edge i y ≡ true → Wants x a i y
    join_goes i y e =
        let (_, n, o) = edge_absorbed g a j nonzero pred i y e in
        wanting x a i y a_live
        (λ q. elim o [
          | inl d ↦ (
              let P : ℕ → Type 0 = λ z. g.edge z y ≡ true in
              let (v, h) = up_goes x (get_or places a 0) (get_or blocks y 0) (w.goes a y (subst P q d)) in
              (v, then_leaves here h (differs y (b.formed.to i y d) n)))
          | inr (_, d) ↦ (
              let (u, k) = up_goes x (get_or places a 0) (get_or blocks j 0) (w.goes a j pred.edge) in
              let (v, h) = up_goes x (get_or places j 0) (get_or blocks y 0) (w.goes j y d) in
              (u ++ v, then_goes_on here k h))
        ])
        (λ m. up_goes x (get_or places i 0) (get_or blocks y 0) (w.goes i y (elim o [ inl d ↦ d | inr (q, _) ↦ absurd (m q) ])))

    pub join_walked : Walked p whole blocks (set places a (length list)) now
    join_walked = record {
      stands = join_stands;
      goes = join_goes;
      rings = λ r body head h. elim (cases_last list x r (Loop body head) h) [ inl o ↦ w.rings r body head o | inr (_, o) ↦ absurd (cc) ];
    }

  module _ (a : ℕ) (self : g.edge a a ≡ true) where
    abbrev loop : Region
    loop = Loop (get_or places a 0) (get_or blocks a 0)

    abbrev looped : List Region
    looped = list ++ loop ∷ []

    at : slice_get looped (length list) ≡ Some loop
    at = last list loop

    self_live : g.live a ≡ true
    self_live = b.formed.from a a self

    loop_stands : (left : ℕ → Bool) → TellsEntries blocks (folded g a) left → (i : ℕ) → (folded g a).live i ≡ true
        → Stands p looped (get_or (set places a (length list)) i 0) (get_or blocks i 0) left
    loop_stands left entries i l = placed loop a i left self_live
        (λ q. from_exact p looped (length list) (get_or blocks a 0) left
        (loop_exact p looped (length list) (get_or places a 0) (get_or blocks a 0) at left (up_stands loop a left self_live (w.stands left entries a self_live))))
        (λ n. up_stands loop i left l (w.stands left entries i l))

    loop_goes : (i y : ℕ) → (folded g a).edge i y ≡ true → Wants loop a i y
    loop_goes i y e =
        let (d, n) = and_parts (g.edge i y) _ e in
        wanting loop a i y self_live
        (λ q. (
        let P : ℕ → Type 0 = λ z. g.edge z y ≡ true in
        let (v, h) = up_goes loop (get_or places a 0) (get_or blocks y 0) (w.goes a y (subst P q d)) in (
          v,
          loop_leaves at h (λ s. both_ways (eqb i a && eqb y a) (not-true (eqb i a && eqb y a) n)
              (and_from (eqb i a) (eqb y a) (eq-eqb i a q) (eq-eqb y a
              (one_node p list blocks places g b y a (b.formed.to i y d) self_live (same_Some (get_or blocks y 0) (get_or blocks a 0) s))))),
        )))
        (λ m. up_goes loop (get_or places i 0) (get_or blocks y 0) (w.goes i y d))

    -- the walk that wants its own block is a ring
    abbrev IsOnRing : ℕ → Type 0
    IsOnRing k = (v : List ℕ) × (y : ℕ) × Run p nowhere k v y × (branches p y k ≡ true)

    abbrev tested : ℕ → Bool
    tested = entry_test blocks g

    own_ring : IsOnRing (get_or blocks a 0)
    own_ring =
        let (v, h) = w.goes a a self in
        let tells = entry_tells blocks g (λ i l. (let m = b.formed.within i l in let c = b.count in omega arith)) in
        let (y, run, fits) = (w.stands tested tells a self_live).goes v (Some (get_or blocks a 0)) h in
        (v, y, run_wider p (less tested (get_or blocks a 0)) nowhere (λ z _. refl) run, fits.0)

    pub loop_walked : Walked p looped blocks (set places a (length list)) (folded g a)
    loop_walked = record {
      stands = loop_stands;
      goes = loop_goes;
      rings = λ r body head h. elim (cases_last list loop r (Loop body head) h) [
        | inl o ↦ w.rings r body head o
        | inr (_, o) ↦ (
            let q : get_or blocks a 0 ≡ head = cc in
            let P : ℕ → Type 0 = λ z. IsOnRing z in subst P q own_ring)
      ];
    }

-- ---- the same for what a call leaves

pub carried : (P : List Region → List ℕ → List ℕ → Graph → Type 0) (l m : List Region) (bs cs ps qs : List ℕ) (h k : Graph)
    → l ≡ m → bs ≡ cs → ps ≡ qs → h ≡ k → P m cs qs k → P l bs ps h
carried P l m bs cs ps qs h k x y z w e =
    let A : List Region → Type 0 = λ v. P v bs ps h in
    let B : List ℕ → Type 0 = λ v. P m v ps h in
    let C : List ℕ → Type 0 = λ v. P m cs v h in
    let D : Graph → Type 0 = λ v. P m cs qs v in subst A (sym x) (subst B (sym y) (subst C (sym z) (subst D (sym w) e)))

module _ (p : Program) (list : List Region) (blocks places : List ℕ) (g : Graph) (b : Built p list blocks places g) (w : Walked p list blocks places g) where
  pub join_walks : (a j : ℕ) → j ≢ 0 → SolePred g a j → (region : Region) → region ≡ Then (get_or places a 0) (get_or places j 0) (get_or blocks j 0)
      → (l : List Region) (bs ps : List ℕ) (h : Graph) → l ≡ list ++ region ∷ [] → bs ≡ blocks → ps ≡ set places a (length list) → h ≡ absorbed g a j → Walked p l bs ps h
  join_walks a j n pred region is l bs ps h x y z v =
      carried (Walked p) l (list ++ Then (get_or places a 0) (get_or places j 0) (get_or blocks j 0) ∷ []) bs blocks ps (set places a (length list)) h (absorbed g a j)
      (x ∙ ap (λ (r : Region). list ++ r ∷ []) is) y z v (join_walked p list blocks places g b w a j n pred)

  pub loop_walks : (a : ℕ) → g.edge a a ≡ true → (region : Region) → region ≡ Loop (get_or places a 0) (get_or blocks a 0)
      → (l : List Region) (bs ps : List ℕ) (h : Graph) → l ≡ list ++ region ∷ [] → bs ≡ blocks → ps ≡ set places a (length list) → h ≡ folded g a → Walked p l bs ps h
  loop_walks a self region is l bs ps h x y z v =
      carried (Walked p) l (list ++ Loop (get_or places a 0) (get_or blocks a 0) ∷ []) bs blocks ps (set places a (length list)) h (folded g a)
      (x ∙ ap (λ (r : Region). list ++ r ∷ []) is) y z v (loop_walked p list blocks places g b w a self)

  pub fold_walks : (a : ℕ) → (g.edge a a ≡ true → ⊥) → (h : Graph) → h ≡ folded g a → Walked p list blocks places h
  fold_walks a none h v = let S : Graph → Type 0 = λ u. Walked p list blocks places u in subst S (sym (v ∙ folded_same g a none)) w
