-- One region more, which is the root of a node and has as parts its old root and those of nodes that go.
use Rattle.std.proofs.Common.{◌≡◌, ◌≢◌, ◌⊎◌, inl, inr, ℕ, ◌+◌, ◌*◌, ◌<◌, ◌≤◌, Bool, true, false, List, [], ◌∷◌, ◌++◌, length, get_or, set, Some, refl, sym, ap, subst, ◌∙◌, arith, length-append}
use Rattle.std.proofs.lemmas.Bool.{cases_eq, cases_lt, cases_Bool, both_ways}
use Rattle.std.proofs.lemmas.List.{get_or-set_same, get_or-set_other, length-set}
use Rattle.std.proofs.lemmas.Option.{slice_get_within}
use Rattle.std.specs.List.{slice_get, Contains}
use Rattle.dxil_form.specs.declared.program.Program.{Program}
use Rattle.dxil_form.specs.declared.region.Region.{Region}
use Rattle.dxil_form.specs.declared.region.Region.TheVariants.{Leaf, Then, Loop, Dispatch, Arms}
use Rattle.dxil_form.specs.Graphs.{Graph, IsFormed, AllReached, count_below}
use Rattle.dxil_form.specs.Branches.{branches}
use Rattle.dxil_form.specs.Walks.{EnteredBy}
use Rattle.dxil_form.specs.Wired.{IsPart, MayWant, parts}
use Rattle.region_laws.proofs.Places.{front, last, cases_last, inside}
use Rattle.region_laws.proofs.Growing.{enter_up, want_up, want_down}
use Rattle.region_builder.specs.Built.{Parts, Built, self_edges}

-- the new region fits the others
pub record Fitting (p : Program) (list : List Region) (x : Region) : Type 0 where
  pub no_leaf : (b : ℕ) → x ≡ Leaf b → ⊥
  pub no_dispatch : (arms : List ℕ) → x ≡ Dispatch arms → ⊥
  pub second : (first second target : ℕ) → x ≡ Then first second target → EnteredBy list second target
  pub body : (body head : ℕ) → x ≡ Loop body head → EnteredBy list body head
  pub one_loop : (body head inner h : ℕ) → x ≡ Loop body head → slice_get list body ≡ Some (Loop inner h) → ⊥
  pub source : (first : ℕ) (arms : List (ℕ × ℕ)) → x ≡ Arms first arms → (b : ℕ) × (slice_get list first ≡ Some (Leaf b)) × ((k a : ℕ) → Contains arms (k, a) → branches p b k ≡ true)
  pub arm : (first k a : ℕ) (arms : List (ℕ × ℕ)) → x ≡ Arms first arms → Contains arms (k, a) → EnteredBy list a k

module _ (p : Program) (list : List Region) (is : Parts p list) (x : Region) (fits : Fitting p list x) where
  abbrev grown : List Region
  grown = list ++ x ∷ []

  grown_length : length grown ≡ length list + 1
  grown_length = length-append list (x ∷ [])

  up : {r b : ℕ} → EnteredBy list r b → EnteredBy grown r b
  up e = enter_up list is.later x e

  abbrev PartCases : (r i s : ℕ) → Type 0
  PartCases r i s = IsPart list r i s ⊎ ((r ≡ length list) × (slice_get (parts x) i ≡ Some s))

  pub cases_part : (r i s : ℕ) → IsPart grown r i s → PartCases r i s
  cases_part r i s k = elim (cases_last list x r k.region k.stands) [
    | inl h ↦ inl (record { region = k.region; stands = h; part = k.part })
    | inr (q, o) ↦ (let P : Region → Type 0 = λ y. slice_get (parts y) i ≡ Some s in inr (q, subst P (sym o) k.part))
  ]

  pub part_old : (r i s : ℕ) → IsPart list r i s → IsPart grown r i s
  part_old r i s k = record { region = k.region; stands = front list (x ∷ []) r k.region k.stands; part = k.part }

  pub part_new : (i s : ℕ) → slice_get (parts x) i ≡ Some s → IsPart grown (length list) i s
  part_new i s h = record { region = x; stands = last list x; part = h }

  leaf_in : (r b : ℕ) → slice_get grown r ≡ Some (Leaf b) → slice_get list r ≡ Some (Leaf b)
  leaf_in r b h = elim (cases_last list x r (Leaf b) h) [ inl k ↦ k | inr (q, o) ↦ absurd (fits.no_leaf b o) ]

  part_before : (r i s : ℕ) → IsPart grown r i s → ((n s : ℕ) → slice_get (parts x) n ≡ Some s → s < length list) → s < r
  part_before r i s k new = elim (cases_part r i s k) [ inl o ↦ is.later r i s o | inr (q, h) ↦ (let l = new i s h in omega arith) ]

  module _ (new_later : (n s : ℕ) → slice_get (parts x) n ≡ Some s → s < length list)
      (new_free : (n s q i : ℕ) → slice_get (parts x) n ≡ Some s → IsPart list q i s → ⊥)
      (new_once : (m n s : ℕ) → slice_get (parts x) m ≡ Some s → slice_get (parts x) n ≡ Some s → m ≡ n) where
    once : (q r i j s : ℕ) → IsPart grown q i s → IsPart grown r j s → (q ≡ r) × (i ≡ j)
    once q r i j s k m = go (cases_part q i s k) (cases_part r j s m)
      where
        go : PartCases q i s → PartCases r j s → (q ≡ r) × (i ≡ j)
        go (inl a) (inl b) = is.once q r i j s a b
        go (inl a) (inr (o, h)) = absurd (new_free j s q i h a)
        go (inr (o, h)) (inl a) = absurd (new_free i s r j h a)
        go (inr (o, h)) (inr (n, f)) = (o ∙ sym n, new_once i j s h f)

    one_loop : (r body head inner h : ℕ) → slice_get grown r ≡ Some (Loop body head) → slice_get grown body ≡ Some (Loop inner h) → ⊥
    one_loop r body head inner h k m =
        let l : body < r = part_before r 0 body (record { region = Loop body head; stands = k; part = refl }) new_later in
        let n = slice_get_within grown r (Loop body head) k in
        let e = grown_length in
        let o = inside list x body (Loop inner h) (omega arith) m in
        elim (cases_last list x r (Loop body head) k) [
          | inl f ↦ is.one_loop r body head inner h f o
          | inr (q, f) ↦ fits.one_loop body head inner h f o
        ]

    pub grown_parts : Parts p grown
    grown_parts = record {
      later = λ r i s k. part_before r i s k new_later;
      once = once;
      leaf = λ b k. (let (r, h) = is.leaf b k in (r, front list (x ∷ []) r (Leaf b) h));
      reached = λ r b h. is.reached r b (leaf_in r b h);
      leaf_once = λ r s b h k. is.leaf_once r s b (leaf_in r b h) (leaf_in s b k);
      second = λ r first second target h. elim (cases_last list x r (Then first second target) h) [
        | inl k ↦ up (is.second r first second target k)
        | inr (q, o) ↦ up (fits.second first second target o)
      ];
      body = λ r body head h. elim (cases_last list x r (Loop body head) h) [
        | inl k ↦ up (is.body r body head k)
        | inr (q, o) ↦ up (fits.body body head o)
      ];
      one_loop = one_loop;
      source = λ r first arms h. elim (cases_last list x r (Arms first arms) h) [
        | inl k ↦ (let (b, m, t) = is.source r first arms k in (b, front list (x ∷ []) first (Leaf b) m, t))
        | inr (q, o) ↦ (let (b, m, t) = fits.source first arms o in (b, front list (x ∷ []) first (Leaf b) m, t))
      ];
      arm = λ r first k a arms h c. elim (cases_last list x r (Arms first arms) h) [
        | inl m ↦ up (is.arm r first k a arms m c)
        | inr (q, o) ↦ up (fits.arm first k a arms o c)
      ];
      no_dispatch = λ r arms h. elim (cases_last list x r (Dispatch arms) h) [
        | inl m ↦ is.no_dispatch r arms m
        | inr (q, o) ↦ fits.no_dispatch arms o
      ];
    }

-- the graph after a rewrite at node a, by which some nodes are gone
pub record Rewritten (g now : Graph) (a : ℕ) (gone : ℕ → Bool) : Type 0 where
  pub count : now.count ≡ g.count
  pub formed : IsFormed now
  pub all_reached : AllReached now
  pub stays : g.live a ≡ true
  pub not_gone : gone a ≡ false
  pub was : (i : ℕ) → gone i ≡ true → g.live i ≡ true
  pub live : (i : ℕ) → now.live i ≡ true → (g.live i ≡ true) × (gone i ≡ false)
  pub lives : (i : ℕ) → g.live i ≡ true → gone i ≡ false → now.live i ≡ true
  pub edge : (i j : ℕ) → i ≢ a → now.edge i j ≡ true → g.edge i j ≡ true
  pub edges : (i j : ℕ) → i ≢ a → gone i ≡ false → g.edge i j ≡ true → now.edge i j ≡ true

-- the parts of the new region are the old root of a and the roots of the nodes that are gone
pub record Joining (places : List ℕ) (x : Region) (a : ℕ) (gone : ℕ → Bool) : Type 0 where
  pub own : (n : ℕ) × (slice_get (parts x) n ≡ Some (get_or places a 0))
  pub all : (i : ℕ) → gone i ≡ true → (n : ℕ) × (slice_get (parts x) n ≡ Some (get_or places i 0))
  pub only : (n s : ℕ) → slice_get (parts x) n ≡ Some s → (i : ℕ) × ((i ≡ a) ⊎ (gone i ≡ true)) × (get_or places i 0 ≡ s)
  pub once : (m n s : ℕ) → slice_get (parts x) m ≡ Some s → slice_get (parts x) n ≡ Some s → m ≡ n

module _ (p : Program) (list : List Region) (blocks places : List ℕ) (g : Graph) (b : Built p list blocks places g)
    (x : Region) (a : ℕ) (gone : ℕ → Bool) (now : Graph) (w : Rewritten g now a gone) (j : Joining places x a gone) (fits : Fitting p list x) where
  abbrev whole : List Region
  whole = list ++ x ∷ []

  abbrev after : List ℕ
  after = set places a (length list)

  a_inside : a < length places
  a_inside = let l = b.formed.within a w.stays in let m = b.count in let n = b.places_count in omega arith

  at_a : get_or after a 0 ≡ length list
  at_a = get_or-set_same places a (length list) 0 a_inside

  at_other : (i : ℕ) → (i ≡ a → ⊥) → get_or after i 0 ≡ get_or places i 0
  at_other i n = get_or-set_other places a i (length list) 0 n

  part_live : (n s : ℕ) → slice_get (parts x) n ≡ Some s → (i : ℕ) × (g.live i ≡ true) × (get_or places i 0 ≡ s) × ((i ≡ a) ⊎ (gone i ≡ true))
  part_live n s h = let (i, o, q) = j.only n s h in (i, live i o, q, o)
    where
      live : (i : ℕ) → (i ≡ a) ⊎ (gone i ≡ true) → g.live i ≡ true
      live i (inl q) = let P : ℕ → Type 0 = λ y. g.live y ≡ true in subst P (sym q) w.stays
      live i (inr t) = w.was i t

  new_later : (n s : ℕ) → slice_get (parts x) n ≡ Some s → s < length list
  new_later n s h = let (i, l, q, _) = part_live n s h in let m = b.within i l in omega arith

  new_free : (n s q i : ℕ) → slice_get (parts x) n ≡ Some s → IsPart list q i s → ⊥
  new_free n s q i h k =
      let (y, l, e, _) = part_live n s h in
      let P : ℕ → Type 0 = λ z. IsPart list q i z in b.free y q i l (subst P (sym e) k)

  regions : Parts p whole
  regions = grown_parts p list b.regions x fits new_later new_free j.once

  whole_length : length whole ≡ length list + 1
  whole_length = length-append list (x ∷ [])

  -- a node that is live and not a keeps its root
  module _ (i : ℕ) (l : now.live i ≡ true) (n : i ≡ a → ⊥) where
    was_live : g.live i ≡ true
    was_live = (w.live i l).0

    not_gone : gone i ≡ false
    not_gone = (w.live i l).1

    still_free : (q m : ℕ) → IsPart whole q m (get_or places i 0) → ⊥
    still_free q m k = elim (cases_part p list b.regions x fits q m (get_or places i 0) k) [
      | inl o ↦ b.free i q m was_live o
      | inr (_, h) ↦ (
          let (y, live, e, o) = part_live m (get_or places i 0) h in
          let same : y ≡ i = b.apart y i live was_live e in
          elim o [
            | inl z ↦ n (sym same ∙ z)
            | inr t ↦ (let P : ℕ → Type 0 = λ z. gone z ≡ true in both_ways _ not_gone (subst P same t))
          ])
    ]

  abbrev Place : (i : ℕ) → Type 0
  Place i = ((i ≡ a) × (get_or after i 0 ≡ length list)) ⊎ ((i ≡ a → ⊥) × (get_or after i 0 ≡ get_or places i 0))

  place_of : (i : ℕ) → Place i
  place_of i = elim (cases_eq i a) [
    | inl q ↦ (let P : ℕ → Type 0 = λ y. get_or after y 0 ≡ length list in inl (q, subst P (sym q) at_a))
    | inr n ↦ inr (n, at_other i n)
  ]

  within : (i : ℕ) → now.live i ≡ true → get_or after i 0 < length whole
  within i l = let e = whole_length in elim (place_of i) [
    | inl (q, o) ↦ omega arith
    | inr (n, o) ↦ (let m = b.within i (was_live i l n) in omega arith)
  ]

  apart : (i k : ℕ) → now.live i ≡ true → now.live k ≡ true → get_or after i 0 ≡ get_or after k 0 → i ≡ k
  apart i k l m e = go (place_of i) (place_of k)
    where
      go : Place i → Place k → i ≡ k
      go (inl (q, o)) (inl (r, u)) = q ∙ sym r
      go (inl (q, o)) (inr (n, u)) = let v = b.within k (was_live k m n) in absurd (omega arith)
      go (inr (n, o)) (inl (r, u)) = let v = b.within i (was_live i l n) in absurd (omega arith)
      go (inr (n, o)) (inr (c, u)) = b.apart i k (was_live i l n) (was_live k m c) (sym o ∙ e ∙ u)

  free : (i q m : ℕ) → now.live i ≡ true → IsPart whole q m (get_or after i 0) → ⊥
  free i q m l k = elim (place_of i) [
    | inl (_, o) ↦ (
        let later = regions.later q m (get_or after i 0) k in
        let n = slice_get_within whole q k.region k.stands in
        let e = whole_length in omega arith)
    | inr (n, o) ↦ (let P : ℕ → Type 0 = λ z. IsPart whole q m z in still_free i l n q m (subst P o k))
  ]

  abbrev Named : ℕ → Type 0
  Named s = ((i : ℕ) × (now.live i ≡ true) × (get_or after i 0 ≡ s)) ⊎ ((r : ℕ) × (n : ℕ) × IsPart whole r n s)

  named : (s : ℕ) → s < length whole → Named s
  named s l = elim (cases_lt s (length list)) [
    | inr high ↦ (let e = whole_length in inl (a, w.lives a w.stays w.not_gone, at_a ∙ omega arith))
    | inl low ↦ elim (b.named s low) [
      | inl (i, live, e) ↦ root i live e (cases_eq i a) (cases_Bool (gone i))
      | inr (r, n, k) ↦ inr (r, n, part_old p list b.regions x fits r n s k)
    ]
  ]
    where
      as_part : (i : ℕ) → get_or places i 0 ≡ s → (n : ℕ) × (slice_get (parts x) n ≡ Some (get_or places i 0)) → Named s
      as_part i e (n, h) = inr (length list, n, part_new p list b.regions x fits n s (h ∙ ap Some e))

      root : (i : ℕ) → g.live i ≡ true → get_or places i 0 ≡ s → (i ≡ a) ⊎ (i ≡ a → ⊥) → (gone i ≡ true) ⊎ (gone i ≡ false) → Named s
      root i live e (inl q) _ =
          let P : ℕ → Type 0 = λ y. (n : ℕ) × (slice_get (parts x) n ≡ Some (get_or places y 0)) in as_part i e (subst P (sym q) j.own)
      root i live e (inr n) (inl t) = as_part i e (j.all i t)
      root i live e (inr n) (inr f) = inl (i, w.lives i live f, at_other i n ∙ e)

  module _ (new_enters : EnteredBy whole (length list) (get_or blocks a 0))
      (new_wants : (k : ℕ) → MayWant p whole (length list) k → (y : ℕ) × (now.edge a y ≡ true) × (get_or blocks y 0 ≡ k))
      (new_wanted : (y : ℕ) → now.edge a y ≡ true → MayWant p whole (length list) (get_or blocks y 0))
      (new_few : length list + 1 + 2 * count_below now.count now.live + self_edges now ≤ 4 * length blocks) where
    enters : (i : ℕ) → now.live i ≡ true → EnteredBy whole (get_or after i 0) (get_or blocks i 0)
    enters i l = elim (place_of i) [
      | inl (q, o) ↦ (
          let P : ℕ → Type 0 = λ y. EnteredBy whole y (get_or blocks i 0) in
          let Q : ℕ → Type 0 = λ y. EnteredBy whole (length list) (get_or blocks y 0) in subst P (sym o) (subst Q (sym q) new_enters))
      | inr (n, o) ↦ (
          let P : ℕ → Type 0 = λ y. EnteredBy whole y (get_or blocks i 0) in
          subst P (sym o) (enter_up list b.regions.later x (b.enters i (was_live i l n))))
    ]

    wants : (i k : ℕ) → now.live i ≡ true → MayWant p whole (get_or after i 0) k → (y : ℕ) × (now.edge i y ≡ true) × (get_or blocks y 0 ≡ k)
    wants i k l m = elim (place_of i) [
      | inl (q, o) ↦ (
          let P : ℕ → Type 0 = λ z. MayWant p whole z k in
          let (y, e, r) = new_wants k (subst P o m) in
          let Q : ℕ → Type 0 = λ z. now.edge z y ≡ true in (y, subst Q (sym q) e, r))
      | inr (n, o) ↦ (
          let P : ℕ → Type 0 = λ z. MayWant p whole z k in
          let live = was_live i l n in
          let (y, e, r) = b.wants i k live (want_down list b.regions.later x p (b.within i live) (subst P o m)) in
          (y, w.edges i y n (not_gone i l n) e, r))
    ]

    wanted : (i y : ℕ) → now.edge i y ≡ true → MayWant p whole (get_or after i 0) (get_or blocks y 0)
    wanted i y e = elim (place_of i) [
      | inl (q, o) ↦ (
          let P : ℕ → Type 0 = λ z. MayWant p whole z (get_or blocks y 0) in
          let Q : ℕ → Type 0 = λ z. now.edge z y ≡ true in subst P (sym o) (new_wanted y (subst Q q e)))
      | inr (n, o) ↦ (
          let P : ℕ → Type 0 = λ z. MayWant p whole z (get_or blocks y 0) in
          subst P (sym o) (want_up list b.regions.later x p (b.wanted i y (w.edge i y n e))))
    ]

    pub built_on : Built p whole blocks after now
    built_on = record {
      sound = b.sound;
      reachable = b.reachable;
      few_blocks = b.few_blocks;
      count = w.count ∙ b.count;
      places_count = length-set places a (length list) ∙ b.places_count;
      formed = w.formed;
      all_reached = w.all_reached;
      regions = regions;
      within = within;
      enters = enters;
      apart = apart;
      free = free;
      named = named;
      wants = wants;
      wanted = wanted;
      few = (let e = whole_length in let f = new_few in omega arith);
    }
