-- The roots that are left.
use Rattle.std.proofs.Common.{◌≡◌, ◌≢◌, ◌⊎◌, ◌↔◌, inl, inr, ℕ, ◌+◌, ◌<◌, Bool, true, false, cond, List, [], ◌∷◌, ◌++◌, length, get_or, Option, Some, None, length-append, refl, sym, ap, subst, ◌∙◌, arith}
use Rattle.std.proofs.lemmas.Bool.{cases_eq, cases_lt, cases_order, both_ways, false_from_ne_true, false≢true}
use Rattle.std.proofs.lemmas.Option.{none-some, some_pair_parts, slice_get_within, slice_get-get_or, get_or_from_slice_get}
use Rattle.std.specs.List.{slice_get}
use Rattle.dxil_form.specs.declared.program.Program.{Program}
use Rattle.dxil_form.specs.declared.region.Region.{Region}
use Rattle.std.specs.Option.{IfSome, IfNone}
use Rattle.dxil_form.specs.Graphs.{Graph, Crossed, In, Path, SolePred}
use Rattle.dxil_form.specs.Sound.{Sound}
use Rattle.dxil_form.specs.Walks.{EnteredBy}
use Rattle.dxil_form.specs.Wired.{IsPart, MayWant}
use Rattle.graph_laws.proofs.Stuck.{stuck_is_crossed}
use Rattle.region_laws.specs.Roots.{HasRoot, WiredRoots}
use Rattle.region_laws.proofs.Places.{cases_last, last, front}
use Rattle.region_leaves.specs.Leaves.{AreReachable}
use Rattle.region_leaves.proofs.Rooted.{few_blocks, index_of}
use Rattle.region_builder.specs.Started.{HasNodes, WantsAlongEdges}
use Rattle.region_builder.specs.Built.{Built, AllSettled}
use Rattle.region_builder.specs.Children.{AreRoots, AreSolePreds}
use Rattle.region_builder.proofs.Counting.{count_some}

pub no_roots : (g : Graph) (blocks places : List ℕ) → AreRoots g 0 blocks places []
no_roots g blocks places = record {
  only = λ k b r h. absurd (none-some (b, r) h);
  all = λ i l t. absurd (omega arith);
  rising = λ j k b c r s l h m. absurd (none-some (b, r) h);
}

pub dead_on : (g : Graph) (n : ℕ) (blocks places : List ℕ) (roots : List (ℕ × ℕ)) → AreRoots g n blocks places roots → g.live n ≡ false → AreRoots g (n + 1) blocks places roots
dead_on g n blocks places roots are f = record {
  only = λ k b r h. (let (i, l, t, x, y) = are.only k b r h in (i, omega arith, t, x, y));
  all = λ i l t. elim (cases_eq i n) [
    | inl q ↦ (let P : ℕ → Type 0 = λ z. g.live z ≡ true in absurd (both_ways _ f (subst P q t)))
    | inr o ↦ are.all i (omega arith) t
  ];
  rising = are.rising;
}

pub live_on : (g : Graph) (n : ℕ) (blocks places : List ℕ) (roots : List (ℕ × ℕ)) → AreRoots g n blocks places roots → g.live n ≡ true
    → ((i : ℕ) → i < n → get_or blocks i 0 < get_or blocks n 0) → AreRoots g (n + 1) blocks places (roots ++ (get_or blocks n 0, get_or places n 0) ∷ [])
live_on g n blocks places roots are t below = record { only = only; all = all; rising = rising }
  where
    only : (k b r : ℕ) → slice_get (roots ++ (get_or blocks n 0, get_or places n 0) ∷ []) k ≡ Some (b, r)
        → (i : ℕ) × (i < n + 1) × (g.live i ≡ true) × (get_or blocks i 0 ≡ b) × (get_or places i 0 ≡ r)
    only k b r h = elim (cases_last roots (get_or blocks n 0, get_or places n 0) k (b, r) h) [
      | inl m ↦ (let (i, l, u, x, y) = are.only k b r m in (i, omega arith, u, x, y))
      | inr (_, q) ↦ (let (x, y) = some_pair_parts (get_or blocks n 0) b (get_or places n 0) r (ap (λ (z : ℕ × ℕ). Some z) q) in (n, omega arith, t, x, y))
    ]

    all : (i : ℕ) → i < n + 1 → g.live i ≡ true → (k : ℕ) × (slice_get (roots ++ (get_or blocks n 0, get_or places n 0) ∷ []) k ≡ Some (get_or blocks i 0, get_or places i 0))
    all i l u = elim (cases_eq i n) [
      | inl q ↦ (
          let P : ℕ → Type 0 = λ z. slice_get (roots ++ (get_or blocks n 0, get_or places n 0) ∷ []) (length roots) ≡ Some (get_or blocks z 0, get_or places z 0) in
          (length roots, subst P (sym q) (last roots (get_or blocks n 0, get_or places n 0))))
      | inr o ↦ (let (k, h) = are.all i (omega arith) u in (k, front roots ((get_or blocks n 0, get_or places n 0) ∷ []) k _ h))
    ]

    rising : (j k b c r s : ℕ) → j < k → slice_get (roots ++ (get_or blocks n 0, get_or places n 0) ∷ []) j ≡ Some (b, r)
        → slice_get (roots ++ (get_or blocks n 0, get_or places n 0) ∷ []) k ≡ Some (c, s) → b < c
    rising j k b c r s l h m = elim (cases_last roots (get_or blocks n 0, get_or places n 0) k (c, s) m) [
      | inl y ↦ elim (cases_last roots (get_or blocks n 0, get_or places n 0) j (b, r) h) [
        | inl x ↦ are.rising j k b c r s l x y
        | inr (q, _) ↦ (let w = slice_get_within roots k (c, s) y in absurd (omega arith))
      ]
      | inr (q, e) ↦ elim (cases_last roots (get_or blocks n 0, get_or places n 0) j (b, r) h) [
        | inl x ↦ (
            let (i, w, _, z, _) = are.only j b r x in
            let v = below i w in
            let (f, _) = some_pair_parts (get_or blocks n 0) c (get_or places n 0) s (ap (λ (y : ℕ × ℕ). Some y) e) in omega arith)
        | inr (z, _) ↦ absurd (omega arith)
      ]
    ]

pub root_on : (g : Graph) (n : ℕ) (blocks places : List ℕ) (roots : List (ℕ × ℕ)) → AreRoots g n blocks places roots → (live : Bool)
    → (live ≡ true) ↔ (g.live n ≡ true) → ((i : ℕ) → i < n → get_or blocks i 0 < get_or blocks n 0)
    → AreRoots g (n + 1) blocks places (cond live (roots ++ (get_or blocks n 0, get_or places n 0) ∷ []) roots)
root_on g n blocks places roots are true tells below = live_on g n blocks places roots are (tells.0 refl) below
root_on g n blocks places roots are false tells below =
    dead_on g n blocks places roots are (false_from_ne_true (g.live n) (λ t. false≢true (tells.1 t)))

-- ---- the sole predecessors of nodes

pub no_preds : (g : Graph) → AreSolePreds g []
no_preds g = record { sole = λ i j h. absurd (none-some (Some i) h); all = λ i j l p. absurd (omega arith) }

-- what a call tells of one node
told_pred : (g : Graph) (n : ℕ) (r : Option ℕ) → IfSome r (λ a. SolePred g a n) → IfNone r ((a : ℕ) → SolePred g a n → ⊥) → (i : ℕ) → SolePred g i n → r ≡ Some i
told_pred g n None some none i p = absurd (none i p)
told_pred g n (Some a) some none i p = ap (λ (z : ℕ). Some z) (p.sole a some.edge)

pub preds_on : (g : Graph) (ps : List (Option ℕ)) (n : ℕ) (r : Option ℕ) → AreSolePreds g ps → length ps ≡ n → IfSome r (λ a. SolePred g a n) → IfNone r ((a : ℕ) → SolePred g a n → ⊥) → AreSolePreds g (ps ++ r ∷ [])
preds_on g ps n r are e some none = record {
  sole = λ i j h. elim (cases_last ps r j (Some i) h) [
    | inl k ↦ are.sole i j k
    | inr (q, o) ↦ (
        let P : Option ℕ → Type 0 = λ z. IfSome z (λ a. SolePred g a n) in
        let Q : ℕ → Type 0 = λ z. SolePred g i z in subst Q (sym (q ∙ e)) (subst P o some))
  ];
  all = λ i j l p. (let m = length-append ps (r ∷ []) in elim (cases_lt j (length ps)) [
    | inl k ↦ front ps (r ∷ []) j (Some i) (are.all i j k p)
    | inr high ↦ (
        let q : length ps ≡ j = omega arith in
        let P : ℕ → Type 0 = λ z. slice_get (ps ++ r ∷ []) z ≡ Some r in
        let Q : ℕ → Type 0 = λ z. SolePred g i z in
        subst P q (last ps r) ∙ ap (λ (z : Option ℕ). Some z) (told_pred g n r some none i (subst Q (sym q ∙ e) p)))
  ]);
}

-- a block stands at one place
pub one_block : {p : Program} {blocks : List ℕ} → AreReachable p blocks → (i j : ℕ) → i < length blocks → j < length blocks → get_or blocks i 0 ≡ get_or blocks j 0 → i ≡ j
one_block are i j l m e = elim (cases_order i j) [
  | inl q ↦ q
  | inr (inl below) ↦ (let r = are.rising i j below m in absurd (omega arith))
  | inr (inr above) ↦ (let r = are.rising j i above l in absurd (omega arith))
]

first_block_of : (p : Program) → Sound p → (blocks : List ℕ) → AreReachable p blocks → slice_get blocks 0 ≡ Some 0
first_block_of p sound blocks are =
    let (i, h) = index_of p sound blocks are 0 ([], refl) in
    let l = slice_get_within blocks i 0 h in
    let e = get_or_from_slice_get blocks i 0 0 h in
    elim (cases_eq i 0) [
      | inl q ↦ (let P : ℕ → Type 0 = λ y. slice_get blocks y ≡ Some 0 in subst P q h)
      | inr n ↦ (let r = are.rising 0 i (omega arith) l in absurd (omega arith))
    ]

module _ (p : Program) (list : List Region) (blocks places : List ℕ) (g : Graph) (b : Built p list blocks places g) (roots : List (ℕ × ℕ)) (are : AreRoots g (length blocks) blocks places roots) where
  pub inside : (i : ℕ) → g.live i ≡ true → i < length blocks
  inside i l = let x = b.formed.within i l in let c = b.count in omega arith

  -- the live node of a root
  pub node_of : (c r : ℕ) → HasRoot roots c r → (i : ℕ) × (g.live i ≡ true) × (get_or blocks i 0 ≡ c) × (get_or places i 0 ≡ r)
  node_of c r (k, h) = let (i, _, t, x, y) = are.only k c r h in (i, t, x, y)

  pub root_of : (i : ℕ) → g.live i ≡ true → HasRoot roots (get_or blocks i 0) (get_or places i 0)
  root_of i t = are.all i (inside i t) t

  distinct : (i j x y r s : ℕ) → slice_get roots i ≡ Some (x, r) → slice_get roots j ≡ Some (y, s) → (x ≡ y) ⊎ (r ≡ s) → i ≡ j
  distinct i j x y r s h k o = elim (cases_order i j) [
    | inl q ↦ q
    | inr (inl l) ↦ (let e = same in let m = are.rising i j x y r s l h k in absurd (omega arith))
    | inr (inr l) ↦ (let e = same in let m = are.rising j i y x s r l k h in absurd (omega arith))
  ]
    where
      same : x ≡ y
      same = elim o [
        | inl q ↦ q
        | inr q ↦ (
            let (m, t, u, v) = node_of x r (i, h) in
            let (n, w, e, f) = node_of y s (j, k) in
            let z : m ≡ n = b.apart m n t w (v ∙ q ∙ sym f) in sym u ∙ ap (λ (z : ℕ). get_or blocks z 0) z ∙ e)
      ]

  pub roots_wired : WiredRoots p list roots
  roots_wired = record {
    begins = begins;
    enters = λ c r h. (let (i, t, x, y) = node_of c r h in
        let P : ℕ → Type 0 = λ z. EnteredBy list z c in
        let Q : ℕ → Type 0 = λ z. EnteredBy list (get_or places i 0) z in subst P y (subst Q x (b.enters i t)));
    distinct = distinct;
    wants = λ c r k h m. (let (i, t, x, y) = node_of c r h in
        let P : ℕ → Type 0 = λ z. MayWant p list z k in
        let (j, e, q) = b.wants i k t (subst P (sym y) m) in
        let Q : ℕ → Type 0 = λ z. HasRoot roots z (get_or places j 0) in (get_or places j 0, subst Q q (root_of j (b.formed.to i j e))));
    within = λ c r h. (let (i, t, x, y) = node_of c r h in let l = b.within i t in omega arith);
    free = λ c r q n h m. (let (i, t, x, y) = node_of c r h in let P : ℕ → Type 0 = λ z. IsPart list q n z in b.free i q n t (subst P (sym y) m));
    later = b.regions.later;
    named = λ s l. elim (b.named s l) [
      | inl (i, t, q) ↦ (let P : ℕ → Type 0 = λ z. HasRoot roots (get_or blocks i 0) z in inl (get_or blocks i 0, subst P q (root_of i t)))
      | inr m ↦ inr m
    ];
    once = b.regions.once;
    leaf = b.regions.leaf;
    reached = b.regions.reached;
    leaf_once = b.regions.leaf_once;
    second = b.regions.second;
    body = b.regions.body;
    one_loop = b.regions.one_loop;
    source = b.regions.source;
    arm = b.regions.arm;
    no_dispatch = b.regions.no_dispatch;
    few = (let f = b.few in let c = count_some g.count g.live 0 (b.formed.within 0 b.formed.entry) b.formed.entry in
        let n = few_blocks p b.sound blocks b.reachable in omega arith);
  }
    where
      begins : (r : ℕ) × HasRoot roots 0 r
      begins =
          let h = first_block_of p b.sound blocks b.reachable in
          let e = get_or_from_slice_get blocks 0 0 0 h in
          let P : ℕ → Type 0 = λ z. HasRoot roots z (get_or places 0 0) in (get_or places 0 0, subst P e (root_of 0 b.formed.entry))

  pub roots_nodes : HasNodes blocks roots g
  roots_nodes = record {
    count = b.count;
    live = λ i. (
      λ t. (get_or blocks i 0, get_or places i 0, slice_get-get_or blocks i 0 (inside i t), root_of i t),
      λ h. (let (c, r, x, root) = h in
          let (j, t, y, _) = node_of c r root in
          let e = get_or_from_slice_get blocks i c 0 x in
          let l = slice_get_within blocks i c x in
          let q : j ≡ i = one_block b.reachable j i (inside j t) l (y ∙ sym e) in
          let P : ℕ → Type 0 = λ z. g.live z ≡ true in subst P q t),
    );
    edges = λ i j e. (b.formed.from i j e, b.formed.to i j e);
  }

  pub roots_want : WantsAlongEdges p blocks list roots g
  roots_want i c r x root j k y =
      let (m, t, u, v) = node_of c r root in
      let e = get_or_from_slice_get blocks i c 0 x in
      let f = get_or_from_slice_get blocks j k 0 y in
      let l = slice_get_within blocks i c x in
      let n = slice_get_within blocks j k y in
      let q : m ≡ i = one_block b.reachable m i (inside m t) l (u ∙ sym e) in
      let P : ℕ → Type 0 = λ z. g.live z ≡ true in
      let Q : ℕ → Type 0 = λ z. get_or places z 0 ≡ r in
      let live : g.live i ≡ true = subst P q t in
      let place : get_or places i 0 ≡ r = subst Q q v in
      let R : ℕ → Type 0 = λ z. MayWant p list z k in (
        λ d. (let S : ℕ → Type 0 = λ z. MayWant p list (get_or places i 0) z in subst R place (subst S f (b.wanted i j d))),
        λ w. (
            let (o, d, z) = b.wants i k live (subst R (sym place) w) in
            let same : o ≡ j = one_block b.reachable o j (inside o (b.formed.to i o d)) n (z ∙ sym f) in
            let T : ℕ → Type 0 = λ h. g.edge i h ≡ true in subst T same d),
      )

  -- ---- one root is left exactly where no ring has two entrances

  other_crossed : AllSettled g → (d : ℕ) → g.live d ≡ true → d ≢ 0 → Crossed g
  other_crossed settled d l n = stuck_is_crossed g b.formed b.all_reached d l n (record {
    no_fold = λ a e. (settled a (b.formed.from a a e)).no_fold e;
    no_absorb = λ a j o s. (settled a (b.formed.from a j s.edge)).no_absorb j o s;
  })

  ring_live : (a c x : ℕ) (nodes : List ℕ) → Path g a nodes c → In x nodes → g.live x ≡ true
  ring_live a c x [] w i = absurd i
  ring_live a c x (y ∷ nodes) (e, w) (inl q) = let P : ℕ → Type 0 = λ z. g.live z ≡ true in subst P (sym q) (b.formed.from y c e)
  ring_live a c x (y ∷ nodes) (e, w) (inr i) = ring_live a y x nodes w i

  sole_crossed : ((d : ℕ) → g.live d ≡ true → d ≡ 0) → Crossed g → ⊥
  sole_crossed sole k =
      let (a, i, w) = k.closed in
      let x = sole k.first (ring_live a a k.first k.ring w k.enters_first.0) in
      let y = sole k.second (ring_live a a k.second k.ring w k.enters_second.0) in k.apart (x ∙ sym y)

  root_zero : (k : ℕ) × (slice_get roots k ≡ Some (get_or blocks 0 0, get_or places 0 0))
  root_zero = root_of 0 b.formed.entry

  single_sole : length roots ≡ 1 → (d : ℕ) → g.live d ≡ true → d ≡ 0
  single_sole one d l =
      let (k, h) = root_zero in
      let (m, e) = root_of d l in
      let x = slice_get_within roots k _ h in
      let y = slice_get_within roots m _ e in
      let q : m ≡ k = omega arith in
      let P : ℕ → Type 0 = λ z. slice_get roots z ≡ Some (get_or blocks d 0, get_or places d 0) in
      let (u, v) = some_pair_parts (get_or blocks d 0) (get_or blocks 0 0) (get_or places d 0) (get_or places 0 0) (sym (subst P q e) ∙ h) in
      b.apart d 0 l b.formed.entry v

  sole_single : ((d : ℕ) → g.live d ≡ true → d ≡ 0) → length roots ≡ 1
  sole_single sole = elim (cases_lt (length roots) 2) [
    | inl l ↦ (let (k, h) = root_zero in let x = slice_get_within roots k _ h in omega arith)
    | inr l ↦ absurd (two (pair 0 (omega arith)) (pair 1 (omega arith)))
  ]
    where
      pair : (k : ℕ) → k < length roots → (c : ℕ) × (r : ℕ) × (slice_get roots k ≡ Some (c, r))
      pair k l = ((get_or roots k (0, 0)).0, (get_or roots k (0, 0)).1, slice_get-get_or roots k (0, 0) l)

      two : (c : ℕ) × (r : ℕ) × (slice_get roots 0 ≡ Some (c, r)) → (c : ℕ) × (r : ℕ) × (slice_get roots 1 ≡ Some (c, r)) → ⊥
      two (c, r, h) (e, s, k) =
          let (i, t, x, _) = node_of c r (0, h) in
          let (j, u, y, _) = node_of e s (1, k) in
          let q : i ≡ j = sole i t ∙ sym (sole j u) in
          let z = ap (λ (n : ℕ). get_or blocks n 0) q in
          let l = are.rising 0 1 c e r s (omega arith) h k in omega arith

  pub single_root : AllSettled g → (length roots ≡ 1) ↔ (Crossed g → ⊥)
  single_root settled = (
    λ one. sole_crossed (single_sole one),
    λ never. sole_single (λ d l. elim (cases_eq d 0) [ inl q ↦ q | inr n ↦ absurd (never (other_crossed settled d l n)) ]),
  )
