-- Regions under several roots are one tree once a dispatch stands over the roots.
use Rattle.std.proofs.Common.{◌≡◌, ◌⊎◌, inl, inr, ℕ, zero, suc, ◌+◌, ◌-◌, ◌<◌, ◌≤◌, ltb, List, [], ◌∷◌, ◌++◌, length, map, Some, refl, sym, ap, subst, ◌∙◌, arith, length-append}
use Rattle.std.proofs.lemmas.Bool.{cases_Bool, ltb-false, cond-true, cond-false}
use Rattle.std.proofs.lemmas.Option.{slice_get_within, slice_get-map, some_pair_parts}
use Rattle.std.specs.List.{slice_get, Contains}
use Rattle.std.specs.Option.{option_map}
use Rattle.dxil_form.specs.declared.program.Program.{Program}
use Rattle.dxil_form.specs.declared.region.Region.{Region}
use Rattle.dxil_form.specs.declared.region.Region.TheVariants.{Leaf, Then, Loop, Dispatch, Arms}
use Rattle.dxil_form.specs.Walks.{EnteredBy}
use Rattle.dxil_form.specs.Walks.EnteredBy.{by_start}
use Rattle.dxil_form.specs.Wired.{IsPart, MayWant, Wired, parts}
use Rattle.dxil_form.specs.Wired.MayWant.{leaf_wants, first_wants, second_wants, body_wants, source_wants, arm_wants, choice_wants}
use Rattle.region_laws.specs.Roots.{HasRoot, WiredRoots}
use Rattle.region_laws.specs.Laws.{NoReturn, ClosedIsWired}
use Rattle.region_laws.proofs.Places.{front, last, cases_last, same_place, has_get, get_has}
use Rattle.region_laws.proofs.Growing.{may_branch, enter_up, enter_down, want_down, entered_once}

-- the places of the roots
abbrev pub places : List (ℕ × ℕ) → List ℕ
places roots = map (λ (root : ℕ × ℕ). root.1) roots

pub placed : (roots : List (ℕ × ℕ)) (i b r : ℕ) → slice_get roots i ≡ Some (b, r) → slice_get (places roots) i ≡ Some r
placed roots i b r h = slice_get-map (λ (root : ℕ × ℕ). root.1) roots i ∙ ap (option_map (λ (root : ℕ × ℕ). root.1)) h

pub from_place : (roots : List (ℕ × ℕ)) (i r : ℕ) → slice_get (places roots) i ≡ Some r → (b : ℕ) × (slice_get roots i ≡ Some (b, r))
from_place [] i r h = absurd (cc)
from_place ((b, s) ∷ roots) zero r h = let q : s ≡ r = cc in (b, ap (λ (y : ℕ). Some (b, y)) q)
from_place (root ∷ roots) (suc i) r h = from_place roots i r h

abbrev pub several : List Region → List (ℕ × ℕ) → List Region
several list roots = list ++ Dispatch (places roots) ∷ []

module _ (p : Program) (list : List Region) (roots : List (ℕ × ℕ)) (w : WiredRoots p list roots) where
  abbrev New : (r : ℕ) (region : Region) → Type 0
  New r region = (slice_get list r ≡ Some region) ⊎ ((r ≡ length list) × (Dispatch (places roots) ≡ region))

  pub cases_new : (r : ℕ) (region : Region) → slice_get (several list roots) r ≡ Some region → New r region
  cases_new r region h = cases_last list (Dispatch (places roots)) r region h

  pub old : (r : ℕ) (region : Region) → slice_get list r ≡ Some region → slice_get (several list roots) r ≡ Some region
  old r region h = front list (Dispatch (places roots) ∷ []) r region h

  -- the arms of the dispatch are the roots
  pub arm_is_root : (arms : List ℕ) (a : ℕ) → Dispatch (places roots) ≡ Dispatch arms → Contains arms a → (b : ℕ) × HasRoot roots b a
  arm_is_root arms a q c =
      let same : places roots ≡ arms = cc in
      let P : List ℕ → Type 0 = λ l. Contains l a in
      let (i, e) = get_has (places roots) a (subst P (sym same) c) in
      let (b, h) = from_place roots i a e in
      (b, (i, h))

  pub root_is_arm : (b a : ℕ) → HasRoot roots b a → Contains (places roots) a
  root_is_arm b a (i, h) = has_get (places roots) i a (placed roots i b a h)

  abbrev PartCases : (r i s : ℕ) → Type 0
  PartCases r i s = IsPart list r i s ⊎ ((r ≡ length list) × (slice_get (places roots) i ≡ Some s))

  cases_part : (r i s : ℕ) → IsPart (several list roots) r i s → PartCases r i s
  cases_part r i s k = go (cases_new r k.region k.stands)
    where
      go : New r k.region → PartCases r i s
      go (inl h) = inl (record { region = k.region; stands = h; part = k.part })
      go (inr (q, o)) = let P : Region → Type 0 = λ x. slice_get (parts x) i ≡ Some s in inr (q, subst P (sym o) k.part)

  part_old : (r i s : ℕ) → IsPart list r i s → IsPart (several list roots) r i s
  part_old r i s k = record { region = k.region; stands = old r k.region k.stands; part = k.part }

  part_new : (i b s : ℕ) → slice_get roots i ≡ Some (b, s) → IsPart (several list roots) (length list) i s
  part_new i b s h = record {
    region = Dispatch (places roots);
    stands = last list (Dispatch (places roots));
    part = placed roots i b s h;
  }

  several_later : (r i s : ℕ) → IsPart (several list roots) r i s → s < r
  several_later r i s k = elim (cases_part r i s k) [
    | inl o ↦ w.later r i s o
    | inr (q, h) ↦ (let (b, e) = from_place roots i s h in let l : s < length list = w.within b s (i, e) in omega arith)
  ]

  several_named : (s : ℕ) → s < length list → (r : ℕ) × (i : ℕ) × IsPart (several list roots) r i s
  several_named s l = elim (w.named s l) [
    | inl (b, (i, h)) ↦ (length list, i, part_new i b s h)
    | inr (r, i, k) ↦ (r, i, part_old r i s k)
  ]

  several_once : (q r i j s : ℕ) → IsPart (several list roots) q i s → IsPart (several list roots) r j s → (q ≡ r) × (i ≡ j)
  several_once q r i j s k m = go (cases_part q i s k) (cases_part r j s m)
    where
      go : PartCases q i s → PartCases r j s → (q ≡ r) × (i ≡ j)
      go (inl a) (inl b) = w.once q r i j s a b
      go (inl a) (inr (o, h)) = let (b, e) = from_place roots j s h in absurd (w.free b s q i (j, e) a)
      go (inr (o, h)) (inl a) = let (b, e) = from_place roots i s h in absurd (w.free b s r j (i, e) a)
      go (inr (o, h)) (inr (n, g)) =
          let (b, e) = from_place roots i s h in
          let (c, f) = from_place roots j s g in
          (o ∙ sym n, w.distinct i j b c s s e f (inr refl))

  -- a region but a dispatch stands in the list without it
  stays : (r : ℕ) (region : Region) → (Dispatch (places roots) ≡ region → ⊥) → slice_get (several list roots) r ≡ Some region → slice_get list r ≡ Some region
  stays r region other h = elim (cases_new r region h) [ inl k ↦ k | inr (q, o) ↦ absurd (other o) ]

  up : {r b : ℕ} → EnteredBy list r b → EnteredBy (several list roots) r b
  up e = enter_up list w.later (Dispatch (places roots)) e

  pub no_choice : (region : Region) → slice_get (several list roots) (length list) ≡ Some region → Dispatch (places roots) ≡ region
  no_choice region h = same_place (several list roots) (length list) (Dispatch (places roots)) region (last list (Dispatch (places roots))) h

  several_over : (k : ℕ) → MayWant p (several list roots) (length list) k → ⊥
  several_over k (leaf_wants h t) = cc (no_choice _ h)
  several_over k (first_wants h m n) = cc (no_choice _ h)
  several_over k (second_wants h m) = cc (no_choice _ h)
  several_over k (body_wants h m n) = cc (no_choice _ h)
  several_over k (source_wants h m n) = cc (no_choice _ h)
  several_over k (arm_wants h c m) = cc (no_choice _ h)
  several_over k (choice_wants {a = a} {arms = arms} h c m n) =
      let q : Dispatch (places roots) ≡ Dispatch arms = no_choice _ h in
      let same : places roots ≡ arms = cc in
      let (b, root) = arm_is_root arms a q c in
      let (s, target) = w.wants b a k root (want_down list w.later (Dispatch (places roots)) p (w.within b a root) m) in
      let P : List ℕ → Type 0 = λ l. Contains l s in
      n s (subst P same (root_is_arm k s target)) (up (w.enters k s target))

  several_apart : (r a c k : ℕ) (arms : List ℕ) → slice_get (several list roots) r ≡ Some (Dispatch arms) → Contains arms a → Contains arms c
      → EnteredBy (several list roots) a k → EnteredBy (several list roots) c k → a ≡ c
  several_apart r a c k arms h i j d e = elim (cases_new r (Dispatch arms) h) [
    | inl o ↦ absurd (w.no_dispatch r arms o)
    | inr (_, q) ↦ (
        let (x, (m, f)) = arm_is_root arms a q i in
        let (y, (n, g)) = arm_is_root arms c q j in
        let s : x ≡ k = entered_once list w.later w.no_dispatch (w.enters x a (m, f)) (enter_down list w.later (Dispatch (places roots)) (w.within x a (m, f)) d) in
        let t : y ≡ k = entered_once list w.later w.no_dispatch (w.enters y c (n, g)) (enter_down list w.later (Dispatch (places roots)) (w.within y c (n, g)) e) in
        let u : m ≡ n = w.distinct m n x y a c f g (inl (s ∙ sym t)) in
        let P : ℕ → Type 0 = λ z. slice_get roots z ≡ Some (y, c) in
        (some_pair_parts x y a c (sym f ∙ subst P (sym u) g)).1)
  ]

  pub several_wired : Wired p (several list roots)
  several_wired = record {
    root = length list;
    last = simp (length-append) (omega arith);
    begins = (let (r, root) = w.begins in by_start (last list (Dispatch (places roots))) (root_is_arm 0 r root) (up (w.enters 0 r root)));
    over = several_over;
    later = several_later;
    named = several_named;
    once = several_once;
    leaf = λ b k. (let (r, h) = w.leaf b k in (r, old r (Leaf b) h));
    reached = λ r b h. w.reached r b (stays r (Leaf b) (λ q. cc) h);
    leaf_once = λ r s b h k. w.leaf_once r s b (stays r (Leaf b) (λ q. cc) h) (stays s (Leaf b) (λ q. cc) k);
    second = λ r first second target h. up (w.second r first second target (stays r (Then first second target) (λ q. cc) h));
    body = λ r body head h. up (w.body r body head (stays r (Loop body head) (λ q. cc) h));
    one_loop = λ r body head inner k h i. w.one_loop r body head inner k (stays r (Loop body head) (λ q. cc) h) (stays body (Loop inner k) (λ q. cc) i);
    source = λ r first arms h. (let (b, k, t) = w.source r first arms (stays r (Arms first arms) (λ q. cc) h) in (b, old first (Leaf b) k, t));
    arm = λ r first k a arms h c. up (w.arm r first k a arms (stays r (Arms first arms) (λ q. cc) h) c);
    dispatch = λ r arms h. elim (cases_new r (Dispatch arms) h) [ inl o ↦ absurd (w.no_dispatch r arms o) | inr (q, _) ↦ q ];
    apart = several_apart;
    few = (let f = w.few in let l : length (several list roots) ≡ length list + 1 = length-append list (Dispatch (places roots) ∷ []) in omega arith);
  }

  -- a single root is the last region
  module _ (single : length roots ≤ 1) where
    pub only_root : (b r : ℕ) → HasRoot roots b r → (b ≡ 0) × (r ≡ w.begins.0)
    only_root b r (i, h) =
        let (s, (j, k)) = w.begins in
        let l = slice_get_within roots i (b, r) h in
        let m = slice_get_within roots j (0, s) k in
        let q : i ≡ j = omega arith in
        let P : ℕ → Type 0 = λ z. slice_get roots z ≡ Some (0, s) in
        some_pair_parts b 0 r s (sym h ∙ subst P (sym q) k)

    pub single_last : length list ≡ suc w.begins.0
    single_last =
        let (s, root) = w.begins in
        let l : s < length list = w.within 0 s root in
        elim (w.named (length list - 1) (omega arith)) [
          | inl (b, r) ↦ (let (_, q) = only_root b (length list - 1) r in omega arith)
          | inr (r, i, k) ↦ (
              let m : length list - 1 < r = w.later r i (length list - 1) k in
              let n : r < length list = slice_get_within list r k.region k.stands in absurd (omega arith))
        ]

    pub single_wired : NoReturn p → Wired p list
    single_wired never = record {
      root = w.begins.0;
      last = single_last;
      begins = w.enters 0 w.begins.0 w.begins.1;
      over = λ k m. (let (s, root) = w.wants 0 w.begins.0 k w.begins.1 m in
          let (zero_is, _) = only_root k s root in
          let (b, t) = may_branch m in
          let n : 1 ≤ k = never b k t in absurd (omega arith));
      later = w.later;
      named = λ s l. elim (w.named s (let e = single_last in omega arith)) [
        | inl (b, r) ↦ (let (_, q) = only_root b s r in absurd (omega arith))
        | inr k ↦ k
      ];
      once = w.once;
      leaf = w.leaf;
      reached = w.reached;
      leaf_once = w.leaf_once;
      second = w.second;
      body = w.body;
      one_loop = w.one_loop;
      source = w.source;
      arm = w.arm;
      dispatch = λ r arms h. absurd (w.no_dispatch r arms h);
      apart = λ r a c k arms h. absurd (w.no_dispatch r arms h);
      few = (let f = w.few in omega arith);
    }

pub closed_is_wired : ClosedIsWired
closed_is_wired p list roots never w = elim (cases_Bool (ltb 1 (length roots))) [
  | inl t ↦ (let P : List Region → Type 0 = λ l. Wired p l in subst P (sym (cond-true (ltb 1 (length roots)) (several list roots) list t)) (several_wired p list roots w))
  | inr f ↦ (let P : List Region → Type 0 = λ l. Wired p l in
      subst P (sym (cond-false (ltb 1 (length roots)) (several list roots) list f)) (single_wired p list roots w (ltb-false 1 (length roots) f) never))
]
