-- In a graph without a crossed ring some rewrite applies that keeps to the rings of its heads.
use Rattle.std.proofs.Common.{◌≡◌, ◌≢◌, ◌⊎◌, inl, inr, ℕ, zero, suc, ◌+◌, ◌<◌, Bool, true, false, not, ◌&&◌, eqb, List, [], ◌∷◌, ◌++◌, length, sym, refl, subst, arith, ne_eqb}
use Rattle.std.proofs.lemmas.Bool.{cases_Bool, cases_eq, both_ways, and_parts, and_from, eqb-false, not-true, not_from_false}
use Rattle.dxil_form.specs.Graphs.{Graph, IsFormed, In, Path, Reached, AllReached, Crossed}
use Rattle.graph_laws.specs.Laws.{MayAbsorb, Step}
use Rattle.graph_laws.proofs.Finite.{find, count, count_at_most, count_more, mem, mem_in, in_mem, in_append, in_left, in_right}
use Rattle.graph_laws.proofs.Paths.{path_append, path_to, path_start, path_next}
use Rattle.graph_laws.proofs.Stuck.{edge_in, RingIn}
use Rattle.graph_laws.proofs.Heads.{Loops, loops_dom, loops_self, loops_nest, loops_pred, head_loops, dom_apart, ring_cases}
use Rattle.graph_laws.proofs.Rewrites.{Walk, walk_append}

-- a test of which nodes the rings of a head pass
pub record IsOver (g : Graph) (over : ℕ → ℕ → Bool) : Type 0 where
  pub sound : (h b : ℕ) → over h b ≡ true → Loops g h b
  pub complete : (h b : ℕ) → Loops g h b → over h b ≡ true

module _ (g : Graph) (formed : IsFormed g) (reached : AllReached g) (over : ℕ → ℕ → Bool) (test : IsOver g over) where
  live : (h b : ℕ) → Loops g h b → g.live b ≡ true
  live h b l = go l.on
    where
      go : Walk g l.among b l.last → g.live b ≡ true
      go (xs, p, _) = elim (path_start g b l.last xs p) [
        | inl q ↦ (let P : ℕ → Type 0 = λ y. g.live y ≡ true in subst P (sym q) (formed.from l.last h l.edge))
        | inr i ↦ (let (y, e, _) = path_next g b l.last b xs p i in formed.from b y e)
      ]

  below : (h b : ℕ) → over h b ≡ true → b < g.count
  below h b t = formed.within b (live h b (test.sound h b t))

  -- each node of d has a predecessor in d, or a step is found
  abbrev PredOrStep : (ℕ → Bool) → Type 0
  PredOrStep d = (j : ℕ) → d j ≡ true → Step g over ⊎ ((r : ℕ) × (g.edge r j ≡ true) × (d r ≡ true))

  ring_or_step : (fuel : ℕ) (d : ℕ → Bool) (b c : ℕ) (ps : List ℕ) → PredOrStep d → Path g c ps b
      → ((x : ℕ) → In x ps → d x ≡ true) → d c ≡ true → g.count < fuel + count g.count (mem ps) → Step g over ⊎ RingIn g formed reached d
  ring_or_step zero d b c ps pred p all dc f = absurd (let h = count_at_most g.count (mem ps) in omega arith)
  ring_or_step (suc k) d b c ps pred p all dc f = elim (pred c dc) [
    | inl s ↦ inl s
    | inr found ↦ (let (r, e, dr) = found in
        elim (cases_Bool (mem ps r)) [
          | inl t ↦ inr (closes r e dr (mem_in ps r t))
          | inr n ↦ ring_or_step k d b r (ps ++ r ∷ []) pred (path_append g r c b (r ∷ []) ps (e, refl) p)
              (more ps r dr all) dr
              (let (l, _) = edge_in g formed reached r c e in
              let h = count_more g.count (mem ps) (mem (ps ++ r ∷ [])) (λ x i. in_mem (ps ++ r ∷ []) x (in_left ps (r ∷ []) x (mem_in ps x i)))
              r l n (in_mem (ps ++ r ∷ []) r (in_right ps (r ∷ []) r (inl refl))) in omega arith)
        ])
  ]
    where
      more : (qs : List ℕ) (r : ℕ) → d r ≡ true → ((x : ℕ) → In x qs → d x ≡ true) → (x : ℕ) → In x (qs ++ r ∷ []) → d x ≡ true
      more qs r dr h x i = elim (in_append qs (r ∷ []) x i) [
        | inl j ↦ h x j
        | inr j ↦ elim j [ inl q ↦ (let P : ℕ → Type 0 = λ w. d w ≡ true in subst P (sym q) dr) | inr v ↦ absurd v ]
      ]

      closes : (r : ℕ) → g.edge r c ≡ true → d r ≡ true → In r ps → RingIn g formed reached d
      closes r e dr i =
          let (qs, q, s) = path_to g c b r ps p i in
          record {
            ring = qs ++ r ∷ [];
            closed = (r, in_right qs (r ∷ []) r (inl refl), path_append g r c r (r ∷ []) qs (e, refl) q);
            all = more qs r dr (λ x j. all x (s x j));
          }

  -- one whose predecessors are all h is absorbed by h, if the rings of heads allow it
  pred_or_absorb : (h c : ℕ) → g.live c ≡ true → c ≢ 0 → c ≢ h → ((k : ℕ) → over k h ≡ true → over k c ≡ true)
      → Step g over ⊎ ((p : ℕ) × (g.edge p c ≡ true) × (p ≢ h))
  pred_or_absorb h c l z n keeps = elim (find g.count (λ p. g.edge p c && not (eqb p h))) [
    | inl (p, _, t) ↦ (let (e, m) = and_parts (g.edge p c) (not (eqb p h)) t in inr (p, e, eqb-false p h (not-true (eqb p h) m)))
    | inr none ↦ inl (inr (h, c, sole none (reached c l)))
  ]
    where
      sole : ((p : ℕ) → p < g.count → (g.edge p c && not (eqb p h)) ≡ false) → Reached g c → MayAbsorb g over h c
      sole none ([], p) = absurd (z (sym p))
      sole none (x ∷ before, (e, p)) = record {
        nonzero = z;
        pred = record {
          edge = (let P : ℕ → Type 0 = λ y. g.edge y c ≡ true in subst P (only x e) e);
          other = λ q. n (sym q);
          sole = only;
        };
        keeps = keeps;
      }
        where
          only : (y : ℕ) → g.edge y c ≡ true → y ≡ h
          only y d = elim (cases_eq y h) [
            | inl q ↦ q
            | inr m ↦ absurd (both_ways _ (none y (edge_in g formed reached y c d).0) (and_from _ _ d (not_from_false (eqb y h) (ne_eqb y h m))))
          ]

  -- what the rings of h pass beside h
  inner : ℕ → ℕ → Bool
  inner h x = over h x && not (eqb x h)

  inner_parts : (h x : ℕ) → inner h x ≡ true → (over h x ≡ true) × (x ≢ h)
  unfolding inner
  inner_parts h x t = let (o, n) = and_parts (over h x) (not (eqb x h)) t in (o, eqb-false x h (not-true (eqb x h) n))

  inner_from : (h x : ℕ) → over h x ≡ true → x ≢ h → inner h x ≡ true
  unfolding inner
  inner_from h x o n = and_from (over h x) _ o (not_from_false (eqb x h) (ne_eqb x h n))

  not_zero : (h x : ℕ) → inner h x ≡ true → x ≢ 0
  not_zero h x t z =
      let (o, n) = inner_parts h x t in
      elim (loops_dom g h x (test.sound h x o) [] (sym z)) [ inl q ↦ n (sym q) | inr v ↦ v ]

  descend : (fuel h : ℕ) → over h h ≡ true → count g.count (over h) < fuel → Crossed g ⊎ Step g over
  descend zero h t f = absurd (omega arith)
  descend (suc k) h t f = elim (find g.count (inner h)) [
    | inr none ↦ inr (inl (
      h,
      record {
        edge = self none (test.sound h h t);
        alone = λ b o. alone none b o;
      },
    ))
    | inl (j, _, i) ↦ elim (ring_or_step (suc g.count) (inner h) j j [] preds refl (λ x i. absurd i) i (omega arith)) [
      | inl s ↦ inr s
      | inr fr ↦ elim (ring_cases g formed reached fr.ring fr.closed (λ i. not_zero h 0 (fr.all 0 i) refl) (λ x i. in_live x (fr.all x i))) [
        | inl c ↦ inl c
        | inr found ↦ (let (e, d) = found in
            let ie = d.enters.0 in
            let (oe, ne) = inner_parts h e (fr.all e ie) in
            let le = head_loops g fr.ring e e d ie in
            descend k e (test.complete e e le) (smaller e oe ne))
      ]
    ]
  ]
    where
      alone : ((x : ℕ) → x < g.count → inner h x ≡ false) → (b : ℕ) → over h b ≡ true → b ≡ h
      alone none b o = elim (cases_eq b h) [
        | inl q ↦ q
        | inr n ↦ absurd (both_ways _ (none b (below h b o)) (inner_from h b o n))
      ]

      self : ((x : ℕ) → x < g.count → inner h x ≡ false) → Loops g h h → g.edge h h ≡ true
      self none l =
          let last : Loops g h l.last = record {
            among = l.among;
            dom = l.dom;
            to = walk_append g l.among h h l.last l.to l.on;
            last = l.last;
            on = ([], refl, λ z i. absurd i);
            last_in = l.last_in;
            edge = l.edge;
          } in
          let P : ℕ → Type 0 = λ y. g.edge y h ≡ true in
          subst P (alone none l.last (test.complete h l.last last)) l.edge

      in_live : (x : ℕ) → inner h x ≡ true → g.live x ≡ true
      in_live x i = live h x (test.sound h x (inner_parts h x i).0)

      preds : PredOrStep (inner h)
      preds c i =
          let (o, n) = inner_parts h c i in
          let l = test.sound h c o in
          elim (pred_or_absorb h c (in_live c i) (not_zero h c i) n (λ m u. test.complete m c (loops_nest g m h c (test.sound m h u) l))) [
            | inl s ↦ inl s
            | inr found ↦ (let (p, e, m) = found in
                inr (p, e, inner_from h p (test.complete h p (loops_pred g h c p (reached p (formed.from p c e)) l n e)) m))
          ]

      smaller : (e : ℕ) → over h e ≡ true → e ≢ h → count g.count (over e) < k
      smaller e oe ne =
          let le = test.sound h e oe in
          let apart : over e h ≡ false = elim (cases_Bool (over e h)) [
            | inl u ↦ (let (before, p) = reached e (live h e le) in
                absurd (dom_apart g (suc (length before)) e h before p (omega arith) (loops_dom g h e le) (loops_dom g e h (test.sound e h u)) ne))
            | inr u ↦ u
          ] in
          let m = count_more g.count (over e) (over h) (λ b u. test.complete h b (loops_nest g h e b le (test.sound e b u)))
          h (below h h t) apart t in
          omega arith

  pub step_or_crossed : (d : ℕ) → g.live d ≡ true → d ≢ 0 → Crossed g ⊎ Step g over
  step_or_crossed d ld nd = elim (find g.count (λ x. over x x)) [
    | inl (h, _, t) ↦ descend (suc (count g.count (over h))) h t (omega arith)
    | inr none ↦ elim (ring_or_step (suc g.count) others d d [] (preds none) refl (λ x i. absurd i) (from d ld nd) (omega arith)) [
      | inl s ↦ inr s
      | inr fr ↦ elim (ring_cases g formed reached fr.ring fr.closed (λ i. (parts 0 (fr.all 0 i)).1 refl) (λ x i. (parts x (fr.all x i)).0)) [
        | inl c ↦ inl c
        | inr found ↦ (let (e, h) = found in absurd (headless none e e (head_loops g fr.ring e e h h.enters.0)))
      ]
    ]
  ]
    where
      others : ℕ → Bool
      others x = g.live x && not (eqb x 0)

      from : (x : ℕ) → g.live x ≡ true → x ≢ 0 → others x ≡ true
      from x l n = and_from (g.live x) _ l (not_from_false (eqb x 0) (ne_eqb x 0 n))

      parts : (x : ℕ) → others x ≡ true → (g.live x ≡ true) × (x ≢ 0)
      parts x t = let (l, n) = and_parts (g.live x) (not (eqb x 0)) t in (l, eqb-false x 0 (not-true (eqb x 0) n))

      headless : ((x : ℕ) → x < g.count → over x x ≡ false) → (h b : ℕ) → Loops g h b → ⊥
      headless none h b l =
          let s = loops_self g h b l in
          both_ways _ (none h (formed.within h (live h h s))) (test.complete h h s)

      preds : ((x : ℕ) → x < g.count → over x x ≡ false) → PredOrStep others
      preds none c i =
          let (l, n) = parts c i in
          elim (pred_or_absorb 0 c l n n (λ k u. absurd (headless none k 0 (test.sound k 0 u)))) [
            | inl s ↦ inl s
            | inr found ↦ (let (p, e, m) = found in inr (p, e, from p (formed.from p c e) m))
          ]
