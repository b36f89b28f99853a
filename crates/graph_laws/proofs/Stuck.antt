-- A graph on which neither rewrite applies has a crossed ring.
use Rattle.std.proofs.Common.{◌≡◌, ◌≢◌, ◌⊎◌, inl, inr, ℕ, zero, suc, ◌+◌, ◌<◌, Bool, true, false, not, ◌&&◌, ◌||◌, eqb, List, [], ◌∷◌, ◌++◌, sym, refl, subst, arith, eqb-true, eq-eqb, ne_eqb}
use Rattle.std.proofs.lemmas.Bool.{cases_Bool, cases_eq, both_ways, or_left, or_right, or_cases, and_parts, and_from, eqb-false, not-true, not-false, not_from_true, not_from_false}
use Rattle.dxil_form.specs.Graphs.{Graph, IsFormed, In, Path, AllReached, Ring, Entrance, Crossed}
use Rattle.graph_laws.specs.Laws.{IsStuck, StuckIsCrossed}
use Rattle.graph_laws.proofs.Finite.{find, find_pair, count, count_at_most, count_more, Within, mem, mem_in, in_mem, not_mem, in_append, in_left, in_right}
use Rattle.graph_laws.proofs.Paths.{path_append, path_to, path_start, path_next, path_out, Inside, inside_within, inside_step}

-- a set with one more node
unfoldable pub with : (ℕ → Bool) → ℕ → ℕ → Bool
with c y x = c x || eqb x y

pub within_with : (c : ℕ → Bool) (y : ℕ) → Within c (with c y)
unfolding with
within_with c y x h = or_left (c x) (eqb x y) h

pub at_with : (c : ℕ → Bool) (y : ℕ) → with c y y ≡ true
unfolding with
at_with c y = or_right (c y) (eqb y y) (eq-eqb y y refl)

pub with_cases : (c : ℕ → Bool) (x y : ℕ) → with c y x ≡ true → (c x ≡ true) ⊎ (x ≡ y)
unfolding with
with_cases c x y h = elim (or_cases (c x) (eqb x y) h) [ inl e ↦ inl e | inr e ↦ inr (eqb-true x y e) ]

module _ (g : Graph) (formed : IsFormed g) (reached : AllReached g) where
  pub edge_in : (x y : ℕ) → g.edge x y ≡ true → (x < g.count) × (y < g.count)
  edge_in x y e = (formed.within x (formed.from x y e), formed.within y (formed.to x y e))

  -- no edge between nodes that pass
  pub no_edge : (p : ℕ → ℕ → Bool) → ((x y : ℕ) → x < g.count → y < g.count → p x y ≡ false)
      → (x y : ℕ) → g.edge x y ≡ true → p x y ≡ false
  no_edge p h x y e = let (l, k) = edge_in x y e in h x y l k

  -- what the growth of a set up to another gives
  pub record Grown (c r : ℕ → Bool) : Type 0 where
    pub set : ℕ → Bool
    pub more : Within c set
    pub apart : (x : ℕ) → set x ≡ true → r x ≡ false
    pub inside : (x : ℕ) → set x ≡ true → Inside g set x
    pub closed : (x y : ℕ) → set x ≡ true → g.edge x y ≡ true → r y ≡ false → set y ≡ true

  pub and4 : (a b c d : Bool) → (a && (b && (not c && not d))) ≡ true
      → (a ≡ true) × (b ≡ true) × (c ≡ false) × (d ≡ false)
  and4 a b c d h =
      let (x, h') = and_parts a (b && (not c && not d)) h in
      let (y, h'') = and_parts b (not c && not d) h' in
      let (z, w) = and_parts (not c) (not d) h'' in
      (x, y, not-true c z, not-true d w)

  pub and4_from : (a b c d : Bool) → a ≡ true → b ≡ true → c ≡ false → d ≡ false → (a && (b && (not c && not d))) ≡ true
  and4_from a b c d h k l m = and_from a _ h (and_from b _ k (and_from (not c) (not d) (not_from_false c l) (not_from_false d m)))

  -- an edge from one set that leaves it and keeps out of another
  abbrev pub leaves : (ℕ → Bool) → (ℕ → Bool) → ℕ → ℕ → Bool
  leaves c r x y = c x && (g.edge x y && (not (c y) && not (r y)))

  abbrev pub Next : (ℕ → Bool) → (ℕ → Bool) → ℕ → ℕ → Type 0
  Next c r k y = g.count < k + count g.count (with c y)
      → ((x : ℕ) → with c y x ≡ true → r x ≡ false) → ((x : ℕ) → with c y x ≡ true → Inside g (with c y) x) → Grown (with c y) r

  pub grow : (fuel : ℕ) (c r : ℕ → Bool) → g.count < fuel + count g.count c
      → ((x : ℕ) → c x ≡ true → r x ≡ false) → ((x : ℕ) → c x ≡ true → Inside g c x) → Grown c r
  grow zero c r f apart inside = absurd (let h = count_at_most g.count c in omega arith)
  grow (suc k) c r f apart inside = go (find_pair g.count g.count (leaves c r)) (λ y. grow k (with c y) r)
    where
      wider : (y : ℕ) → Grown (with c y) r → Grown c r
      wider y w = record {
        set = w.set;
        more = λ x h. w.more x (within_with c y x h);
        apart = w.apart;
        inside = w.inside;
        closed = w.closed;
      }

      go : (((x : ℕ) × (y : ℕ) × (x < g.count) × (y < g.count) × (leaves c r x y ≡ true))
          ⊎ ((x y : ℕ) → x < g.count → y < g.count → leaves c r x y ≡ false)) → ((y : ℕ) → Next c r k y) → Grown c r
      go (inr none) next = record {
        set = c;
        more = λ x h. h;
        apart = apart;
        inside = inside;
        closed = λ x y cx e ry. elim (cases_Bool (c y)) [
          | inl t ↦ t
          | inr n ↦ absurd (both_ways _ (no_edge (leaves c r) none x y e) (and4_from _ _ _ _ cx e n ry))
        ];
      }
      go (inl (x, y, l, m, t)) next =
          let (cx, e, cy, ry) = and4 _ _ _ _ t in
          let step = within_with c y in
          wider y (next y
          (let h = count_more g.count c (with c y) step y m cy (at_with c y) in omega arith)
          (λ z h. elim (with_cases c z y h) [ inl i ↦ apart z i | inr q ↦ let P : ℕ → Type 0 = λ w. r w ≡ false in subst P (sym q) ry ])
          (λ z h. inside_within g c (with c y) z step (elim (with_cases c z y h) [
            | inl i ↦ inside z i
            | inr q ↦ let P : ℕ → Type 0 = λ w. Inside g c w in subst P (sym q) (inside_step g c x y (inside x cx) cx e)
          ])))

  -- a ring inside a set
  pub record RingIn (d : ℕ → Bool) : Type 0 where
    pub ring : List ℕ
    pub closed : Ring g ring
    pub all : (x : ℕ) → In x ring → d x ≡ true

  -- each node of d has a predecessor in d
  abbrev pub HasPred : (ℕ → Bool) → Type 0
  HasPred d = (j : ℕ) → d j ≡ true → (r : ℕ) × (g.edge r j ≡ true) × (d r ≡ true)

  pub find_ring : (fuel : ℕ) (d : ℕ → Bool) (b c : ℕ) (ps : List ℕ) → HasPred d → Path g c ps b
      → ((x : ℕ) → In x ps → d x ≡ true) → d c ≡ true → g.count < fuel + count g.count (mem ps) → RingIn d
  find_ring zero d b c ps pred p all dc f = absurd (let h = count_at_most g.count (mem ps) in omega arith)
  find_ring (suc k) d b c ps pred p all dc f =
      let (r, e, dr) = pred c dc in
      elim (cases_Bool (mem ps r)) [
        | inl t ↦ closes r e dr (mem_in ps r t)
        | inr n ↦ find_ring k d b r (ps ++ r ∷ []) pred (path_append g r c b (r ∷ []) ps (e, refl) p)
            (more ps r dr all) dr
            (let (l, _) = edge_in r c e in
            let h = count_more g.count (mem ps) (mem (ps ++ r ∷ [])) (λ x i. in_mem (ps ++ r ∷ []) x (in_left ps (r ∷ []) x (mem_in ps x i)))
            r l n (in_mem (ps ++ r ∷ []) r (in_right ps (r ∷ []) r (inl refl))) in omega arith)
      ]
    where
      more : (qs : List ℕ) (r : ℕ) → d r ≡ true → ((x : ℕ) → In x qs → d x ≡ true) → (x : ℕ) → In x (qs ++ r ∷ []) → d x ≡ true
      more qs r dr h x i = elim (in_append qs (r ∷ []) x i) [
        | inl j ↦ h x j
        | inr j ↦ elim j [ inl q ↦ (let P : ℕ → Type 0 = λ w. d w ≡ true in subst P (sym q) dr) | inr v ↦ absurd v ]
      ]

      closes : (r : ℕ) → g.edge r c ≡ true → d r ≡ true → In r ps → RingIn d
      closes r e dr i =
          let (qs, q, s) = path_to g c b r ps p i in
          record {
            ring = qs ++ r ∷ [];
            closed = (r, in_right qs (r ∷ []) r (inl refl), path_append g r c r (r ∷ []) qs (e, refl) q);
            all = more qs r dr (λ x j. all x (s x j));
          }

  -- a set that paths from 0 leave by h alone, with a node beyond h
  record Leaving (c : ℕ → Bool) (h : ℕ) : Type 0 where
    live : g.live h ≡ true
    out : c h ≡ false
    entered : Inside g c h
    inside : (x : ℕ) → c x ≡ true → Inside g c x
    closed : (x y : ℕ) → c x ≡ true → g.edge x y ≡ true → y ≢ h → c y ≡ true
    rest : ℕ
    rest_live : g.live rest ≡ true
    rest_out : c rest ≡ false
    rest_other : rest ≢ h

  -- the nodes beyond h
  unfoldable beyond : (ℕ → Bool) → ℕ → ℕ → Bool
  beyond c h x = g.live x && (not (c x) && not (eqb x h))

  beyond_parts : (c : ℕ → Bool) (h x : ℕ) → beyond c h x ≡ true → (g.live x ≡ true) × (c x ≡ false) × (x ≢ h)
  unfolding beyond
  beyond_parts c h x t =
      let (l, t') = and_parts (g.live x) (not (c x) && not (eqb x h)) t in
      let (o, n) = and_parts (not (c x)) (not (eqb x h)) t' in
      (l, not-true (c x) o, eqb-false x h (not-true (eqb x h) n))

  beyond_from : (c : ℕ → Bool) (h x : ℕ) → g.live x ≡ true → c x ≡ false → x ≢ h → beyond c h x ≡ true
  unfolding beyond
  beyond_from c h x l o n = and_from (g.live x) _ l (and_from (not (c x)) (not (eqb x h)) (not_from_false (c x) o) (not_from_false (eqb x h) (ne_eqb x h n)))

  -- two different predecessors
  record TwoPreds (j : ℕ) : Type 0 where
    one : ℕ
    two : ℕ
    edge_one : g.edge one j ≡ true
    edge_two : g.edge two j ≡ true
    apart : two ≢ one

  some_pred : (j : ℕ) (before : List ℕ) → Path g 0 before j → j ≢ 0 → (p : ℕ) × (g.edge p j ≡ true)
  some_pred j [] e n = absurd (n (sym e))
  some_pred j (p ∷ before) (e, _) n = (p, e)

  two_preds : IsStuck g → (j : ℕ) → g.live j ≡ true → j ≢ 0 → TwoPreds j
  two_preds stuck j l n =
      let (before, path) = reached j l in
      let (p, e) = some_pred j before path n in
      elim (find g.count (λ x. g.edge x j && not (eqb x p))) [
        | inl (x, _, t) ↦ (let (f, m) = and_parts (g.edge x j) (not (eqb x p)) t in
            record { one = p; two = x; edge_one = e; edge_two = f; apart = eqb-false x p (not-true (eqb x p) m) })
        | inr none ↦ absurd (stuck.no_absorb p j n (record {
          edge = e;
          other = λ q. stuck.no_fold j (let P : ℕ → Type 0 = λ w. g.edge w j ≡ true in subst P q e);
          sole = λ x f. elim (cases_eq x p) [
            | inl q ↦ q
            | inr m ↦ absurd (both_ways _ (none x (edge_in x j f).0)
                (and_from (g.edge x j) _ f (not_from_false (eqb x p) (ne_eqb x p m))))
          ];
        }))
      ]

  pred_beyond : IsStuck g → (c : ℕ → Bool) (h : ℕ) → Leaving c h → HasPred (beyond c h)
  pred_beyond stuck c h s j d =
      let (l, o, n) = beyond_parts c h j d in
      let two = two_preds stuck j l (not_zero l o n) in
      elim (cases_eq two.one h) [
        | inl q ↦ (two.two, two.edge_two, keep two.two o n two.edge_two (λ e. two.apart (let P : ℕ → Type 0 = λ w. two.two ≡ w in subst P (sym q) e)))
        | inr m ↦ (two.one, two.edge_one, keep two.one o n two.edge_one m)
      ]
    where
      not_zero : g.live j ≡ true → c j ≡ false → j ≢ h → j ≢ 0
      not_zero l o n z =
          let (xs, p, all) = s.entered in
          elim (path_start g 0 h xs p) [
            | inl q ↦ n (let P : ℕ → Type 0 = λ w. w ≡ h in subst P (sym z) q)
            | inr i ↦ both_ways _ o (let P : ℕ → Type 0 = λ w. c w ≡ true in subst P (sym z) (all 0 i))
          ]

      keep : (r : ℕ) → c j ≡ false → j ≢ h → g.edge r j ≡ true → r ≢ h → beyond c h r ≡ true
      keep r o n e m = beyond_from c h r (formed.from r j e) (elim (cases_Bool (c r)) [
        | inl t ↦ absurd (both_ways _ o (s.closed r j t e n))
        | inr f ↦ f
      ]) m

  -- what is known once a ring beyond h is found and the set has grown up to it
  module _ (stuck : IsStuck g) (c : ℕ → Bool) (h : ℕ) (s : Leaving c h) (fr : RingIn (beyond c h)) (gr : Grown (with c h) (mem fr.ring)) where
    parts : (x : ℕ) → In x fr.ring → (g.live x ≡ true) × (c x ≡ false) × (x ≢ h)
    parts x i = beyond_parts c h x (fr.all x i)

    ring_out : (x : ℕ) → In x fr.ring → gr.set x ≡ false
    ring_out x i = elim (cases_Bool (gr.set x)) [
      | inl t ↦ absurd (not_mem fr.ring x (gr.apart x t) i)
      | inr f ↦ f
    ]

    zero_in : gr.set 0 ≡ true
    zero_in =
        let (xs, p, all) = s.entered in
        elim (path_start g 0 h xs p) [
          | inl q ↦ gr.more 0 (let P : ℕ → Type 0 = λ w. with c h w ≡ true in subst P (sym q) (at_with c h))
          | inr i ↦ gr.more 0 (within_with c h 0 (all 0 i))
        ]

    into : (x y : ℕ) → gr.set x ≡ true → g.edge x y ≡ true → gr.set y ≡ false → In y fr.ring
    into x y t e f = elim (cases_Bool (mem fr.ring y)) [
      | inl m ↦ mem_in fr.ring y m
      | inr n ↦ absurd (both_ways _ f (gr.closed x y t e n))
    ]

    enters : (x y : ℕ) → gr.set x ≡ true → g.edge x y ≡ true → In y fr.ring → Entrance g fr.ring y
    enters x y t e i =
        let (xs, p, all) = inside_step g gr.set x y (gr.inside x t) t e in
        (i, (xs, p, λ z j k. not_mem fr.ring z (gr.apart z (all z j)) k))

    entrance : (x : ℕ) × (y : ℕ) × (g.edge x y ≡ true) × (gr.set x ≡ true) × (gr.set y ≡ false)
    entrance =
        let (a, i, _) = fr.closed in
        let (before, path) = reached a (parts a i).0 in
        path_out g gr.set 0 a before path zero_in (ring_out a i)

    -- an edge from the set to a node of the ring other than y
    abbrev elsewhere : ℕ → ℕ → ℕ → Bool
    elsewhere y u v = gr.set u && (g.edge u v && (not (not (mem fr.ring v)) && not (eqb v y)))

    -- the set leaves by the only entrance y
    leaving : (x y : ℕ) → g.edge x y ≡ true → gr.set x ≡ true → gr.set y ≡ false
        → ((u v : ℕ) → u < g.count → v < g.count → elsewhere y u v ≡ false) → Leaving gr.set y
    leaving x y e t f none =
        let (a, ia, pa) = fr.closed in
        let iy = into x y t e f in
        let (r, er, ir) = path_next g a a y fr.ring pa iy in
        let in_ring : In r fr.ring = elim ir [ inl q ↦ (let P : ℕ → Type 0 = λ w. In w fr.ring in subst P (sym q) ia) | inr j ↦ j ] in
        record {
          live = formed.to x y e;
          out = f;
          entered = inside_step g gr.set x y (gr.inside x t) t e;
          inside = gr.inside;
          closed = λ u v cu d n. elim (cases_Bool (mem fr.ring v)) [
            | inl m ↦ absurd (both_ways _ (no_edge (elsewhere y) none u v d)
                (and4_from _ _ _ _ cu d (not_from_true (mem fr.ring v) m) (ne_eqb v y n)))
            | inr m ↦ gr.closed u v cu d m
          ];
          rest = r;
          rest_live = (parts r in_ring).0;
          rest_out = ring_out r in_ring;
          rest_other = λ q. stuck.no_fold y (let P : ℕ → Type 0 = λ w. g.edge y w ≡ true in subst P q er);
        }

  grow_up_to : (c : ℕ → Bool) (h : ℕ) → Leaving c h → (fr : RingIn (beyond c h)) → Grown (with c h) (mem fr.ring)
  grow_up_to c h s fr = grow (suc g.count) (with c h) (mem fr.ring) (omega arith) clear inside
    where
      clear : (x : ℕ) → with c h x ≡ true → mem fr.ring x ≡ false
      clear x t = elim (cases_Bool (mem fr.ring x)) [
        | inl m ↦ (let (_, o, n) = beyond_parts c h x (fr.all x (mem_in fr.ring x m)) in
            absurd (elim (with_cases c x h t) [ inl e ↦ both_ways _ o e | inr q ↦ n q ]))
        | inr n ↦ n
      ]

      inside : (x : ℕ) → with c h x ≡ true → Inside g (with c h) x
      inside x t = inside_within g c (with c h) x (within_with c h) (elim (with_cases c x h t) [
        | inl i ↦ s.inside x i
        | inr q ↦ let P : ℕ → Type 0 = λ w. Inside g c w in subst P (sym q) s.entered
      ])

  -- either the ring has a second entrance, or the set has grown
  solve : IsStuck g → (fuel : ℕ) (c : ℕ → Bool) (h : ℕ) → Leaving c h → g.count < fuel + count g.count c → Crossed g
  solve stuck zero c h s f = absurd (let k = count_at_most g.count c in omega arith)
  solve stuck (suc k) c h s f =
      let fr = find_ring (suc g.count) (beyond c h) s.rest s.rest [] (pred_beyond stuck c h s) refl (λ x i. absurd i)
      (beyond_from c h s.rest s.rest_live s.rest_out s.rest_other) (omega arith) in
      let gr = grow_up_to c h s fr in
      let (x, y, e, t, o) = entrance stuck c h s fr gr in
      elim (find_pair g.count g.count (elsewhere stuck c h s fr gr y)) [
        | inl (u, v, _, _, w) ↦ two fr gr x y e t o u v w
        | inr none ↦ solve stuck k gr.set y (leaving stuck c h s fr gr x y e t o none)
            (let l = count_more g.count c gr.set (λ z i. gr.more z (within_with c h z i)) h (formed.within h s.live) s.out (gr.more h (at_with c h)) in
            omega arith)
      ]
    where
      two : (fr : RingIn (beyond c h)) (gr : Grown (with c h) (mem fr.ring)) (x y : ℕ) → g.edge x y ≡ true → gr.set x ≡ true → gr.set y ≡ false
          → (u v : ℕ) → elsewhere stuck c h s fr gr y u v ≡ true → Crossed g
      two fr gr x y e t o u v w =
          let (cu, d, m, n) = and4 _ _ _ _ w in
          record {
            ring = fr.ring;
            closed = fr.closed;
            first = y;
            second = v;
            enters_first = enters stuck c h s fr gr x y t e (into stuck c h s fr gr x y t e o);
            enters_second = enters stuck c h s fr gr u v cu d (mem_in fr.ring v (not-false (mem fr.ring v) m));
            apart = λ q. eqb-false v y n (sym q);
          }

pub stuck_is_crossed : StuckIsCrossed
stuck_is_crossed g formed reached d live other stuck =
    solve g formed reached stuck (suc g.count) (λ x. false) 0 (record {
      live = formed.entry;
      out = refl;
      entered = ([], refl, λ z i. absurd i);
      inside = λ x h. absurd (both_ways _ refl h);
      closed = λ x y h. absurd (both_ways _ refl h);
      rest = d;
      rest_live = live;
      rest_out = refl;
      rest_other = other;
    }) (omega arith)
