-- Neither rewrite makes or hides a crossed ring.
use Rattle.std.proofs.Common.{◌≡◌, ◌≢◌, ◌⊎◌, inl, inr, ℕ, Bool, true, false, cond, not, ◌&&◌, ◌||◌, eqb, List, [], ◌∷◌, ◌++◌, sym, refl, subst, ◌∙◌, eqb-true, eq-eqb, ne_eqb}
use Rattle.std.proofs.lemmas.Bool.{cases_Bool, cases_eq, both_ways, or_from, or_left, or_right, or_cases, or_parts, and_parts, and_from, eqb-false, not-true, not_from_false, cond-true, cond-false}
use Rattle.dxil_form.specs.Graphs.{Graph, In, Path, Ring, Entrance, Crossed, SolePred, folded, absorbed}
use Rattle.graph_laws.specs.Laws.{FoldKeepsCrossed, AbsorbKeepsCrossed}
use Rattle.graph_laws.proofs.Finite.{mem, mem_in, in_mem, in_append, in_left, in_right}
use Rattle.graph_laws.proofs.Paths.{path_append, path_to, path_from, path_start}

-- a path from a to b whose nodes ahead of b pass
abbrev pub Walk : Graph → (ℕ → Bool) → ℕ → ℕ → Type 0
Walk g t a b = (xs : List ℕ) × Path g a xs b × ((z : ℕ) → In z xs → t z ≡ true)

-- the nodes outside a set
abbrev pub outside : (ℕ → Bool) → ℕ → Bool
outside s x = not (s x)

-- two nodes that lead to each other inside a set and are each entered from outside it
pub record Met (g : Graph) (s : ℕ → Bool) (e f : ℕ) : Type 0 where
  pub forth : Walk g s e f
  pub back : Walk g s f e
  pub entered : Walk g (outside s) 0 e
  pub entered_too : Walk g (outside s) 0 f
  pub apart : e ≢ f

abbrev IsMet : Graph → Type 0
IsMet g = (s : ℕ → Bool) × (e : ℕ) × (f : ℕ) × Met g s e f

module _ (g : Graph) where
  pub walk_step : (t : ℕ → Bool) (a x y : ℕ) → Walk g t a x → t x ≡ true → g.edge x y ≡ true → Walk g t a y
  walk_step t a x y (xs, p, h) k e = (
    x ∷ xs,
    (e, p),
    λ z i. elim i [
      | inl q ↦ (let P : ℕ → Type 0 = λ w. t w ≡ true in subst P (sym q) k)
      | inr j ↦ h z j
    ],
  )

  pub walk_append : (t : ℕ → Bool) (a b c : ℕ) → Walk g t a b → Walk g t b c → Walk g t a c
  walk_append t a b c (xs, p, h) (ys, q, k) = (
    ys ++ xs,
    path_append g a b c xs ys p q,
    λ z i. elim (in_append ys xs z i) [
      | inl j ↦ k z j
      | inr j ↦ h z j
    ],
  )

  ring_from_met : (s : ℕ → Bool) (e f : ℕ) → Met g s e f → Crossed g
  ring_from_met s e f m = go m.forth m.back m.entered m.entered_too
    where
      go : Walk g s e f → Walk g s f e → Walk g (outside s) 0 e → Walk g (outside s) 0 f → Crossed g
      go (xs, p, h) (ys, q, k) (us, r, u) (vs, o, v) =
          let ie : In e (ys ++ xs) = elim (path_start g e f xs p) [ inl n ↦ absurd (m.apart n) | inr i ↦ in_right ys xs e i ] in
          let jf : In f (ys ++ xs) = elim (path_start g f e ys q) [ inl n ↦ absurd (m.apart (sym n)) | inr i ↦ in_left ys xs f i ] in
          record {
            ring = ys ++ xs;
            closed = (e, ie, path_append g e f e xs ys p q);
            first = e;
            second = f;
            enters_first = (ie, (us, r, λ z i j. away z (u z i) j));
            enters_second = (jf, (vs, o, λ z i j. away z (v z i) j));
            apart = m.apart;
          }
        where
          away : (z : ℕ) → outside s z ≡ true → In z (ys ++ xs) → ⊥
          away z t i = both_ways _ (not-true (s z) t) (elim (in_append ys xs z i) [ inl j ↦ k z j | inr j ↦ h z j ])

  met_from_ring : Crossed g → IsMet g
  met_from_ring c = go c.closed c.enters_first c.enters_second
    where
      to : (a x : ℕ) → Path g a c.ring a → In x c.ring → Walk g (mem c.ring) a x
      to a x p i = let (ys, q, s) = path_to g a a x c.ring p i in (ys, q, λ z j. in_mem c.ring z (s z j))

      from : (a x : ℕ) → Path g a c.ring a → In x c.ring → Walk g (mem c.ring) x a
      from a x p i = let (ys, q, s, _) = path_from g a a x c.ring p i in (ys, q, λ z j. in_mem c.ring z (s z j))

      out : (x : ℕ) (xs : List ℕ) → Path g 0 xs x → ((z : ℕ) → In z xs → In z c.ring → ⊥) → Walk g (outside (mem c.ring)) 0 x
      out x xs p n = (
        xs,
        p,
        λ z i. elim (cases_Bool (mem c.ring z)) [
          | inl t ↦ absurd (n z i (mem_in c.ring z t))
          | inr f ↦ not_from_false (mem c.ring z) f
        ],
      )

      go : Ring g c.ring → Entrance g c.ring c.first → Entrance g c.ring c.second → IsMet g
      go (a, _, p) (i, (us, r, u)) (j, (vs, o, v)) = (
        mem c.ring,
        c.first,
        c.second,
        record {
          forth = walk_append (mem c.ring) c.first a c.second (from a c.first p i) (to a c.second p j);
          back = walk_append (mem c.ring) c.second a c.first (from a c.second p j) (to a c.first p i);
          entered = out c.first us r u;
          entered_too = out c.second vs o v;
          apart = c.apart;
        },
      )

-- what carries walks from one graph to another
met_along : (g k : Graph) (s : ℕ → Bool) (u : ℕ → Bool) (e f : ℕ)
    → (Walk g s e f → Walk k u e f) → (Walk g s f e → Walk k u f e)
    → (Walk g (outside s) 0 e → Walk k (outside u) 0 e) → (Walk g (outside s) 0 f → Walk k (outside u) 0 f)
    → Met g s e f → Crossed k
met_along g k s u e f a b c d m = ring_from_met k u e f (record {
  forth = a m.forth;
  back = b m.back;
  entered = c m.entered;
  entered_too = d m.entered_too;
  apart = m.apart;
})

module _ (g : Graph) (a : ℕ) where
  pub fold_less : (x y : ℕ) → (folded g a).edge x y ≡ true → g.edge x y ≡ true
  fold_less x y h = (and_parts (g.edge x y) _ h).0

  pub fold_keeps_edge : (x y : ℕ) → x ≢ y → g.edge x y ≡ true → (folded g a).edge x y ≡ true
  fold_keeps_edge x y n e = and_from (g.edge x y) _ e (elim (cases_Bool (eqb x a && eqb y a)) [
    | inl t ↦ (let (p, q) = and_parts (eqb x a) (eqb y a) t in absurd (n (eqb-true x a p ∙ sym (eqb-true y a q))))
    | inr f ↦ not_from_false _ f
  ])

  pub fold_walk : (t : ℕ → Bool) (b c : ℕ) (xs : List ℕ) → Path g b xs c → ((z : ℕ) → In z xs → t z ≡ true) → Walk (folded g a) t b c
  fold_walk t b c [] p h = ([], p, h)
  fold_walk t b c (x ∷ xs) (e, p) h =
      let w = fold_walk t b x xs p (λ z i. h z (inr i)) in
      elim (cases_eq x c) [
        | inl q ↦ (let P : ℕ → Type 0 = λ y. Walk (folded g a) t b y in subst P q w)
        | inr n ↦ walk_step (folded g a) t b x c w (h x (inl refl)) (fold_keeps_edge x c n e)
      ]

  pub unfold_path : (b c : ℕ) (xs : List ℕ) → Path (folded g a) b xs c → Path g b xs c
  unfold_path b c [] p = p
  unfold_path b c (x ∷ xs) (e, p) = (fold_less x c e, unfold_path b x xs p)

  fold_to : Crossed g → Crossed (folded g a)
  fold_to c =
      let (s, e, f, m) = met_from_ring g c in
      let along = λ (t : ℕ → Bool) (b d : ℕ) (w : Walk g t b d). fold_walk t b d w.0 w.1 w.2 in
      met_along g (folded g a) s s e f (along s e f) (along s f e) (along (outside s) 0 e) (along (outside s) 0 f) m

  fold_from : Crossed (folded g a) → Crossed g
  fold_from c =
      let (s, e, f, m) = met_from_ring (folded g a) c in
      met_along (folded g a) g s s e f (along s e f) (along s f e) (along (outside s) 0 e) (along (outside s) 0 f) m
    where
      along : (t : ℕ → Bool) (b d : ℕ) → Walk (folded g a) t b d → Walk g t b d
      along t b d (xs, p, h) = (xs, unfold_path b d xs p, h)

pub fold_keeps : FoldKeepsCrossed
fold_keeps g a = (fold_from g a, fold_to g a)

module _ (g : Graph) (a j : ℕ) (nonzero : j ≢ 0) (pred : SolePred g a j) where
  -- the edges of the absorbed graph
  pub absorbed_edge : (x y : ℕ) → x ≢ j → y ≢ j → (g.edge x y ≡ true) ⊎ ((x ≡ a) × (g.edge j y ≡ true)) → (absorbed g a j).edge x y ≡ true
  absorbed_edge x y n m h = and_from _ _ (not_from_false _ (or_from _ _ (ne_eqb x j n) (ne_eqb y j m)))
      (elim h [
        | inl e ↦ or_left (g.edge x y) _ e
        | inr p ↦ or_right (g.edge x y) _ (and_from (eqb x a) _ (eq-eqb x a p.0) p.1)
      ])

  pub edge_absorbed : (x y : ℕ) → (absorbed g a j).edge x y ≡ true
      → (x ≢ j) × (y ≢ j) × ((g.edge x y ≡ true) ⊎ ((x ≡ a) × (g.edge j y ≡ true)))
  edge_absorbed x y t =
      let (n, h) = and_parts (not (eqb x j || eqb y j)) _ t in
      let (p, q) = or_parts (eqb x j) (eqb y j) (not-true _ n) in (
        eqb-false x j p,
        eqb-false y j q,
        elim (or_cases (g.edge x y) _ h) [
          | inl e ↦ inl e
          | inr e ↦ (let (u, v) = and_parts (eqb x a) _ e in inr (eqb-true x a u, v))
        ],
      )

  -- a walk keeps on without j, and one to j becomes one to a
  pub absorb_walk : (t : ℕ → Bool) (b c : ℕ) (xs : List ℕ) → b ≢ j → Path g b xs c → ((z : ℕ) → In z xs → t z ≡ true)
      → (c ≢ j → Walk (absorbed g a j) t b c) × (c ≡ j → Walk (absorbed g a j) t b a × (t a ≡ true))
  absorb_walk t b c [] n p h = ((λ m. ([], p, h)), λ q. absurd (n (p ∙ q)))
  absorb_walk t b c (x ∷ xs) n (e, p) h =
      let ih = absorb_walk t b x xs n p (λ z i. h z (inr i)) in
      let P : ℕ → Type 0 = λ y. g.edge y c ≡ true in
      let here : t x ≡ true = h x (inl refl) in (
        (λ m. elim (cases_eq x j) [
          | inl q ↦ (let (w, k) = ih.1 q in walk_step (absorbed g a j) t b a c w k (absorbed_edge a c pred.other m (inr (refl, subst P q e))))
          | inr o ↦ walk_step (absorbed g a j) t b x c (ih.0 o) here (absorbed_edge x c o m (inl e))
        ]),
        λ q. let Q : ℕ → Type 0 = λ y. g.edge x y ≡ true in
            let s : x ≡ a = pred.sole x (subst Q q e) in
            let R : ℕ → Type 0 = λ y. Walk (absorbed g a j) t b y × (t y ≡ true) in
            let o : x ≢ j = λ r. pred.other (sym s ∙ r) in
            subst R s (ih.0 o, here),
      )

  -- j is never an entrance
  not_entered : (s : ℕ → Bool) (e f : ℕ) → Walk g s f e → f ≢ e → Walk g (outside s) 0 e → e ≢ j
  not_entered s e f (xs, p, h) n (us, r, u) q = go xs us p h r u
    where
      at : (x : ℕ) → g.edge x e ≡ true → x ≡ a
      at x d = pred.sole x (let P : ℕ → Type 0 = λ y. g.edge x y ≡ true in subst P q d)

      go : (xs us : List ℕ) → Path g f xs e → ((z : ℕ) → In z xs → s z ≡ true) → Path g 0 us e → ((z : ℕ) → In z us → outside s z ≡ true) → ⊥
      go [] us p h r u = n p
      go (x ∷ xs) [] p h r u = nonzero (sym (r ∙ q))
      go (x ∷ xs) (y ∷ us) (d, p) h (k, r) u =
          let P : ℕ → Type 0 = λ w. s w ≡ true in
          both_ways _ (not-true (s y) (u y (inl refl))) (subst P (at x d ∙ sym (at y k)) (h x (inl refl)))

  absorb_to : Crossed g → Crossed (absorbed g a j)
  absorb_to c =
      let (s, e, f, m) = met_from_ring g c in
      let ne = not_entered s e f m.back (λ q. m.apart (sym q)) m.entered in
      let nf = not_entered s f e m.forth m.apart m.entered_too in
      let along = λ (t : ℕ → Bool) (b d : ℕ) (n : b ≢ j) (o : d ≢ j) (w : Walk g t b d). (absorb_walk t b d w.0 n w.1 w.2).0 o in
      let zero_not : 0 ≢ j = λ q. nonzero (sym q) in
      met_along g (absorbed g a j) s s e f (along s e f ne nf) (along s f e nf ne)
      (along (outside s) 0 e zero_not ne) (along (outside s) 0 f zero_not nf) m

  -- a set with j in it exactly where a is
  unfoldable pub joined : (ℕ → Bool) → ℕ → Bool
  joined t x = cond (eqb x j) (t a) (t x)

  pub joined_at : (t : ℕ → Bool) → joined t j ≡ t a
  unfolding joined
  joined_at t = cond-true (eqb j j) _ _ (eq-eqb j j refl)

  pub joined_other : (t : ℕ → Bool) (x : ℕ) → x ≢ j → joined t x ≡ t x
  unfolding joined
  joined_other t x n = cond-false (eqb x j) _ _ (ne_eqb x j n)

  joined_outside : (s : ℕ → Bool) (x : ℕ) → joined (outside s) x ≡ true → outside (joined s) x ≡ true
  unfolding joined
  joined_outside s x = go (eqb x j)
    where
      go : (b : Bool) → cond b (outside s a) (outside s x) ≡ true → not (cond b (s a) (s x)) ≡ true
      go true h = h
      go false h = h

  pub spread_walk : (t : ℕ → Bool) (b c : ℕ) (xs : List ℕ) → Path (absorbed g a j) b xs c → ((z : ℕ) → In z xs → t z ≡ true) → Walk g (joined t) b c
  spread_walk t b c [] p h = ([], p, λ z i. absurd i)
  spread_walk t b c (x ∷ xs) (e, p) h =
      let w = spread_walk t b x xs p (λ z i. h z (inr i)) in
      let (n, m, k) = edge_absorbed x c e in
      let here : joined t x ≡ true = joined_other t x n ∙ h x (inl refl) in
      elim k [
        | inl d ↦ walk_step g (joined t) b x c w here d
        | inr q ↦ (let P : ℕ → Type 0 = λ y. g.edge y j ≡ true in
            let Q : ℕ → Type 0 = λ y. t y ≡ true in
            walk_step g (joined t) b j c (walk_step g (joined t) b x j w here (subst P (sym q.0) pred.edge))
            (joined_at t ∙ subst Q q.0 (h x (inl refl))) q.1)
      ]

  absorb_from : Crossed (absorbed g a j) → Crossed g
  absorb_from c =
      let (s, e, f, m) = met_from_ring (absorbed g a j) c in
      let along = λ (t : ℕ → Bool) (b d : ℕ) (w : Walk (absorbed g a j) t b d). spread_walk t b d w.0 w.1 w.2 in
      met_along (absorbed g a j) g s (joined s) e f (along s e f) (along s f e) (out s e) (out s f) m
    where
      outer : (s : ℕ → Bool) (d : ℕ) → Walk g (joined (outside s)) 0 d → Walk g (outside (joined s)) 0 d
      outer s d (xs, p, h) = (xs, p, λ z i. joined_outside s z (h z i))

      out : (s : ℕ → Bool) (d : ℕ) → Walk (absorbed g a j) (outside s) 0 d → Walk g (outside (joined s)) 0 d
      out s d (xs, p, h) = outer s d (spread_walk (outside s) 0 d xs p h)

pub absorb_keeps : AbsorbKeepsCrossed
absorb_keeps g a j n p = (absorb_from g a j n p, absorb_to g a j n p)
