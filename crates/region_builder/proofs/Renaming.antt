-- Rings, entrances and heads of a graph whose nodes are given other names.
use Rattle.std.proofs.Common.{◌≡◌, inl, inr, ℕ, ◌<◌, true, List, [], ◌∷◌, map, refl, sym, ap, subst, ◌∙◌}
use Rattle.dxil_form.specs.Graphs.{Graph, In, Path, Ring, Entrance, Crossed, HasHead, IsHeadOver}

in_up : (f : ℕ → ℕ) (x : ℕ) (nodes : List ℕ) → In x nodes → In (f x) (map f nodes)
in_up f x [] i = absurd i
in_up f x (y ∷ nodes) (inl q) = inl (ap f q)
in_up f x (y ∷ nodes) (inr i) = inr (in_up f x nodes i)

in_map : (f : ℕ → ℕ) (x : ℕ) (nodes : List ℕ) → In x (map f nodes) → (y : ℕ) × In y nodes × (x ≡ f y)
in_map f x [] i = absurd i
in_map f x (y ∷ nodes) (inl q) = (y, inl refl, q)
in_map f x (y ∷ nodes) (inr i) = let (z, j, q) = in_map f x nodes i in (z, inr j, q)

module _ (n : ℕ) (f : ℕ → ℕ) (old new : Graph) (inside : (i j : ℕ) → old.edge i j ≡ true → (i < n) × (j < n))
    (up : (i j : ℕ) → old.edge i j ≡ true → new.edge (f i) (f j) ≡ true)
    (down : (x y : ℕ) → new.edge x y ≡ true → (i : ℕ) × (j : ℕ) × (f i ≡ x) × (f j ≡ y) × (old.edge i j ≡ true))
    (apart : (i j : ℕ) → i < n → j < n → f i ≡ f j → i ≡ j) (zero_is : f 0 ≡ 0) (some : 0 < n) where
  path_up : (a b : ℕ) (nodes : List ℕ) → Path old a nodes b → Path new (f a) (map f nodes) (f b)
  path_up a b [] q = ap f q
  path_up a b (c ∷ nodes) (e, w) = (up c b e, path_up a c nodes w)

  nodes_below : (a b : ℕ) (nodes : List ℕ) → Path old a nodes b → (x : ℕ) → In x nodes → x < n
  nodes_below a b [] w x i = absurd i
  nodes_below a b (c ∷ nodes) (e, w) x (inl q) = let P : ℕ → Type 0 = λ z. z < n in subst P (sym q) (inside c b e).0
  nodes_below a b (c ∷ nodes) (e, w) x (inr i) = nodes_below a c nodes w x i

  path_down : (x b : ℕ) (ys : List ℕ) → b < n → Path new x ys (f b) → (a : ℕ) × (nodes : List ℕ) × (a < n) × (f a ≡ x) × Path old a nodes b × (ys ≡ map f nodes)
  path_down x b [] l q = (b, [], l, sym q, refl, refl)
  path_down x b (c ∷ ys) l (e, w) =
      let (i, j, p, q, d) = down c (f b) e in
      let (li, lj) = inside i j d in
      let same : j ≡ b = apart j b lj l q in
      let P : ℕ → Type 0 = λ z. Path new x ys z in
      let Q : ℕ → Type 0 = λ z. old.edge i z ≡ true in
      let (a, nodes, la, fa, v, z) = path_down x i ys li (subst P (sym p) w) in
      (a, i ∷ nodes, la, fa, (subst Q same d, v), ap (λ (h : ℕ). h ∷ ys) (sym p) ∙ ap (λ (t : List ℕ). f i ∷ t) z)

  in_down : (x : ℕ) (nodes : List ℕ) → x < n → ((y : ℕ) → In y nodes → y < n) → In (f x) (map f nodes) → In x nodes
  in_down x nodes l below i =
      let (y, j, q) = in_map f (f x) nodes i in
      let P : ℕ → Type 0 = λ z. In z nodes in subst P (sym (apart x y l (below y j) q)) j

  -- a ring's nodes are below
  ring_below : (r : List ℕ) → Ring old r → (x : ℕ) → In x r → x < n
  ring_below r (a, i, w) x j = nodes_below a a r w x j

  ring_up : (r : List ℕ) → Ring old r → Ring new (map f r)
  ring_up r (a, i, w) = (f a, in_up f a r i, path_up a a r w)

  entrance_up : (r : List ℕ) → Ring old r → (e : ℕ) → Entrance old r e → Entrance new (map f r) (f e)
  entrance_up r closed e (i, (before, w, avoids)) =
      let P : ℕ → Type 0 = λ z. Path new z (map f before) (f e) in (
        in_up f e r i,
        (
          map f before,
          subst P zero_is (path_up 0 e before w),
          λ x j k. (
              let (y, u, q) = in_map f x before j in
              let Q : ℕ → Type 0 = λ z. In z (map f r) in
              avoids y u (in_down y r (nodes_below 0 e before w y u) (ring_below r closed) (subst Q q k))),
        ),
      )

  entrance_down : (r : List ℕ) → Ring old r → (x : ℕ) → Entrance new (map f r) x → (e : ℕ) × (f e ≡ x) × Entrance old r e
  entrance_down r closed x (i, (before, w, avoids)) =
      let (e, j, q) = in_map f x r i in
      let P : ℕ → Type 0 = λ z. Path new 0 before z in
      let (a, nodes, la, fa, v, z) = path_down 0 e before (ring_below r closed e j) (subst P q w) in
      let same : a ≡ 0 = apart a 0 la some (fa ∙ sym zero_is) in
      let Q : ℕ → Type 0 = λ y. Path old y nodes e in
      (e, sym q, (j, (nodes, subst Q same v, λ y k m. avoids (f y) (let S : List ℕ → Type 0 = λ l. In (f y) l in subst S (sym z) (in_up f y nodes k)) (in_up f y r m))))

  head_up : (r : List ℕ) (h : ℕ) → HasHead old r h → HasHead new (map f r) (f h)
  head_up r h k = record {
    closed = ring_up r k.closed;
    enters = entrance_up r k.closed h k.enters;
    sole = λ x e. (let (y, q, en) = entrance_down r k.closed x e in sym q ∙ ap f (k.sole y en));
  }

  pub over_up : (h b : ℕ) → IsHeadOver old h b → IsHeadOver new (f h) (f b)
  over_up h b (r, k, i) = (map f r, head_up r h k, in_up f b r i)

  -- a ring of the new names is one of the old ones
  ring_down : (r : List ℕ) → Ring new r → (nodes : List ℕ) × (r ≡ map f nodes) × Ring old nodes
  ring_down [] (x, i, w) = absurd i
  ring_down (c ∷ ys) (x, i, (e, w)) =
      let (_, b, _, q, d) = down c x e in
      let lb = (inside _ b d).1 in
      let P : ℕ → Type 0 = λ z. Path new x (c ∷ ys) z in
      let (a, nodes, la, fa, v, z) = path_down x b (c ∷ ys) lb (subst P (sym q) (e, w)) in
      let same : a ≡ b = apart a b la lb (fa ∙ sym q) in
      let Q : ℕ → Type 0 = λ y. Path old y nodes b in
      let closed : Path old b nodes b = subst Q same v in
      let S : List ℕ → Type 0 = λ l. In x l in
      let R : ℕ → Type 0 = λ y. In y (map f nodes) in
      (nodes, z, (b, in_down b nodes lb (nodes_below b b nodes closed) (subst R (sym q) (subst S z i)), closed))

  pub over_down : (x y : ℕ) → IsHeadOver new x y → (h : ℕ) × (b : ℕ) × (f h ≡ x) × (f b ≡ y) × IsHeadOver old h b
  over_down x y (r, k, i) =
      let (nodes, z, closed) = ring_down r k.closed in
      let P : List ℕ → Type 0 = λ l. Entrance new l x in
      let Q : List ℕ → Type 0 = λ l. In y l in
      let (h, q, enters) = entrance_down nodes closed x (subst P z k.enters) in
      let (b, j, o) = in_map f y nodes (subst Q z i) in (
        h,
        b,
        q,
        sym o,
        (
          nodes,
          record {
            closed = closed;
            enters = enters;
            sole = λ e en. (
                let R : List ℕ → Type 0 = λ l. Entrance new l (f e) in
                apart e h (ring_below nodes closed e en.0) (ring_below nodes closed h enters.0) (k.sole (f e) (subst R (sym z) (entrance_up nodes closed e en)) ∙ sym q));
          },
          j,
        ),
      )

  pub crossed_up : Crossed old → Crossed new
  crossed_up k = record {
    ring = map f k.ring;
    closed = ring_up k.ring k.closed;
    first = f k.first;
    second = f k.second;
    enters_first = entrance_up k.ring k.closed k.first k.enters_first;
    enters_second = entrance_up k.ring k.closed k.second k.enters_second;
    apart = λ q. k.apart (apart k.first k.second (ring_below k.ring k.closed k.first k.enters_first.0) (ring_below k.ring k.closed k.second k.enters_second.0) q);
  }

  pub crossed_down : Crossed new → Crossed old
  crossed_down k =
      let (nodes, z, closed) = ring_down k.ring k.closed in
      let P : List ℕ → Type 0 = λ l. Entrance new l k.first in
      let Q : List ℕ → Type 0 = λ l. Entrance new l k.second in
      let (x, p, ex) = entrance_down nodes closed k.first (subst P z k.enters_first) in
      let (y, q, ey) = entrance_down nodes closed k.second (subst Q z k.enters_second) in record {
        ring = nodes;
        closed = closed;
        first = x;
        second = y;
        enters_first = ex;
        enters_second = ey;
        apart = λ o. k.apart (sym p ∙ ap f o ∙ q);
      }
