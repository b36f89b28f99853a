-- Paths and rings of plain graphs.
use Rattle.std.proofs.Common.{◌≡◌, ◌⊎◌, inl, inr, ℕ, Bool, true, false, List, [], ◌∷◌, ◌++◌, sym, refl, subst}
use Rattle.std.proofs.lemmas.Bool.{cases_Bool, both_ways}
use Rattle.dxil_form.specs.Graphs.{Graph, In, Path}
use Rattle.graph_laws.proofs.Finite.{Within}

module _ (g : Graph) where
  -- one path after another
  pub path_append : (a b c : ℕ) (xs ys : List ℕ) → Path g a xs b → Path g b ys c → Path g a (ys ++ xs) c
  path_append a b c xs [] p e = let P : ℕ → Type 0 = λ z. Path g a xs z in subst P e p
  path_append a b c xs (y ∷ ys) p (e, q) = (e, path_append a b y xs ys p q)

  -- the part of a path up to a node of it
  pub path_to : (a b x : ℕ) (xs : List ℕ) → Path g a xs b → In x xs
      → (ys : List ℕ) × Path g a ys x × ((z : ℕ) → In z ys → In z xs)
  path_to a b x [] p i = absurd i
  path_to a b x (y ∷ ys) (e, p) (inl q) =
      (ys, (let P : ℕ → Type 0 = λ z. Path g a ys z in subst P (sym q) p), λ z i. inr i)
  path_to a b x (y ∷ ys) (e, p) (inr i) =
      let (zs, q, s) = path_to a y x ys p i in (zs, q, λ z j. inr (s z j))

  -- the part of a path from a node of it on, of one edge or more
  pub path_from : (a b x : ℕ) (xs : List ℕ) → Path g a xs b → In x xs
      → (ys : List ℕ) × Path g x ys b × ((z : ℕ) → In z ys → In z xs) × In x ys
  path_from a b x [] p i = absurd i
  path_from a b x (y ∷ ys) (e, p) (inl q) = (
    x ∷ [],
    ((let P : ℕ → Type 0 = λ z. g.edge z b ≡ true in subst P (sym q) e), refl),
    (λ z i. elim i [ inl r ↦ inl (let P : ℕ → Type 0 = λ w. z ≡ w in subst P q r) | inr v ↦ absurd v ]),
    inl refl,
  )
  path_from a b x (y ∷ ys) (e, p) (inr i) =
      let (zs, q, s, k) = path_from a y x ys p i in
      (y ∷ zs, (e, q), (λ z j. elim j [ inl r ↦ inl r | inr v ↦ inr (s z v) ]), inr k)

  -- a path begins at its end or at one of its nodes
  pub path_start : (a b : ℕ) (xs : List ℕ) → Path g a xs b → (a ≡ b) ⊎ In a xs
  path_start a b [] p = inl p
  path_start a b (y ∷ ys) (e, p) = inr (path_start a y ys p)

  -- each node of a path has an edge to a node of it or to the end
  pub path_next : (a b x : ℕ) (xs : List ℕ) → Path g a xs b → In x xs
      → (y : ℕ) × (g.edge x y ≡ true) × ((y ≡ b) ⊎ In y xs)
  path_next a b x [] p i = absurd i
  path_next a b x (y ∷ ys) (e, p) (inl q) = (b, (let P : ℕ → Type 0 = λ z. g.edge z b ≡ true in subst P (sym q) e), inl refl)
  path_next a b x (y ∷ ys) (e, p) (inr i) =
      let (z, f, s) = path_next a y x ys p i in (z, f, inr s)

  -- a path that leaves a set has an edge out of it
  pub path_out : (c : ℕ → Bool) (a b : ℕ) (xs : List ℕ) → Path g a xs b → c a ≡ true → c b ≡ false
      → (x : ℕ) × (y : ℕ) × (g.edge x y ≡ true) × (c x ≡ true) × (c y ≡ false)
  path_out c a b [] p s t = absurd (both_ways _ t (let P : ℕ → Type 0 = λ z. c z ≡ true in subst P p s))
  path_out c a b (y ∷ ys) (e, p) s t = elim (cases_Bool (c y)) [
    | inl h ↦ (y, b, e, h, t)
    | inr h ↦ path_out c a y ys p s h
  ]

  -- a node with a path to it inside a set
  abbrev pub Inside : (ℕ → Bool) → ℕ → Type 0
  Inside c b = (xs : List ℕ) × Path g 0 xs b × ((z : ℕ) → In z xs → c z ≡ true)

  pub inside_within : (c d : ℕ → Bool) (b : ℕ) → Within c d → Inside c b → Inside d b
  inside_within c d b w (xs, p, h) = (xs, p, λ z i. w z (h z i))

  pub inside_step : (c : ℕ → Bool) (x y : ℕ) → Inside c x → c x ≡ true → g.edge x y ≡ true → Inside c y
  inside_step c x y (xs, p, h) cx e = (
    x ∷ xs,
    (e, p),
    λ z i. elim i [
      | inl q ↦ (let P : ℕ → Type 0 = λ w. c w ≡ true in subst P (sym q) cx)
      | inr j ↦ h z j
    ],
  )
