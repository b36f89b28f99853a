-- Reading a list that has one item more, and a list of pairs by its parts.
use Rattle.std.proofs.Common.{◌≡◌, ◌⊎◌, inl, inr, ℕ, zero, suc, ◌<◌, List, [], ◌∷◌, ◌++◌, length, Some, refl, sym, ap, ◌∙◌, arith}
use Rattle.std.proofs.lemmas.Option.{none-some, same_Some, slice_get_within, slice_get-get_or, get_or_from_slice_get}
use Rattle.std.specs.List.{slice_get, Contains}

module _ {A : Type 0} where
  pub front : (xs ys : List A) (r : ℕ) (y : A) → slice_get xs r ≡ Some y → slice_get (xs ++ ys) r ≡ Some y
  front [] ys r y h = absurd (none-some y h)
  front (x ∷ xs) ys zero y h = h
  front (x ∷ xs) ys (suc r) y h = front xs ys r y h

  pub last : (xs : List A) (y : A) → slice_get (xs ++ y ∷ []) (length xs) ≡ Some y
  last [] y = refl
  last (x ∷ xs) y = last xs y

  pub cases_last : (xs : List A) (y : A) (r : ℕ) (z : A) → slice_get (xs ++ y ∷ []) r ≡ Some z
      → (slice_get xs r ≡ Some z) ⊎ ((r ≡ length xs) × (y ≡ z))
  cases_last [] y zero z h = inr (refl, same_Some y z h)
  cases_last [] y (suc r) z h = absurd (none-some z h)
  cases_last (x ∷ xs) y zero z h = inl h
  cases_last (x ∷ xs) y (suc r) z h = elim (cases_last xs y r z h) [ inl k ↦ inl k | inr (q, o) ↦ inr (ap suc q, o) ]

  pub inside : (xs : List A) (y : A) (r : ℕ) (z : A) → r < length xs → slice_get (xs ++ y ∷ []) r ≡ Some z → slice_get xs r ≡ Some z
  inside xs y r z l h = elim (cases_last xs y r z h) [ inl k ↦ k | inr (q, o) ↦ absurd (omega arith) ]

  pub same_place : (xs : List A) (r : ℕ) (y z : A) → slice_get xs r ≡ Some y → slice_get xs r ≡ Some z → y ≡ z
  same_place xs r y z h k = same_Some y z (sym h ∙ k)

  pub has_get : (xs : List A) (i : ℕ) (x : A) → slice_get xs i ≡ Some x → Contains xs x
  has_get xs i x h = (i, slice_get_within xs i x h, get_or_from_slice_get xs i x x h)

  pub get_has : (xs : List A) (x : A) → Contains xs x → (i : ℕ) × (slice_get xs i ≡ Some x)
  get_has xs x (i, l, q) = (i, slice_get-get_or xs i x l ∙ ap Some q)
