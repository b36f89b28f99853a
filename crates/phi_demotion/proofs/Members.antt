-- Members of lists.
use Rattle.std.proofs.Common.{◌≡◌, ℕ, zero, suc, ◌+◌, ◌<◌, Bool, true, false, ◌||◌, ◌⊎◌, inl, inr, List, [], ◌∷◌, ◌++◌, length, map, take, get_or, Some, None, refl, ap, sym, ◌∙◌, subst, arith}
use Rattle.std.specs.Prelude.{slice_get, Contains}
use Rattle.std.specs.List.{flat_map, list_any}
use Rattle.std.proofs.lemmas.Option.{slice_get-get_or, slice_get_within, get_or_from_slice_get}

-- x is one of the list
pub data In {X : Type 0} (x : X) : List X → Type 0 where
  here : {xs : List X} → In x (x ∷ xs)
  there : {y : X} {xs : List X} → In x xs → In x (y ∷ xs)

pub in_get : {X : Type 0} (xs : List X) (k : ℕ) (x : X) → slice_get xs k ≡ Some x → In x xs
in_get [] k x e = absurd (cc)
in_get (y ∷ xs) zero x e = let same : y ≡ x = cc in subst (λ z. In x (z ∷ xs)) (sym same) here
in_get (y ∷ xs) (suc k) x e = there (in_get xs k x e)

-- a place of the list where x stands
pub record Place {X : Type 0} (x : X) (xs : List X) : Type 0 where
  pub at : ℕ
  pub is : slice_get xs at ≡ Some x

pub get_in : {X : Type 0} {x : X} {xs : List X} → In x xs → Place x xs
get_in here = record { at = 0; is = refl }
get_in (there i) = let p = get_in i in record { at = suc p.at; is = p.is }

pub in_contains : {X : Type 0} (xs : List X) (x : X) → Contains xs x → In x xs
in_contains xs x c = in_get xs c.0 x (slice_get-get_or xs c.0 x c.1 ∙ ap Some c.2)

pub contains_in : {X : Type 0} (xs : List X) (x : X) → In x xs → Contains xs x
contains_in xs x i =
    let p = get_in i in
    (p.at, slice_get_within xs p.at x p.is, get_or_from_slice_get xs p.at x x p.is)

pub in_left : {X : Type 0} {x : X} {xs : List X} (ys : List X) → In x xs → In x (xs ++ ys)
in_left ys here = here
in_left ys (there i) = there (in_left ys i)

pub in_right : {X : Type 0} {x : X} (xs : List X) {ys : List X} → In x ys → In x (xs ++ ys)
in_right [] i = i
in_right (y ∷ xs) i = there (in_right xs i)

in_cons : {X : Type 0} (x y : X) (xs : List X) → In x (y ∷ xs) → (x ≡ y) ⊎ In x xs
in_cons x y xs here = inl refl
in_cons x y xs (there i) = inr i

pub none_in : {X : Type 0} (x : X) → In x [] → ⊥
none_in x i = elim i [ ]

pub in_split : {X : Type 0} (x : X) (xs ys : List X) → In x (xs ++ ys) → In x xs ⊎ In x ys
in_split x [] ys i = inr i
in_split x (y ∷ xs) ys i =
    elim (in_cons x y (xs ++ ys) i) [
      | inl e ↦ inl (subst (λ z. In x (z ∷ xs)) e here)
      | inr j ↦ elim (in_split x xs ys j) [ inl l ↦ inl (there l) | inr r ↦ inr r ]
    ]

-- a member of what is made of the elements
pub record From {X Y : Type 0} (f : X → List Y) (xs : List X) (y : Y) : Type 0 where
  pub at : ℕ
  pub element : X
  pub stands : slice_get xs at ≡ Some element
  pub member : In y (f element)

pub in_flat : {X Y : Type 0} (f : X → List Y) (xs : List X) (y : Y) → In y (flat_map f xs) → From f xs y
in_flat f [] y i = absurd (none_in y i)
in_flat f (x ∷ xs) y i =
    elim (in_split y (f x) (flat_map f xs) i) [
      | inl l ↦ record { at = 0; element = x; stands = refl; member = l }
      | inr r ↦ (let w = in_flat f xs y r in record { at = suc w.at; element = w.element; stands = w.stands; member = w.member })
    ]

pub flat_in : {X Y : Type 0} (f : X → List Y) (xs : List X) (k : ℕ) (x : X) (y : Y) → slice_get xs k ≡ Some x → In y (f x) → In y (flat_map f xs)
flat_in f [] k x y e i = absurd (cc)
flat_in f (z ∷ xs) zero x y e i = let same : z ≡ x = cc in in_left (flat_map f xs) (subst (λ v. In y (f v)) (sym same) i)
flat_in f (z ∷ xs) (suc k) x y e i = in_right (f z) (flat_in f xs k x y e i)

pub in_map : {X Y : Type 0} (f : X → Y) (xs : List X) (k : ℕ) (x : X) → slice_get xs k ≡ Some x → In (f x) (map f xs)
in_map f [] k x e = absurd (cc)
in_map f (z ∷ xs) zero x e = let same : z ≡ x = cc in subst (λ v. In (f x) (f v ∷ map f xs)) (sym same) here
in_map f (z ∷ xs) (suc k) x e = there (in_map f xs k x e)

-- the element that a member of a mapped list is made of
pub record Made {X Y : Type 0} (f : X → Y) (xs : List X) (y : Y) : Type 0 where
  pub at : ℕ
  pub element : X
  pub stands : slice_get xs at ≡ Some element
  pub same : f element ≡ y

pub map_in : {X Y : Type 0} (f : X → Y) (xs : List X) (y : Y) → In y (map f xs) → Made f xs y
map_in f [] y i = absurd (none_in y i)
map_in f (x ∷ xs) y i =
    elim (in_cons y (f x) (map f xs) i) [
      | inl e ↦ record { at = 0; element = x; stands = refl; same = sym e }
      | inr r ↦ (let w = map_in f xs y r in record { at = suc w.at; element = w.element; stands = w.stands; same = w.same })
    ]

-- ---- tests

-- an element that passes the test
pub record Passes {X : Type 0} (test : X → Bool) (xs : List X) : Type 0 where
  pub at : ℕ
  pub element : X
  pub stands : slice_get xs at ≡ Some element
  pub passes : test element ≡ true

pub any_passes : {X : Type 0} (test : X → Bool) (xs : List X) → list_any test xs ≡ true → Passes test xs
any_passes test [] e = absurd (cc)
any_passes test (x ∷ xs) e = by_test (test x) refl (λ e. any_passes test xs e) e
  where
    by_test : (b : Bool) → test x ≡ b → (list_any test xs ≡ true → Passes test xs) → (b || list_any test xs) ≡ true → Passes test (x ∷ xs)
    by_test true is rest e = record { at = 0; element = x; stands = refl; passes = is }
    by_test false is rest e = let w = rest e in record { at = suc w.at; element = w.element; stands = w.stands; passes = w.passes }

pub passes_any : {X : Type 0} (test : X → Bool) (xs : List X) (k : ℕ) (x : X) → slice_get xs k ≡ Some x → test x ≡ true → list_any test xs ≡ true
passes_any test [] k x e t = absurd (cc)
passes_any test (y ∷ xs) zero x e t = let same : y ≡ x = cc in ap (λ b. b || list_any test xs) (ap test same ∙ t)
passes_any test (y ∷ xs) (suc k) x e t = by_test (test y) (passes_any test xs k x e t)
  where
    by_test : (b : Bool) → list_any test xs ≡ true → (b || list_any test xs) ≡ true
    by_test true h = refl
    by_test false h = h
