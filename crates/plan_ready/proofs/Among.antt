-- Members of lists, of tables of keys and of lists of variables.
use Rattle.std.proofs.Common.{◌≡◌, ℕ, zero, suc, ◌<◌, Bool, true, false, List, [], ◌∷◌, ◌++◌, length, Some, refl, sym, ap, ◌∙◌, subst, arith, inl, inr, ⊎_elim}
use Rattle.std.specs.Prelude.{◌⊎◌, ◌||◌, ◌&&◌, map, slice_get, Contains}
use Rattle.std.specs.List.{flat_map}
use Rattle.line_runs.proofs.Tests.{some_inj}

-- x stands in the list
abbrev pub Among : {A : Type 0} → A → List A → Type 0
Among x [] = ⊥
Among x (y ∷ ys) = (x ≡ y) ⊎ Among x ys

pub among_front : {A : Type 0} (x : A) (xs ys : List A) → Among x xs → Among x (xs ++ ys)
among_front x [] ys h = absurd h
among_front x (y ∷ xs) ys h = ⊎_elim (λ e. inl e) (λ h. inr (among_front x xs ys h)) h

pub among_back : {A : Type 0} (x : A) (xs ys : List A) → Among x ys → Among x (xs ++ ys)
among_back x [] ys h = h
among_back x (y ∷ xs) ys h = inr (among_back x xs ys h)

pub among_at : {A : Type 0} (x : A) (xs : List A) (k : ℕ) → slice_get xs k ≡ Some x → Among x xs
among_at x [] k e = absurd (cc)
among_at x (y ∷ xs) zero e = inl (sym (some_inj e))
among_at x (y ∷ xs) (suc k) e = inr (among_at x xs k e)

pub among_flat : {A B : Type 0} (f : A → List B) (x : A) (y : B) (xs : List A) → Among x xs → Among y (f x) → Among y (flat_map f xs)
among_flat f x y [] h here = absurd h
among_flat f x y (z ∷ xs) (inl e) here = among_front y (f z) (flat_map f xs) (subst (λ w. Among y (f w)) e here)
among_flat f x y (z ∷ xs) (inr h) here = among_back y (f z) (flat_map f xs) (among_flat f x y xs h here)

pub among_map : {A B : Type 0} (f : A → B) (x : A) (xs : List A) → Among x xs → Among (f x) (map f xs)
among_map f x [] h = absurd h
among_map f x (y ∷ xs) (inl e) = inl (ap f e)
among_map f x (y ∷ xs) (inr h) = inr (among_map f x xs h)

pub contains_among : {A : Type 0} (x : A) (xs : List A) → Contains xs x → Among x xs
contains_among x [] (k, lt, e) = absurd (omega (arith, lt))
contains_among x (y ∷ xs) (zero, lt, e) = inl (sym e)
contains_among x (y ∷ xs) (suc k, lt, e) = inr (contains_among x xs (k, omega (arith, lt), e))

pub among_contains : {A : Type 0} (x : A) (xs : List A) → Among x xs → Contains xs x
among_contains x [] h = absurd h
among_contains x (y ∷ xs) (inl e) = (0, omega arith, sym e)
among_contains x (y ∷ xs) (inr h) =
    let rest = among_contains x xs h in
    let lt : rest.0 < length xs = rest.1 in
    (suc rest.0, omega (arith, lt), rest.2)

pub or_left : (a b : Bool) → a ≡ true → (a || b) ≡ true
or_left a b e = ap (λ x. x || b) e

pub or_right : (a b : Bool) → b ≡ true → (a || b) ≡ true
or_right true b e = refl
or_right false b e = e

pub both : (a b : Bool) → a ≡ true → b ≡ true → (a && b) ≡ true
both a b e f = ap (λ x. x && b) e ∙ f
