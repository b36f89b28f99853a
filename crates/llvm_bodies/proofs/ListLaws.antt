-- Lists with one item more at the end.
use Rattle.std.proofs.Common.{ℕ, ◌≡◌, ◌+◌, refl, sym, ap, ◌∙◌, List, [], ◌∷◌, ◌++◌, Bool, true, false, ◌||◌, if◌then◌else◌, cond, arith, append-nil, append_assoc}
use Rattle.std.proofs.lemmas.List.Elements.{filter-append}
use Rattle.std.proofs.lemmas.List.Folds.{list_any-append}
use Rattle.std.proofs.lemmas.List.Sums.{sum_by-append}
use Rattle.std.specs.List.{list_any, filter, count_by, sum_by}
use Rattle.llvm_bodies.specs.Lists.{behind_last, last_passes, Each, none, more, places_from}

cut : {A : Type 0} (p : A → Bool) (x y : A) (xs tail whole : List A) (any a b c : Bool) → any ≡ (a || (b || false)) → whole ≡ (if b then [] else tail ++ y ∷ [])
    → (if any then whole else if c then xs ++ y ∷ [] else x ∷ xs ++ y ∷ []) ≡ (if b then [] else (if a then tail else if c then xs else x ∷ xs) ++ y ∷ [])
cut p x y xs tail whole any true true c e h = rw (e, h) refl
cut p x y xs tail whole any false true c e h = rw (e, h) refl
cut p x y xs tail whole any true false c e h = rw (e, h) refl
cut p x y xs tail whole any false false true e h = rw e refl
cut p x y xs tail whole any false false false e h = rw e refl

pub behind_last-append : {A : Type 0} (p : A → Bool) (xs : List A) (y : A) → behind_last p (xs ++ y ∷ []) ≡ (if p y then [] else behind_last p xs ++ y ∷ [])
behind_last-append p [] y = refl
behind_last-append p (x ∷ xs) y = cut p x y xs (behind_last p xs) (behind_last p (xs ++ y ∷ [])) (list_any p (xs ++ y ∷ [])) (list_any p xs) (p y) (p x) (list_any-append p xs (y ∷ [])) (behind_last-append p xs y)

pub last_passes-append : {A : Type 0} (p : A → Bool) (xs : List A) (y : A) → last_passes p (xs ++ y ∷ []) ≡ p y
last_passes-append p [] y = refl
last_passes-append p (x ∷ []) y = refl
last_passes-append p (x ∷ z ∷ xs) y = last_passes-append p (z ∷ xs) y

pub filter_more : {A : Type 0} (p : A → Bool) (xs : List A) (y : A) → filter p (xs ++ y ∷ []) ≡ (if p y then filter p xs ++ y ∷ [] else filter p xs)
filter_more p xs y = filter-append p xs (y ∷ []) ∙ either (p y) (filter p xs) y where
  either : {A : Type 0} (b : Bool) (zs : List A) (z : A) → zs ++ (if b then z ∷ [] else []) ≡ (if b then zs ++ z ∷ [] else zs)
  either true zs z = refl
  either false zs z = append-nil zs

pub sum_more : {A : Type 0} (f : A → ℕ) (xs : List A) (y : A) → sum_by f (xs ++ y ∷ []) ≡ sum_by f xs + f y
sum_more f xs y = omega (arith, sum_by-append f xs (y ∷ []))

pub count_more : {A : Type 0} (p : A → Bool) (xs : List A) (y : A) → count_by p (xs ++ y ∷ []) ≡ (if p y then count_by p xs + 1 else count_by p xs)
count_more p xs y = sum_more (λ x. cond (p x) 1 0) xs y ∙ either (p y) (count_by p xs) where
  either : (b : Bool) (n : ℕ) → n + cond b 1 0 ≡ (if b then n + 1 else n)
  either true n = refl
  either false n = omega arith

pub any_more : {A : Type 0} (p : A → Bool) (xs : List A) (y : A) → list_any p (xs ++ y ∷ []) ≡ (list_any p xs || p y)
any_more p xs y = list_any-append p xs (y ∷ []) ∙ ap (λ b. list_any p xs || b) (or_false (p y)) where
  or_false : (b : Bool) → (b || false) ≡ b
  or_false true = refl
  or_false false = refl

pub places_more : {A : Type 0} (front xs : List A) (y : A) → places_from front (xs ++ y ∷ []) ≡ places_from front xs ++ record { before = front ++ xs; item = y } ∷ []
places_more front [] y = ap (λ f. record { before = f; item = y } ∷ []) (sym (append-nil front))
places_more front (x ∷ xs) y = ap (λ ps. record { before = front; item = x } ∷ ps) (places_more (front ++ x ∷ []) xs y ∙ ap (λ f. places_from (front ++ x ∷ []) xs ++ record { before = f; item = y } ∷ []) (append_assoc front (x ∷ []) xs))

pub each_more : {A B : Type 0} {R : A → B → Type 0} {xs : List A} {ys : List B} {a : A} {b : B} → Each R xs ys → R a b → Each R (xs ++ a ∷ []) (ys ++ b ∷ [])
each_more none r = more r none
each_more (more q e) r = more q (each_more e r)
