-- Tests over whole lists.
use Rattle.std.proofs.Common.{ℕ, suc, ◌≡◌, ◌<◌, ◌+◌, ◌||◌, ◌&&◌, refl, ap, ◌∙◌, arith, List, [], ◌∷◌, map, filter, drop, drop-cons, length, get_or, Bool, true, false, not}
use Rattle.std.specs.List.{list_all, list_any}

pub all_map : {A B : Type 0} (p : B → Bool) (f : A → B) (xs : List A) → list_all p (map f xs) ≡ list_all (λ x. p (f x)) xs
all_map p f [] = refl
all_map p f (x ∷ xs) = ap (λ b. p (f x) && b) (all_map p f xs)

pub all_filter : {A : Type 0} (p g : A → Bool) (xs : List A) → list_all p (filter g xs) ≡ list_all (λ x. not (g x) || p x) xs
all_filter p g [] = refl
all_filter {A} p g (x ∷ xs) = at (g x) refl (all_filter p g xs) where
  at : (b : Bool) → g x ≡ b → list_all p (filter g xs) ≡ list_all (λ y. not (g y) || p y) xs → list_all p (filter g (x ∷ xs)) ≡ list_all (λ y. not (g y) || p y) (x ∷ xs)
  at true e r = rw e (ap (λ b. p x && b) r)
  at false e r = rw e r

pub drop_at : {A : Type 0} (xs : List A) (i : ℕ) (d : A) → i < length xs → drop i xs ≡ get_or xs i d ∷ drop (i + 1) xs
drop_at xs i d h = let e : suc i ≡ i + 1 = omega arith in drop-cons xs i d h ∙ ap (λ (k : ℕ). get_or xs i d ∷ drop k xs) e

pub any_head : {A : Type 0} (p : A → Bool) (xs : List A) (i : ℕ) (d : A) → i < length xs → p (get_or xs i d) ≡ true → list_any p (drop i xs) ≡ true
any_head p xs i d h e = ap (list_any p) (drop_at xs i d h) ∙ ap (λ b. b || list_any p (drop (i + 1) xs)) e

pub any_skip : {A : Type 0} (p : A → Bool) (xs : List A) (i : ℕ) (d : A) → i < length xs → p (get_or xs i d) ≡ false → list_any p (drop i xs) ≡ list_any p (drop (i + 1) xs)
any_skip p xs i d h e = ap (list_any p) (drop_at xs i d h) ∙ ap (λ b. b || list_any p (drop (i + 1) xs)) e
