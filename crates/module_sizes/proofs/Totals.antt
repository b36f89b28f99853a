-- Totals over lists: over members of another list, each taken once, the total is no larger than over that list.
use Rattle.std.proofs.Common.{◌≡◌, ◌⊎◌, inl, inr, ⊎_elim, ℕ, suc, zero, ◌+◌, ◌*◌, ◌<◌, ◌≤◌, Bool, true, false, List, [], ◌∷◌, ◌++◌, length, map, Some, refl, sym, ap, ◌∙◌, subst, arith}
use Rattle.std.specs.Prelude.{filter, slice_get, if◌then◌else◌}
use Rattle.std.specs.List.{flat_map}
use Rattle.plan_ready.proofs.Among.{Among}
use Rattle.chosen_plan.proofs.Members.{among_get}

abbrev pub total : {A : Type 0} → (A → ℕ) → List A → ℕ
total f [] = 0
total f (x ∷ xs) = f x + total f xs

pub total_append : {A : Type 0} (f : A → ℕ) (xs ys : List A) → total f (xs ++ ys) ≡ total f xs + total f ys
total_append f [] ys = let e : total f ys ≡ 0 + total f ys = omega arith in e
total_append f (x ∷ xs) ys =
    let ih = total_append f xs ys in
    let e : f x + total f (xs ++ ys) ≡ f x + total f xs + total f ys = omega (arith, ih) in
    e

pub total_map : {A B : Type 0} (f : B → ℕ) (g : A → B) (xs : List A) → total f (map g xs) ≡ total (λ x. f (g x)) xs
total_map f g [] = refl
total_map f g (x ∷ xs) = ap (λ n. f (g x) + n) (total_map f g xs)

pub total_flat : {A B : Type 0} (f : B → ℕ) (g : A → List B) (xs : List A) → total f (flat_map g xs) ≡ total (λ x. total f (g x)) xs
total_flat f g [] = refl
total_flat f g (x ∷ xs) =
    total_append f (g x) (flat_map g xs) ∙ ap (λ n. total f (g x) + n) (total_flat f g xs)

pub total_less : {A : Type 0} (f g : A → ℕ) (xs : List A) → ((x : A) → Among x xs → f x ≤ g x) → total f xs ≤ total g xs
total_less f g [] h = omega arith
total_less f g (x ∷ xs) h =
    let here = h x (inl refl) in
    let rest = total_less f g xs (λ y among. h y (inr among)) in
    omega (arith, here, rest)

pub total_both : {A : Type 0} (f g : A → ℕ) (xs : List A) → total (λ x. f x + g x) xs ≡ total f xs + total g xs
total_both f g [] = refl
total_both f g (x ∷ xs) =
    let ih = total_both f g xs in
    let e : f x + g x + total (λ x. f x + g x) xs ≡ f x + total f xs + (g x + total g xs) = omega (arith, ih) in
    e

pub total_none : {A : Type 0} (f : A → ℕ) (xs : List A) → ((x : A) → Among x xs → f x ≡ 0) → total f xs ≡ 0
total_none f [] h = refl
total_none f (x ∷ xs) h =
    let here = h x (inl refl) in
    let rest = total_none f xs (λ y among. h y (inr among)) in
    let e : f x + total f xs ≡ 0 = omega (arith, here, rest) in
    e

pub total_filter : {A : Type 0} (f : A → ℕ) (q : A → Bool) (xs : List A) → total f (filter q xs) ≤ total f xs
total_filter f q [] = omega arith
total_filter f q (x ∷ xs) = by_test (q x) (total_filter f q xs)
  where
    by_test : (b : Bool) → total f (filter q xs) ≤ total f xs → total f (if b then x ∷ filter q xs else filter q xs) ≤ f x + total f xs
    by_test true ih = omega (arith, ih)
    by_test false ih = omega (arith, ih)

pub filter_among : {A : Type 0} (q : A → Bool) (xs : List A) (x : A) → Among x (filter q xs) → Among x xs
filter_among q [] x h = h
filter_among q (y ∷ xs) x h = by_test (λ k. filter_among q xs x k) (q y) h
  where
    by_test : (Among x (filter q xs) → Among x xs) → (b : Bool) → Among x (if b then y ∷ filter q xs else filter q xs) → Among x (y ∷ xs)
    by_test rest true h = ⊎_elim (λ e. inl e) (λ k. inr (rest k)) h
    by_test rest false h = inr (rest h)

-- ---- so many times the same

abbrev pub times : ℕ → ℕ → ℕ
times zero k = 0
times (suc n) k = k + times n k

pub times_is : (n k : ℕ) → times n k ≡ n * k
times_is zero k = let e : 0 ≡ 0 * k = omega arith in e
times_is (suc n) k =
    let ih = times_is n k in
    let e : k + times n k ≡ suc n * k = omega (arith, ih) in
    e

pub times_less : (a b k : ℕ) → a ≤ b → times a k ≤ times b k
times_less zero b k h = omega arith
times_less (suc a) zero k h = absurd (omega (arith, h))
times_less (suc a) (suc b) k h =
    let ih = times_less a b k (omega (arith, h)) in
    omega (arith, ih)

pub times_more : (n j k : ℕ) → j ≤ k → times n j ≤ times n k
times_more zero j k h = omega arith
times_more (suc n) j k h =
    let ih = times_more n j k h in
    omega (arith, h, ih)

pub times_sum : (a b k : ℕ) → times (a + b) k ≡ times a k + times b k
times_sum zero b k =
    let same : 0 + b ≡ b = omega arith in
    let e : times b k ≡ 0 + times b k = omega arith in
    ap (λ n. times n k) same ∙ e
times_sum (suc a) b k =
    let same : suc a + b ≡ suc (a + b) = omega arith in
    let ih = times_sum a b k in
    let e : k + times (a + b) k ≡ k + times a k + times b k = omega (arith, ih) in
    ap (λ n. times n k) same ∙ e

pub times_both : (n j k : ℕ) → times n (j + k) ≡ times n j + times n k
times_both zero j k = refl
times_both (suc n) j k =
    let ih = times_both n j k in
    let e : j + k + times n (j + k) ≡ j + times n j + (k + times n k) = omega (arith, ih) in
    e

pub total_same : {A : Type 0} (k : ℕ) (xs : List A) → total (λ x. k) xs ≡ times (length xs) k
total_same k [] = refl
total_same k (x ∷ xs) = ap (λ n. k + n) (total_same k xs)

-- ---- by places

-- the places of a list, from k on
abbrev pub places : {A : Type 0} → ℕ → List A → List ℕ
places k [] = []
places k (x ∷ xs) = k ∷ places (suc k) xs

pub among_places : {A : Type 0} (k j : ℕ) (xs : List A) → j < length xs → Among (k + j) (places k xs)
among_places k j [] h = absurd (omega (arith, h))
among_places k zero (x ∷ xs) h = let same : k + 0 ≡ k = omega arith in inl same
among_places k (suc j) (x ∷ xs) h =
    let same : suc k + j ≡ k + suc j = omega arith in
    inr (subst (λ n. Among n (places (suc k) xs)) same (among_places (suc k) j xs (omega (arith, h))))

pub total_places : {A : Type 0} (f : ℕ → ℕ) (g : A → ℕ) (k : ℕ) (xs : List A) → ((j : ℕ) (x : A) → slice_get xs j ≡ Some x → f (k + j) ≤ g x) → total f (places k xs) ≤ total g xs
total_places f g k [] h = omega arith
total_places f g k (x ∷ xs) h =
    let same : k + 0 ≡ k = omega arith in
    let here = subst (λ n. f n ≤ g x) same (h 0 x refl) in
    let rest = total_places f g (suc k) xs (λ j y e. (let next : k + suc j ≡ suc k + j = omega arith in subst (λ n. f n ≤ g y) next (h (suc j) y e))) in
    omega (arith, here, rest)

pub total_swap : {A B : Type 0} (f : A → B → ℕ) (xs : List A) (ys : List B) → total (λ x. total (f x) ys) xs ≡ total (λ y. total (λ x. f x y) xs) ys
total_swap f [] ys = sym (total_none (λ y. 0) ys (λ y among. refl))
total_swap f (x ∷ xs) ys =
    ap (λ n. total (f x) ys + n) (total_swap f xs ys) ∙ sym (total_both (f x) (λ y. total (λ x. f x y) xs) ys)

-- one at most, where what counts stands at one place
pub total_once : {A : Type 0} (f : A → ℕ) (xs : List A) → ((x : A) → f x ≤ 1) → ((r s : ℕ) (x y : A) → slice_get xs r ≡ Some x → slice_get xs s ≡ Some y → 1 ≤ f x → 1 ≤ f y → r ≡ s) → total f xs ≤ 1
total_once {A = A} f [] each same = omega arith
total_once {A = A} f (x ∷ xs) each same =
    by_first (f x) refl (total_once f xs each (λ r s y z ey ez hy hz. (let e = same (suc r) (suc s) y z ey ez hy hz in omega (arith, e))))
  where
    by_first : (n : ℕ) → f x ≡ n → total f xs ≤ 1 → f x + total f xs ≤ 1
    by_first zero e ih = omega (arith, e, ih)
    by_first (suc n) e ih =
        let one = each x in
        let none = total_none f xs others in
        omega (arith, one, none)
      where
        zero_at : (k : ℕ) → (1 ≤ k → ⊥) → k ≡ 0
        zero_at zero h = refl
        zero_at (suc k) h = absurd (h (omega arith))

        others : (y : A) → Among y xs → f y ≡ 0
        others y among =
            let at = among_get y xs among in
            let first : 1 ≤ f x = omega (arith, e) in
            zero_at (f y) (λ h. (let clash = same 0 (suc at.0) x y refl at.1 first h in absurd (omega (arith, clash))))

-- ---- each once

-- no member stands twice
abbrev pub Apart : {A : Type 0} → List A → Type 0
Apart [] = Unit {0}
Apart (x ∷ xs) = (Among x xs → ⊥) × Apart xs

-- a type whose values a test tells apart
pub record Tells {A : Type 0} (same : A → A → Bool) : Type 0 where
  pub told : (x y : A) → same x y ≡ true → x ≡ y
  pub self : (x : A) → same x x ≡ true

-- the total without what is u
abbrev without : {A : Type 0} → (A → A → Bool) → A → (A → ℕ) → A → ℕ
without same u f x = if same x u then 0 else f x

module _ {A : Type 0} (same : A → A → Bool) (tells : Tells same) where
  untouched : (f : A → ℕ) (u : A) (xs : List A) → (Among u xs → ⊥) → total f xs ≤ total (without same u f) xs
  untouched f u [] none = omega arith
  untouched f u (x ∷ xs) none = by_test (same x u) refl (untouched f u xs (λ h. none (inr h)))
    where
      by_test : (b : Bool) → same x u ≡ b → total f xs ≤ total (without same u f) xs → f x + total f xs ≤ (if b then 0 else f x) + total (without same u f) xs
      by_test true e ih = absurd (none (inl (sym (tells.told x u e))))
      by_test false e ih = omega (arith, ih)

  one_less : (f : A → ℕ) (u : A) (xs : List A) → Apart xs → total f xs ≤ f u + total (without same u f) xs
  one_less f u [] apart = omega arith
  one_less f u (x ∷ xs) apart = by_test (same x u) refl (one_less f u xs apart.1)
    where
      by_test : (b : Bool) → same x u ≡ b → total f xs ≤ f u + total (without same u f) xs → f x + total f xs ≤ f u + ((if b then 0 else f x) + total (without same u f) xs)
      by_test true e ih =
          let is : x ≡ u = tells.told x u e in
          let rest = untouched f u xs (λ h. apart.0 (subst (λ y. Among y xs) (sym is) h)) in
          let value : f x ≡ f u = ap f is in
          omega (arith, rest, value)
      by_test false e ih = omega (arith, ih)

  less_without : (f : A → ℕ) (u : A) (xs : List A) → total (without same u f) xs ≤ total f xs
  less_without f u xs = total_less (without same u f) f xs (λ x among. by_test x (same x u))
    where
      by_test : (x : A) (b : Bool) → (if b then 0 else f x) ≤ f x
      by_test x true = omega arith
      by_test x false = omega arith

  -- what counts stands in the other list
  pub total_within : (us xs : List A) (f : A → ℕ) → Apart xs → ((x : A) → Among x xs → (f x ≡ 0) ⊎ Among x us) → total f xs ≤ total f us
  total_within [] xs f apart h =
      let none = total_none f xs (λ x among. ⊎_elim (λ e. e) (λ no. absurd no) (h x among)) in
      omega (arith, none)
  total_within (u ∷ us) xs f apart h =
      let first = one_less f u xs apart in
      let rest = total_within us xs (without same u f) apart still in
      let less = less_without f u us in
      omega (arith, first, rest, less)
    where
      zero_if : (b : Bool) (n : ℕ) → n ≡ 0 → (if b then 0 else n) ≡ 0
      zero_if true n e = refl
      zero_if false n e = e

      still : (x : A) → Among x xs → (without same u f x ≡ 0) ⊎ Among x us
      still x among =
          ⊎_elim (λ e. inl (zero_if (same x u) (f x) e)) (λ k. ⊎_elim (λ is. inl (ap (λ b. if b then 0 else f x) (subst (λ y. same x y ≡ true) is (tells.self x)))) (λ k. inr k) k) (h x among)
