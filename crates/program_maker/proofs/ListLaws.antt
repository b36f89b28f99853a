-- Lists by place: filters that keep nothing, counts that agree, and numbers one more.
use Rattle.std.proofs.Common.{ℕ, zero, suc, ◌≡◌, ◌+◌, ◌<◌, ◌≤◌, refl, sym, ap, ◌∙◌, arith, Bool, false, cond, List, [], ◌∷◌, ◌++◌, drop, slice_get, Option, Some, None, find, filter, count_by, option_to_list}
use Rattle.std.specs.List.{range_with_len, cons_option}
use Rattle.std.proofs.lemmas.List.{map-id}
use Rattle.std.proofs.lemmas.List.FromFn.{map-range_with_len_more}
use Rattle.program_sound.proofs.Lists.{count-cons, count-no}

pub one_given : {X : Type 0} (o : Option X) → cons_option o [] ≡ option_to_list o
one_given None = refl
one_given (Some y) = refl

module _ {X : Type 0} (p : X → Bool) where
  abbrev pub FailsAll : List X → Type 0
  FailsAll xs = (j : ℕ) (y : X) → slice_get xs j ≡ Some y → p y ≡ false

  pub filter_none : (xs : List X) → FailsAll xs → filter p xs ≡ []
  filter_none [] h = refl
  filter_none (x ∷ xs) h = ap (λ b. cond b (x ∷ filter p xs) (filter p xs)) (h 0 x refl) ∙ filter_none xs (λ j y e. h (suc j) y e)

  pub find_fails : (xs : List X) → FailsAll xs → find p xs ≡ None
  find_fails [] h = refl
  find_fails (x ∷ xs) h = ap (λ b. cond b (Some x) (find p xs)) (h 0 x refl) ∙ find_fails xs (λ j y e. h (suc j) y e)

  pub count_none : (xs : List X) → FailsAll xs → count_by p xs ≡ 0
  count_none [] h = refl
  count_none (x ∷ xs) h = count-no p x xs (h 0 x refl) ∙ count_none xs (λ j y e. h (suc j) y e)

pub count_agree : {X : Type 0} (p q : X → Bool) (xs : List X) → ((j : ℕ) (y : X) → slice_get xs j ≡ Some y → p y ≡ q y) → count_by p xs ≡ count_by q xs
count_agree p q [] h = refl
count_agree p q (x ∷ xs) h =
    let here : ◌≡◌ {A = ℕ} (cond (p x) 1 0) (cond (q x) 1 0) = ap (λ b. cond b 1 0) (h 0 x refl) in
    let rest = count_agree p q xs (λ j y e. h (suc j) y e) in
    omega (arith, count-cons p x xs, count-cons q x xs, here, rest)

pub slice_get-drop : {X : Type 0} (xs : List X) (n j : ℕ) → slice_get (drop n xs) j ≡ slice_get xs (n + j)
slice_get-drop xs zero j = let e : j ≡ 0 + j = omega arith in ap (slice_get xs) e
slice_get-drop [] (suc n) j = let e : n + j + 1 ≡ suc n + j = omega arith in ap (slice_get []) e
slice_get-drop (x ∷ xs) (suc n) j = let e : suc (n + j) ≡ suc n + j = omega arith in slice_get-drop xs n j ∙ ap (slice_get (x ∷ xs)) e

pub range_more : (n : ℕ) → range_with_len 0 (n + 1) ≡ range_with_len 0 n ++ n ∷ []
range_more n = sym (map-id (range_with_len 0 (n + 1))) ∙ map-range_with_len_more (λ k. k) 0 n n (omega arith) ∙ ap (λ l. l ++ n ∷ []) (map-id (range_with_len 0 n))

-- tests that agree on numbers filter them alike
pub filter_same : (p q : ℕ → Bool) (a n : ℕ) → ((k : ℕ) → a ≤ k → k < a + n → p k ≡ q k) → filter p (range_with_len a n) ≡ filter q (range_with_len a n)
filter_same p q a zero h = refl
filter_same p q a (suc n) h =
    ap (λ b. cond b (a ∷ filter p (range_with_len (a + 1) n)) (filter p (range_with_len (a + 1) n))) (h a (omega arith) (omega arith))
    ∙ ap (λ (l : List ℕ). cond (q a) (a ∷ l) l) (filter_same p q (a + 1) n (λ k l m. h k (omega arith) (omega arith)))
