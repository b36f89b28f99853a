-- Lists by place: what a test of a list says of its elements, and where the elements of a filtered list stood.
use Rattle.std.proofs.Common.{ℕ, zero, suc, ◌≡◌, ◌+◌, ◌<◌, ◌≤◌, inl, inr, refl, sym, ap, ◌∙◌, arith, Bool, true, false, cond, ◌&&◌, ◌||◌, List, [], ◌∷◌, ◌++◌, map, length, take, slice_get, Option, Some, None, is_some, find, filter, filter_map, count_by, sum_by, Contains}
use Rattle.std.specs.List.{list_any, list_all, range_with_len, cons_option}
use Rattle.std.proofs.lemmas.Bool.{both_ways, or_left, or_right, and_parts, cases_Bool}
use Rattle.std.proofs.lemmas.Option.{same_Some, none-some}
use Rattle.std.proofs.lemmas.List.Sums.{sum_by-cons, sum_by-le-sum_by}

-- an element of a list, with its place, for which P holds
pub record Found {X : Type 0} (xs : List X) (P : X → Type 0) : Type 0 where
  pub i : ℕ
  pub item : X
  pub at : slice_get xs i ≡ Some item
  pub holds : P item

pub behind : {X : Type 0} {xs : List X} {P : X → Type 0} (x : X) → Found xs P → Found (x ∷ xs) P
behind x f = record { i = suc f.i; item = f.item; at = f.at; holds = f.holds }

-- ---- tests

pub any_from : {X : Type 0} (test : X → Bool) (xs : List X) (i : ℕ) (y : X) → slice_get xs i ≡ Some y → test y ≡ true → list_any test xs ≡ true
any_from test [] i y e t = cc
any_from test (x ∷ xs) zero y e t = or_left _ _ (ap test (same_Some x y e) ∙ t)
any_from test (x ∷ xs) (suc i) y e t = or_right _ _ (any_from test xs i y e t)

pub any_at : {X : Type 0} (test : X → Bool) (xs : List X) → list_any test xs ≡ true → Found xs (λ y. test y ≡ true)
any_at test [] e = cc
any_at {X} test (x ∷ xs) e = go (test x) refl (λ h. any_at test xs h) e where
  go : (b : Bool) → test x ≡ b → (list_any test xs ≡ true → Found xs (λ y. test y ≡ true)) → (b || list_any test xs) ≡ true → Found (x ∷ xs) (λ y. test y ≡ true)
  go true t r h = record { i = 0; item = x; at = refl; holds = t }
  go false t r h = behind x (r h)

pub none_at : {X : Type 0} (test : X → Bool) (xs : List X) (i : ℕ) (y : X) → list_any test xs ≡ false → slice_get xs i ≡ Some y → test y ≡ false
none_at test xs i y e at = elim (cases_Bool (test y)) [ inl t ↦ absurd (both_ways _ e (any_from test xs i y at t)) | inr f ↦ f ]

pub all_at : {X : Type 0} (test : X → Bool) (xs : List X) (i : ℕ) (y : X) → list_all test xs ≡ true → slice_get xs i ≡ Some y → test y ≡ true
all_at test [] i y e at = cc
all_at test (x ∷ xs) zero y e at = ap test (sym (same_Some x y at)) ∙ (and_parts _ _ e).0
all_at test (x ∷ xs) (suc i) y e at = all_at test xs i y (and_parts _ _ e).1 at

pub find_at : {X : Type 0} (test : X → Bool) (xs : List X) (y : X) → find test xs ≡ Some y → Found xs (λ z. (z ≡ y) × (test y ≡ true))
find_at test [] y e = cc
find_at test (x ∷ xs) y e = go (test x) refl (λ h. find_at test xs y h) e where
  go : (b : Bool) → test x ≡ b → (find test xs ≡ Some y → Found xs (λ z. (z ≡ y) × (test y ≡ true))) → cond b (Some x) (find test xs) ≡ Some y → Found (x ∷ xs) (λ z. (z ≡ y) × (test y ≡ true))
  go true t r h = record { i = 0; item = x; at = refl; holds = (same_Some x y h, ap test (sym (same_Some x y h)) ∙ t) }
  go false t r h = behind x (r h)

pub find_from : {X : Type 0} (test : X → Bool) (xs : List X) (i : ℕ) (y : X) → slice_get xs i ≡ Some y → test y ≡ true → (z : X) × (find test xs ≡ Some z)
find_from test [] i y e t = cc
find_from {X} test (x ∷ xs) i y e t = go (test x) refl (λ j h. find_from test xs j y h t) i e where
  go : (b : Bool) → test x ≡ b → ((j : ℕ) → slice_get xs j ≡ Some y → (z : X) × (find test xs ≡ Some z)) → (j : ℕ) → slice_get (x ∷ xs) j ≡ Some y → (z : X) × (cond b (Some x) (find test xs) ≡ Some z)
  go true f r j h = (x, refl)
  go false f r zero h = absurd (both_ways _ f (ap test (same_Some x y h) ∙ t))
  go false f r (suc j) h = r j h

-- ---- filters

pub find_filter : {X : Type 0} (p q : X → Bool) (xs : List X) → find q (filter p xs) ≡ find (λ y. p y && q y) xs
find_filter p q [] = refl
find_filter p q (x ∷ xs) = go (p x) (find_filter p q xs) where
  go : (b : Bool) → find q (filter p xs) ≡ find (λ y. p y && q y) xs → find q (cond b (x ∷ filter p xs) (filter p xs)) ≡ cond (b && q x) (Some x) (find (λ y. p y && q y) xs)
  go true r = ap (cond (q x) (Some x)) r
  go false r = r

abbrev pub both : {X Y : Type 0} → (X → Bool) → (X → Option Y) → X → Option Y
both p h y = cond (p y) (h y) None

pub filter_map_filter : {X Y : Type 0} (p : X → Bool) (h : X → Option Y) (xs : List X) → filter_map h (filter p xs) ≡ filter_map (both p h) xs
filter_map_filter p h [] = refl
filter_map_filter p h (x ∷ xs) = go (p x) (filter_map_filter p h xs) where
  go : (b : Bool) → filter_map h (filter p xs) ≡ filter_map (both p h) xs → filter_map h (cond b (x ∷ filter p xs) (filter p xs)) ≡ cons_option (cond b (h x) None) (filter_map (both p h) xs)
  go true r = ap (cons_option (h x)) r
  go false r = r

-- how many elements of a list give something
abbrev pub given : {X Y : Type 0} → (X → Option Y) → List X → ℕ
given h xs = count_by (λ x. is_some (h x)) xs

pub given-cons : {X Y : Type 0} (h : X → Option Y) (x : X) (xs : List X) → given h (x ∷ xs) ≡ cond (is_some (h x)) 1 0 + given h xs
given-cons h x xs = sum_by-cons (λ y. cond (is_some (h y)) 1 0) x xs

pub given-some : {X Y : Type 0} (h : X → Option Y) (x : X) (y : Y) (xs : List X) → h x ≡ Some y → given h (x ∷ xs) ≡ suc (given h xs)
given-some h x y xs e = let s : is_some (h x) ≡ true = ap is_some e in let t : ◌≡◌ {A = ℕ} (cond (is_some (h x)) 1 0) 1 = ap (λ b. cond b 1 0) s in omega (arith, given-cons h x xs, t)

pub given-none : {X Y : Type 0} (h : X → Option Y) (x : X) (xs : List X) → h x ≡ None → given h (x ∷ xs) ≡ given h xs
given-none h x xs e = let s : is_some (h x) ≡ false = ap is_some e in let t : ◌≡◌ {A = ℕ} (cond (is_some (h x)) 1 0) 0 = ap (λ b. cond b 1 0) s in omega (arith, given-cons h x xs, t)

pub record IsGiven {X Y : Type 0} (h : X → Option Y) (xs : List X) (n : ℕ) (y : Y) : Type 0 where
  pub i : ℕ
  pub item : X
  pub at : slice_get xs i ≡ Some item
  pub gives : h item ≡ Some y
  pub place : n ≡ given h (take i xs)

pub filter_map_at : {X Y : Type 0} (h : X → Option Y) (xs : List X) (n : ℕ) (y : Y) → slice_get (filter_map h xs) n ≡ Some y → IsGiven h xs n y
filter_map_at h [] n y e = cc
filter_map_at {X} {Y} h (x ∷ xs) n y e = go (h x) refl n (λ m f. filter_map_at h xs m y f) e where
  go : (o : Option Y) → h x ≡ o → (m : ℕ) → ((k : ℕ) → slice_get (filter_map h xs) k ≡ Some y → IsGiven h xs k y) → slice_get (cons_option o (filter_map h xs)) m ≡ Some y → IsGiven h (x ∷ xs) m y
  go None g m r f = let s = r m f in record { i = suc s.i; item = s.item; at = s.at; gives = s.gives; place = s.place ∙ sym (given-none h x (take s.i xs) g) }
  go (Some z) g zero r f = record { i = 0; item = x; at = refl; gives = g ∙ f; place = refl }
  go (Some z) g (suc m) r f = let s = r m f in record { i = suc s.i; item = s.item; at = s.at; gives = s.gives; place = ap suc s.place ∙ sym (given-some h x z (take s.i xs) g) }

pub filter_map_from : {X Y : Type 0} (h : X → Option Y) (xs : List X) (i : ℕ) (x : X) (y : Y) → slice_get xs i ≡ Some x → h x ≡ Some y → slice_get (filter_map h xs) (given h (take i xs)) ≡ Some y
filter_map_from h [] i x y at e = cc
filter_map_from h (w ∷ xs) zero x y at e = ap (λ o. slice_get (cons_option o (filter_map h xs)) 0) (ap h (same_Some w x at) ∙ e)
filter_map_from {X} {Y} h (w ∷ xs) (suc i) x y at e = go (h w) refl (filter_map_from h xs i x y at e) where
  go : (o : Option Y) → h w ≡ o → slice_get (filter_map h xs) (given h (take i xs)) ≡ Some y → slice_get (cons_option o (filter_map h xs)) (given h (w ∷ take i xs)) ≡ Some y
  go None g r = ap (slice_get (filter_map h xs)) (given-none h w (take i xs) g) ∙ r
  go (Some z) g r = ap (slice_get (z ∷ filter_map h xs)) (given-some h w z (take i xs) g) ∙ r

-- ---- maps, ranges and counts

pub map_at : {X Y : Type 0} (f : X → Y) (xs : List X) (k : ℕ) (y : Y) → slice_get (map f xs) k ≡ Some y → (x : X) × (slice_get xs k ≡ Some x) × (f x ≡ y)
map_at f [] k y e = cc
map_at f (x ∷ xs) zero y e = (x, refl, same_Some (f x) y e)
map_at f (x ∷ xs) (suc k) y e = map_at f xs k y e

pub map_from : {X Y : Type 0} (f : X → Y) (xs : List X) (k : ℕ) (x : X) → slice_get xs k ≡ Some x → slice_get (map f xs) k ≡ Some (f x)
map_from f [] k x e = cc
map_from f (w ∷ xs) zero x e = ap (λ v. Some (f v)) (same_Some w x e)
map_from f (w ∷ xs) (suc k) x e = map_from f xs k x e

pub range_at : (a n k y : ℕ) → slice_get (range_with_len a n) k ≡ Some y → (y ≡ a + k) × (k < n)
range_at a zero k y e = cc
range_at a (suc n) zero y e = (omega (arith, same_Some a y e), omega arith)
range_at a (suc n) (suc k) y e = let r = range_at (a + 1) n k y e in (omega (arith, r.0), omega (arith, r.1))

pub range_from : (a n k : ℕ) → k < n → slice_get (range_with_len a n) k ≡ Some (a + k)
range_from a zero k l = absurd (omega arith)
range_from a (suc n) zero l = let s : a ≡ a + 0 = omega arith in ap Some s
range_from a (suc n) (suc k) l = let s : (a + 1) + k ≡ a + suc k = omega arith in range_from (a + 1) n k (omega arith) ∙ ap Some s

pub range_length : (a n : ℕ) → length (range_with_len a n) ≡ n
range_length a zero = refl
range_length a (suc n) = ap suc (range_length (a + 1) n)

module _ {X : Type 0} (p : X → Bool) where
  pub count-cons : (x : X) (xs : List X) → count_by p (x ∷ xs) ≡ cond (p x) 1 0 + count_by p xs
  count-cons x xs = sum_by-cons (λ y. cond (p y) 1 0) x xs

  pub count-yes : (x : X) (xs : List X) → p x ≡ true → count_by p (x ∷ xs) ≡ suc (count_by p xs)
  count-yes x xs e = let t : ◌≡◌ {A = ℕ} (cond (p x) 1 0) 1 = ap (λ b. cond b 1 0) e in omega (arith, count-cons x xs, t)

  pub count-no : (x : X) (xs : List X) → p x ≡ false → count_by p (x ∷ xs) ≡ count_by p xs
  count-no x xs e = let t : ◌≡◌ {A = ℕ} (cond (p x) 1 0) 0 = ap (λ b. cond b 1 0) e in omega (arith, count-cons x xs, t)

  -- what passes before an element that passes is less than all that passes
  pub count_before : (xs : List X) (i : ℕ) (x : X) → slice_get xs i ≡ Some x → p x ≡ true → count_by p (take i xs) < count_by p xs
  count_before [] i x at e = cc
  count_before (w ∷ xs) zero x at e = omega (arith, count-yes w xs (ap p (same_Some w x at) ∙ e))
  count_before (w ∷ xs) (suc i) x at e = let r = count_before xs i x at e in omega (arith, count-cons w (take i xs), count-cons w xs, r)

  -- the counts before two places, the first of which passes
  pub count_apart : (xs : List X) (i j : ℕ) (x : X) → slice_get xs i ≡ Some x → p x ≡ true → i < j → count_by p (take i xs) < count_by p (take j xs)
  count_apart [] i j x at e l = cc
  count_apart (w ∷ xs) i zero x at e l = absurd (omega arith)
  count_apart (w ∷ xs) zero (suc j) x at e l = omega (arith, count-yes w (take j xs) (ap p (same_Some w x at) ∙ e))
  count_apart (w ∷ xs) (suc i) (suc j) x at e l = let r = count_apart xs i j x at e (omega arith) in omega (arith, count-cons w (take i xs), count-cons w (take j xs), r)

  pub count_rises : (xs : List X) (i j : ℕ) → i ≤ j → count_by p (take i xs) ≤ count_by p (take j xs)
  count_rises xs zero j l = omega arith
  count_rises xs (suc i) zero l = absurd (omega arith)
  count_rises [] (suc i) (suc j) l = omega arith
  count_rises (w ∷ xs) (suc i) (suc j) l = let r = count_rises xs i j (omega arith) in omega (arith, count-cons w (take i xs), count-cons w (take j xs), r)

  -- the element that passes behind so many others that pass
  pub record IsNth (xs : List X) (n : ℕ) : Type 0 where
    pub i : ℕ
    pub item : X
    pub at : slice_get xs i ≡ Some item
    pub passes : p item ≡ true
    pub place : count_by p (take i xs) ≡ n

  pub nth : (xs : List X) (n : ℕ) → n < count_by p xs → IsNth xs n
  nth [] n l = absurd (omega arith)
  nth (w ∷ xs) n l = go (p w) refl n l (λ m h. nth xs m h) where
    go : (b : Bool) → p w ≡ b → (m : ℕ) → m < count_by p (w ∷ xs) → ((k : ℕ) → k < count_by p xs → IsNth xs k) → IsNth (w ∷ xs) m
    go true t zero h r = record { i = 0; item = w; at = refl; passes = t; place = refl }
    go true t (suc m) h r = let s = r m (omega (arith, h, count-yes w xs t)) in record { i = suc s.i; item = s.item; at = s.at; passes = s.passes; place = omega (arith, count-yes w (take s.i xs) t, s.place) }
    go false f m h r = let s = r m (omega (arith, h, count-no w xs f)) in record { i = suc s.i; item = s.item; at = s.at; passes = s.passes; place = omega (arith, count-no w (take s.i xs) f, s.place) }

pub get_at : {X : Type 0} (xs : List X) (i : ℕ) → i < length xs → (x : X) × (slice_get xs i ≡ Some x)
get_at [] i l = absurd (omega arith)
get_at (x ∷ xs) zero l = (x, refl)
get_at (x ∷ xs) (suc i) l = get_at xs i (omega arith)

-- all elements of a list, of which the last one stands at a place
pub take_last : {X : Type 0} (xs : List X) (i : ℕ) (x : X) → slice_get xs i ≡ Some x → i + 1 ≡ length xs → take i xs ++ x ∷ [] ≡ xs
take_last [] i x e l = cc
take_last (w ∷ []) zero x e l = ap (λ y. y ∷ []) (sym (same_Some w x e))
take_last (w ∷ v ∷ xs) zero x e l = absurd (omega arith)
take_last (w ∷ xs) (suc i) x e l = ap (λ ys. w ∷ ys) (take_last xs i x e (omega arith))

pub find_none : {X : Type 0} (test : X → Bool) (xs : List X) (i : ℕ) (y : X) → find test xs ≡ None → slice_get xs i ≡ Some y → test y ≡ false
find_none test xs i y e at = elim (cases_Bool (test y)) [ inl t ↦ let f = find_from test xs i y at t in absurd (none-some f.0 (sym e ∙ f.1)) | inr f ↦ f ]

module _ {X : Type 0} (p q : X → Bool) (all : (x : X) → p x ≡ true → q x ≡ true) where
  here_rises : (x : X) → cond (p x) 1 0 ≤ cond (q x) 1 0
  here_rises x = go (p x) (q x) (all x) where
    go : (a b : Bool) → (a ≡ true → b ≡ true) → cond a 1 0 ≤ cond b 1 0
    go true true h = omega arith
    go true false h = absurd (both_ways false refl (h refl))
    go false b h = omega arith

  pub count_more : (xs : List X) → count_by p xs ≤ count_by q xs
  count_more xs = sum_by-le-sum_by (λ x. cond (p x) 1 0) (λ x. cond (q x) 1 0) xs here_rises

  -- one test passes more than another, where it passes all of its and one besides
  pub count_strict : (xs : List X) (i : ℕ) (x : X) → slice_get xs i ≡ Some x → p x ≡ false → q x ≡ true → count_by p xs < count_by q xs
  count_strict [] i x e f t = cc
  count_strict (w ∷ xs) zero x e f t = omega (arith, count_more xs, count-no p w xs (ap p (same_Some w x e) ∙ f), count-yes q w xs (ap q (same_Some w x e) ∙ t))
  count_strict (w ∷ xs) (suc i) x e f t = let r = count_strict xs i x e f t in omega (arith, r, here_rises w, count-cons p w xs, count-cons q w xs)

-- where each element gives something, so many give something as there are
pub given_all : {X Y : Type 0} (h : X → Option Y) (xs : List X) (i : ℕ) → ((j : ℕ) (x : X) → slice_get xs j ≡ Some x → is_some (h x) ≡ true) → i ≤ length xs → given h (take i xs) ≡ i
given_all h xs zero all l = refl
given_all h [] (suc i) all l = absurd (omega arith)
given_all h (x ∷ xs) (suc i) all l =
    let r = given_all h xs i (λ j y e. all (suc j) y e) (omega arith) in
    let t : ◌≡◌ {A = ℕ} (cond (is_some (h x)) 1 0) 1 = ap (λ b. cond b 1 0) (all 0 x refl) in
    omega (arith, given-cons h x (take i xs), r, t)

pub filter_map_short : {X Y : Type 0} (h : X → Option Y) (xs : List X) → length (filter_map h xs) ≤ length xs
filter_map_short h [] = omega arith
filter_map_short {X} {Y} h (x ∷ xs) = go (h x) (filter_map_short h xs) where
  go : (o : Option Y) → length (filter_map h xs) ≤ length xs → length (cons_option o (filter_map h xs)) ≤ suc (length xs)
  go None l = omega arith
  go (Some y) l = omega arith

pub slice_get-take : {X : Type 0} (xs : List X) (i j : ℕ) → i < j → slice_get (take j xs) i ≡ slice_get xs i
slice_get-take xs i zero l = absurd (omega arith)
slice_get-take [] i (suc j) l = refl
slice_get-take (x ∷ xs) zero (suc j) l = refl
slice_get-take (x ∷ xs) (suc i) (suc j) l = slice_get-take xs i j (omega arith)

pub all_filtered : {X : Type 0} (test p : X → Bool) (xs : List X) (i : ℕ) (y : X) → list_all test (filter p xs) ≡ true → slice_get xs i ≡ Some y → p y ≡ true → test y ≡ true
all_filtered test p [] i y e at t = cc
all_filtered test p (x ∷ xs) i y e at t = go (p x) refl i e at (λ j f a. all_filtered test p xs j y f a t) where
  go : (b : Bool) → p x ≡ b → (j : ℕ) → list_all test (cond b (x ∷ filter p xs) (filter p xs)) ≡ true → slice_get (x ∷ xs) j ≡ Some y → ((k : ℕ) → list_all test (filter p xs) ≡ true → slice_get xs k ≡ Some y → test y ≡ true) → test y ≡ true
  go true u zero f a r = ap test (sym (same_Some x y a)) ∙ (and_parts _ _ f).0
  go true u (suc j) f a r = r j (and_parts _ _ f).1 a
  go false u zero f a r = absurd (both_ways _ u (ap p (same_Some x y a) ∙ t))
  go false u (suc j) f a r = r j f a

pub filter_at : {X : Type 0} (p : X → Bool) (xs : List X) (k : ℕ) (y : X) → slice_get (filter p xs) k ≡ Some y → Found xs (λ z. (z ≡ y) × (p y ≡ true))
filter_at p [] k y e = cc
filter_at {X} p (x ∷ xs) k y e = go (p x) refl k e (λ j f. filter_at p xs j y f) where
  go : (b : Bool) → p x ≡ b → (j : ℕ) → slice_get (cond b (x ∷ filter p xs) (filter p xs)) j ≡ Some y → ((n : ℕ) → slice_get (filter p xs) n ≡ Some y → Found xs (λ z. (z ≡ y) × (p y ≡ true))) → Found (x ∷ xs) (λ z. (z ≡ y) × (p y ≡ true))
  go true t zero f r = record { i = 0; item = x; at = refl; holds = (same_Some x y f, ap p (sym (same_Some x y f)) ∙ t) }
  go true t (suc j) f r = behind x (r j f)
  go false t j f r = behind x (r j f)

pub take_range : (a n k : ℕ) → k ≤ n → take k (range_with_len a n) ≡ range_with_len a k
take_range a n zero l = refl
take_range a zero (suc k) l = absurd (omega arith)
take_range a (suc n) (suc k) l = ap (λ r. a ∷ r) (take_range (a + 1) n k (omega arith))

pub sum_filtered : {X : Type 0} (p : X → Bool) (f : X → ℕ) (xs : List X) → sum_by f (filter p xs) ≡ sum_by (λ x. cond (p x) (f x) 0) xs
sum_filtered p f [] = refl
sum_filtered p f (x ∷ xs) = go (p x) refl (sum_filtered p f xs) where
  go : (b : Bool) → p x ≡ b → sum_by f (filter p xs) ≡ sum_by (λ y. cond (p y) (f y) 0) xs → sum_by f (cond b (x ∷ filter p xs) (filter p xs)) ≡ sum_by (λ y. cond (p y) (f y) 0) (x ∷ xs)
  go true t r = let h : cond (p x) (f x) 0 ≡ f x = ap (λ b. cond b (f x) 0) t in omega (arith, sum_by-cons f x (filter p xs), sum_by-cons (λ y. cond (p y) (f y) 0) x xs, r, h)
  go false t r = let h : cond (p x) (f x) 0 ≡ 0 = ap (λ b. cond b (f x) 0) t in omega (arith, sum_by-cons (λ y. cond (p y) (f y) 0) x xs, r, h)

pub filter_contains : {X : Type 0} (p : X → Bool) (xs : List X) (i : ℕ) (y : X) → slice_get xs i ≡ Some y → p y ≡ true → Contains (filter p xs) y
filter_contains p [] i y e t = cc
filter_contains p (x ∷ xs) zero y e t = go (p x) (ap p (same_Some x y e) ∙ t) where
  go : (b : Bool) → b ≡ true → Contains (cond b (x ∷ filter p xs) (filter p xs)) y
  go true h = (0, omega arith, same_Some x y e)
  go false h = cc
filter_contains p (x ∷ xs) (suc i) y e t = go (p x) (filter_contains p xs i y e t) where
  go : (b : Bool) → Contains (filter p xs) y → Contains (cond b (x ∷ filter p xs) (filter p xs)) y
  go true h = (suc h.0, omega (arith, h.1), h.2)
  go false h = h

pub map_contains : {X Y : Type 0} (f : X → Y) (xs : List X) (y : X) → Contains xs y → Contains (map f xs) (f y)
map_contains f [] y c = absurd (omega (arith, c.1))
map_contains f (x ∷ xs) y (zero, l, e) = (0, omega arith, ap f e)
map_contains f (x ∷ xs) y (suc k, l, e) = let r = map_contains f xs y (k, omega arith, e) in (suc r.0, omega (arith, r.1), r.2)
