-- Regions that pass the paths from their block up to the blocks of a test, and at their own block stop or go on.
use Rattle.std.proofs.Common.{◌≡◌, ◌≢◌, ◌⊎◌, ◌↔◌, inl, inr, ℕ, zero, suc, ◌+◌, ◌<◌, ◌≤◌, Bool, true, false, not, eqb, ◌&&◌, List, [], ◌∷◌, ◌++◌, length, Option, Some, None, refl, sym, ap, subst, ◌∙◌, arith, append-nil, append_assoc, length-append, eq-eqb, ne_eqb}
use Rattle.std.proofs.lemmas.Bool.{cases_Bool, cases_eq, both_ways, and_parts, and_from, and_left, and_right, not-true, not_from_false, not_from_true, eqb-true, eqb-false, false_from_ne_true}
use Rattle.std.proofs.lemmas.Option.{same_Some}
use Rattle.std.specs.List.{slice_get, Contains}
use Rattle.dxil_form.specs.declared.program.Program.{Program}
use Rattle.dxil_form.specs.declared.region.Region.{Region}
use Rattle.dxil_form.specs.Branches.{branches}
use Rattle.dxil_form.specs.Walks.{Goes, Passes}
use Rattle.dxil_form.specs.Walks.Passes.{nothing}
use Rattle.region_laws.specs.Paths.{Run, Fits, PassesUpTo}
use Rattle.region_laws.specs.Paths.Run.{one, more}
use Rattle.region_laws.specs.Standing.{less, Turned, Stands}
use Rattle.region_laws.proofs.Runs.{Visit, run_wider, run_append, split}

-- the test without the blocks of another
abbrev pub minus : (ℕ → Bool) → (ℕ → Bool) → ℕ → Bool
minus e t x = e x && not (t x)

pub less_parts : (e : ℕ → Bool) (a x : ℕ) → less e a x ≡ true → (e x ≡ true) × (x ≢ a)
less_parts e a x h = let (t, n) = and_parts (e x) (not (eqb x a)) h in (t, eqb-false x a (not-true (eqb x a) n))

pub less_from : (e : ℕ → Bool) (a x : ℕ) → e x ≡ true → x ≢ a → less e a x ≡ true
less_from e a x t n = and_from (e x) (not (eqb x a)) t (not_from_false (eqb x a) (ne_eqb x a n))

pub less_own : (e : ℕ → Bool) (a : ℕ) → less e a a ≡ false
less_own e a = and_right (e a) (not (eqb a a)) (not_from_true (eqb a a) (eq-eqb a a refl))

pub minus_parts : (e t : ℕ → Bool) (x : ℕ) → minus e t x ≡ true → (e x ≡ true) × (t x ≡ false)
minus_parts e t x h = let (y, n) = and_parts (e x) (not (t x)) h in (y, not-true (t x) n)

pub minus_from : (e t : ℕ → Bool) (x : ℕ) → e x ≡ true → t x ≡ false → minus e t x ≡ true
minus_from e t x y n = and_from (e x) (not (t x)) y (not_from_false (t x) n)

-- what holds where the second passes fails where it fails
pub fails : (e f : ℕ → Bool) → ((x : ℕ) → f x ≡ true → e x ≡ true) → (x : ℕ) → e x ≡ false → f x ≡ false
fails e f k x h = false_from_ne_true (f x) (λ t. both_ways (e x) h (k x t))

-- what is wanted passes the test not
abbrev pub NotIn : (ℕ → Bool) → Option ℕ → Type 0
NotIn t None = Unit {0}
NotIn t (Some k) = t k ≡ false

pub fits_more : (p : Program) (e f : ℕ → Bool) → ((x : ℕ) → e x ≡ true → f x ≡ true) → (x : ℕ) (o : Option ℕ) → Fits p e x o → Fits p f x o
fits_more p e f k x None h = h
fits_more p e f k x (Some o) (t, h) = (t, k o h)

module _ (p : Program) (list : List Region) where
  -- a region that never wants its own block passes exactly the paths up to the other blocks
  pub exact : (r b : ℕ) (stops : ℕ → Bool) → Stands p list r b stops → ((w : List ℕ) → Goes p list r w (Some b) → ⊥) → PassesUpTo p list r b (less stops b)
  exact r b stops s never = record {
    goes = λ w o. (
      λ g. (let (x, m, f) = s.goes w o g in (x, m, narrow w o x g f)),
      λ k. (let (x, m, f) = k in elim (s.comes w o x m f) [ inl g ↦ g | inr z ↦ absurd (never z.before z.goes) ]),
    );
    passes = λ w. (s.passes w, back w);
  }
    where
      narrow : (w : List ℕ) (o : Option ℕ) (x : ℕ) → Goes p list r w o → Fits p stops x o → Fits p (less stops b) x o
      narrow w None x g f = f
      narrow w (Some k) x g (t, h) = (t, less_from stops b k h (λ q. (let P : ℕ → Type 0 = λ y. Goes p list r w (Some y) in never w (subst P q g))))

      back : (w : List ℕ) → (w ≡ []) ⊎ ((x : ℕ) × Run p (less stops b) b w x) → Passes p list r w
      back w (inl q) = let P : List ℕ → Type 0 = λ l. Passes p list r l in subst P (sym q) nothing
      back w (inr (x, m)) = elim (s.passed w x m) [ inl g ↦ g | inr z ↦ absurd (never z.before z.goes) ]

  pub from_exact : (r b : ℕ) (stops : ℕ → Bool) → PassesUpTo p list r b (less stops b) → Stands p list r b stops
  from_exact r b stops s = record {
    goes = λ w o g. (let (x, m, f) = (s.goes w o).0 g in (x, m, fits_more p (less stops b) stops (λ y t. (less_parts stops b y t).0) x o f));
    comes = λ w o x m f. inl ((s.goes w o).1 (x, m, f));
    passes = λ w g. (s.passes w).0 g;
    passed = λ w x m. inl ((s.passes w).1 (inr (x, m)));
  }

  -- a region that stops at each block of the test, its own too
  pub from_stopping : (r b : ℕ) (stops : ℕ → Bool) → PassesUpTo p list r b stops → Stands p list r b stops
  from_stopping r b stops s = record {
    goes = λ w o g. (let (x, m, f) = (s.goes w o).0 g in (x, widen m, f));
    comes = λ w o x m f. elim (split p stops (less stops b) m) [
      | inl k ↦ inl ((s.goes w o).1 (x, k, fits_more p (less stops b) stops (λ y t. (less_parts stops b y t).0) x o f))
      | inr v ↦ inr (turn w x v)
    ];
    passes = λ w g. elim ((s.passes w).0 g) [ inl q ↦ inl q | inr (x, m) ↦ inr (x, widen m) ];
    passed = λ w x m. elim (split p stops (less stops b) m) [ inl k ↦ inl ((s.passes w).1 (inr (x, k))) | inr v ↦ inr (turn w x v) ];
  }
    where
      widen : {c x : ℕ} {w : List ℕ} → Run p stops c w x → Run p (less stops b) c w x
      widen m = run_wider p stops (less stops b) (fails stops (less stops b) (λ y t. (less_parts stops b y t).0)) m

      own : (x : ℕ) → stops x ≡ true → less stops b x ≡ false → x ≡ b
      own x t f = elim (cases_eq x b) [ inl q ↦ q | inr n ↦ absurd (both_ways (less stops b x) f (less_from stops b x t n)) ]

      turn : (w : List ℕ) (x : ℕ) → Visit p stops (less stops b) b x w → Turned p list r b stops w x
      turn w x v =
          let q = own v.at v.passes v.avoids in
          let P : ℕ → Type 0 = λ y. Goes p list r v.before (Some y) in
          let Q : ℕ → Type 0 = λ y. Run p (less stops b) y v.behind x in
          record {
            before = v.before;
            behind = v.behind;
            goes = subst P q ((s.goes v.before (Some v.at)).1 (v.last, v.reaches, (v.edge, v.passes)));
            rest = subst Q q v.rest;
            joined = v.joined;
            shorter = v.shorter;
          }

  -- a turn in the first part of a path is one in the whole
  turned_on : (r s b : ℕ) (stops now : ℕ → Bool) → ((x : ℕ) → less now b x ≡ true → less stops b x ≡ true)
      → (before behind w : List ℕ) (last at x : ℕ) (z : Turned p list r b stops before last) → Goes p list s z.before (Some b)
      → branches p last at ≡ true → less now b at ≡ false → Run p (less now b) at behind x → w ≡ before ++ behind → Turned p list s b now w x
  turned_on r s b stops now k before behind w last at x z g d n m q = record {
    before = z.before;
    behind = z.behind ++ behind;
    goes = g;
    rest = run_append p (less now b) (run_wider p (less stops b) (less now b) (fails (less stops b) (less now b) k) z.rest) d n m;
    joined = q ∙ ap (λ (l : List ℕ). l ++ behind) z.joined ∙ append_assoc z.before z.behind behind;
    shorter = (let l = z.shorter in
        let e = length-append z.behind behind in
        let f : length w ≡ length before + length behind = ap (λ (l : List ℕ). length l) q ∙ length-append before behind in omega arith);
  }

  turned_whole : (r s b : ℕ) (stops now : ℕ → Bool) → ((x : ℕ) → less now b x ≡ true → less stops b x ≡ true)
      → (w : List ℕ) (x : ℕ) (z : Turned p list r b stops w x) → Goes p list s z.before (Some b) → Turned p list s b now w x
  turned_whole r s b stops now k w x z g = record {
    before = z.before;
    behind = z.behind;
    goes = g;
    rest = run_wider p (less stops b) (less now b) (fails (less stops b) (less now b) k) z.rest;
    joined = z.joined;
    shorter = z.shorter;
  }

  -- ---- a root that stays, where some blocks no longer enter one
  module _ (r b : ℕ) (stops t : ℕ → Bool) (s : Stands p list r b stops) (never : (k : ℕ) → t k ≡ true → (w : List ℕ) → Goes p list r w (Some k) → ⊥) where
    abbrev fewer : ℕ → Bool
    fewer = minus stops t

    abbrev old : ℕ → Bool
    old = less stops b

    abbrev new : ℕ → Bool
    new = less fewer b

    new_old : (x : ℕ) → new x ≡ true → old x ≡ true
    new_old x h = let (y, n) = less_parts fewer b x h in less_from stops b x (minus_parts stops t x y).0 n

    widen : {c x : ℕ} {w : List ℕ} → Run p old c w x → Run p new c w x
    widen m = run_wider p old new (fails old new new_old) m

    dropped : (x : ℕ) → old x ≡ true → new x ≡ false → t x ≡ true
    dropped x h f = elim (cases_Bool (t x)) [
      | inl y ↦ y
      | inr n ↦ (let (y, m) = less_parts stops b x h in absurd (both_ways (new x) f (less_from fewer b x (minus_from stops t x y n) m)))
    ]

    narrow : (w : List ℕ) (o : Option ℕ) (x : ℕ) → Goes p list r w o → Fits p stops x o → Fits p fewer x o
    narrow w None x g f = f
    narrow w (Some k) x g (d, h) = (d, minus_from stops t k h (false_from_ne_true (t k) (λ y. never k y w g)))

    -- the first part of a path that goes on behind such a block
    turn : (w : List ℕ) (x : ℕ) → Visit p old new b x w → Turned p list r b fewer w x
    turn w x v = elim (s.comes v.before (Some v.at) v.last v.reaches (v.edge, v.passes)) [
      | inl g ↦ absurd (never v.at (dropped v.at v.passes v.avoids) v.before g)
      | inr z ↦ turned_on r r b stops fewer new_old v.before v.behind w v.last v.at x z z.goes v.edge v.avoids v.rest v.joined
    ]

    pub drop : Stands p list r b fewer
    drop = record {
      goes = λ w o g. (let (x, m, f) = s.goes w o g in (x, widen m, narrow w o x g f));
      comes = λ w o x m f. elim (split p old new m) [
        | inl k ↦ elim (s.comes w o x k (fits_more p new old new_old x o f)) [
          | inl g ↦ inl g
          | inr z ↦ inr (turned_whole r r b stops fewer new_old w x z z.goes)
        ]
        | inr v ↦ inr (turn w x v)
      ];
      passes = λ w g. elim (s.passes w g) [ inl q ↦ inl q | inr (x, m) ↦ inr (x, widen m) ];
      passed = λ w x m. elim (split p old new m) [
        | inl k ↦ elim (s.passed w x k) [
          | inl g ↦ inl g
          | inr z ↦ inr (turned_whole r r b stops fewer new_old w x z z.goes)
        ]
        | inr v ↦ inr (turn w x v)
      ];
    }

  -- ---- a region s that passes r, and goes on with c where r wants a block k that leads to c
  pub record Leads (s r : ℕ) (to : ℕ → ℕ → Type 0) (t : ℕ → Bool) : Type 0 where
    pub leave : (w : List ℕ) (o : Option ℕ) → Goes p list r w o → NotIn t o → Goes p list s w o
    pub go_on : (w v : List ℕ) (k c : ℕ) (o : Option ℕ) → Goes p list r w (Some k) → to k c → Goes p list c v o → Goes p list s (w ++ v) o
    pub goes : (w : List ℕ) (o : Option ℕ) → Goes p list s w o
        → (Goes p list r w o × NotIn t o) ⊎ ((k : ℕ) × (c : ℕ) × (u : List ℕ) × (v : List ℕ) × to k c × Goes p list r u (Some k) × Goes p list c v o × (w ≡ u ++ v))
    pub pass : (w : List ℕ) → Passes p list r w → Passes p list s w
    pub pass_on : (w v : List ℕ) (k c : ℕ) → Goes p list r w (Some k) → to k c → Passes p list c v → Passes p list s (w ++ v)
    pub passes : (w : List ℕ) → Passes p list s w
        → (w ≡ []) ⊎ (Passes p list r w ⊎ ((k : ℕ) × (c : ℕ) × (u : List ℕ) × (v : List ℕ) × to k c × Goes p list r u (Some k) × Passes p list c v × (w ≡ u ++ v)))

  module _ (s r a : ℕ) (to : ℕ → ℕ → Type 0) (t : ℕ → Bool) (tells : (k : ℕ) → t k ≡ true → (c : ℕ) × to k c) (told : (k c : ℕ) → to k c → t k ≡ true)
      (way : Leads s r to t) (stops : ℕ → Bool) (own : t a ≡ false) (first : Stands p list r a stops)
      (second : (k c : ℕ) → to k c → PassesUpTo p list c k (less stops k)) (entry : (k c : ℕ) → to k c → stops k ≡ true)
      (apart : (k c j d : ℕ) → to k c → to j d → (w : List ℕ) → Goes p list c w (Some j) → ⊥) where
    abbrev left : ℕ → Bool
    left = minus stops t

    abbrev was : ℕ → Bool
    was = less stops a

    abbrev is : ℕ → Bool
    is = less left a

    is_was : (x : ℕ) → is x ≡ true → was x ≡ true
    is_was x h = let (y, n) = less_parts left a x h in less_from stops a x (minus_parts stops t x y).0 n

    wide : {c x : ℕ} {w : List ℕ} → Run p was c w x → Run p is c w x
    wide m = run_wider p was is (fails was is is_was) m

    visited : (x : ℕ) → was x ≡ true → is x ≡ false → t x ≡ true
    visited x h f = elim (cases_Bool (t x)) [
      | inl y ↦ y
      | inr n ↦ (let (y, m) = less_parts stops a x h in absurd (both_ways (is x) f (less_from left a x (minus_from stops t x y n) m)))
    ]

    is_second : (k c : ℕ) → to k c → (x : ℕ) → is x ≡ true → less stops k x ≡ true
    is_second k c l x h =
        let (y, n) = less_parts left a x h in
        let (z, f) = minus_parts stops t x y in
        less_from stops k x z (λ q. (let P : ℕ → Type 0 = λ u. t u ≡ true in both_ways (t x) f (subst P (sym q) (told k c l))))

    wide_second : (k c : ℕ) → to k c → {b x : ℕ} {w : List ℕ} → Run p (less stops k) b w x → Run p is b w x
    wide_second k c l m = run_wider p (less stops k) is (fails (less stops k) is (is_second k c l)) m

    behind_second : (k x : ℕ) → less stops k x ≡ true → is x ≡ false → (t x ≡ true) ⊎ (x ≡ a)
    behind_second k x h f = elim (cases_Bool (t x)) [
      | inl y ↦ inl y
      | inr n ↦ elim (cases_eq x a) [
        | inl q ↦ inr q
        | inr m ↦ absurd (both_ways (is x) f (less_from left a x (minus_from stops t x (less_parts stops k x h).0 n) m))
      ]
    ]

    not_is : (k c : ℕ) → to k c → is k ≡ false
    not_is k c l = false_from_ne_true (is k) (λ h. (let (y, _) = less_parts left a k h in both_ways (t k) (minus_parts stops t k y).1 (told k c l)))

    exit_first : (o : Option ℕ) (x : ℕ) → Fits p stops x o → NotIn t o → Fits p left x o
    exit_first None x f n = f
    exit_first (Some k) x (d, h) n = (d, minus_from stops t k h n)

    exit_second : (k c : ℕ) (l : to k c) (v : List ℕ) (o : Option ℕ) (x : ℕ) → Goes p list c v o → Fits p (less stops k) x o → Fits p left x o
    exit_second k c l v None x g f = f
    exit_second k c l v (Some j) x g (d, h) =
        (d, minus_from stops t j (less_parts stops k j h).0 (false_from_ne_true (t j) (λ y. (let (e, m) = tells j y in apart k c j e l m v g))))

    not_in : (o : Option ℕ) (x : ℕ) → Fits p is x o → NotIn t o
    not_in None x f = tt
    not_in (Some k) x (d, h) = (minus_parts stops t k (less_parts left a k h).0).1

    going_goes : (w : List ℕ) (o : Option ℕ) → Goes p list s w o → (x : ℕ) × Run p is a w x × Fits p left x o
    going_goes w o g = elim (way.goes w o g) [
      | inl (h, n) ↦ (let (x, m, f) = first.goes w o h in (x, wide m, exit_first o x f n))
      | inr (k, c, u, v, l, h, i, q) ↦ (
          let (x, m, f) = first.goes u (Some k) h in
          let (y, z, e) = ((second k c l).goes v o).0 i in
          let P : List ℕ → Type 0 = λ y. (x : ℕ) × Run p is a y x × Fits p left x o in
          subst P (sym q) (y, run_append p is (wide m) f.0 (not_is k c l) (wide_second k c l z), exit_second k c l v o y i e))
    ]

    own_leaves : (before : List ℕ) → Goes p list r before (Some a) → Goes p list s before (Some a)
    own_leaves before g = way.leave before (Some a) g own

    -- the second part comes back to a
    turn_second : (w : List ℕ) (x : ℕ) (v : Visit p was is a x w) (c : ℕ) → to v.at c → Goes p list r v.before (Some v.at)
        → Visit p (less stops v.at) is v.at x v.behind → Turned p list s a left w x
    turn_second w x v c l g y =
        let h : Goes p list c y.before (Some y.at) = ((second v.at c l).goes y.before (Some y.at)).1 (y.last, y.reaches, (y.edge, y.passes)) in
        elim (behind_second v.at y.at y.passes y.avoids) [
          | inl u ↦ (let (d, m) = tells y.at u in absurd (apart v.at c y.at d l m y.before h))
          | inr q ↦ (
              let P : ℕ → Type 0 = λ z. Goes p list c y.before (Some z) in
              let Q : ℕ → Type 0 = λ z. Run p is z y.behind x in
              record {
                before = v.before ++ y.before;
                behind = y.behind;
                goes = way.go_on v.before y.before v.at c (Some a) g l (subst P q h);
                rest = subst Q q y.rest;
                joined = v.joined ∙ ap (λ (z : List ℕ). v.before ++ z) y.joined ∙ sym (append_assoc v.before y.before y.behind);
                shorter = (let i = y.shorter in
                    let e : length w ≡ length v.before + length v.behind = ap (λ (z : List ℕ). length z) v.joined ∙ length-append v.before v.behind in omega arith);
              })
        ]

    going_comes : (w : List ℕ) (o : Option ℕ) (x : ℕ) → Run p is a w x → Fits p is x o → Goes p list s w o ⊎ Turned p list s a left w x
    going_comes w o x m f = go (split p was is m)
      where
        second_part : (v : Visit p was is a x w) (c : ℕ) → to v.at c → Goes p list r v.before (Some v.at) → Goes p list s w o ⊎ Turned p list s a left w x
        second_part v c l g = elim (split p (less stops v.at) is v.rest) [
          | inl k ↦ (
              let P : List ℕ → Type 0 = λ z. Goes p list s z o in
              inl (subst P (sym v.joined) (way.go_on v.before v.behind v.at c o g l
              (((second v.at c l).goes v.behind o).1 (x, k, fits_more p is (less stops v.at) (is_second v.at c l) x o f)))))
          | inr y ↦ inr (turn_second w x v c l g y)
        ]

        go : Run p was a w x ⊎ Visit p was is a x w → Goes p list s w o ⊎ Turned p list s a left w x
        go (inl k) = elim (first.comes w o x k (fits_more p is was is_was x o f)) [
          | inl g ↦ inl (way.leave w o g (not_in o x f))
          | inr z ↦ inr (turned_whole r s a stops left is_was w x z (own_leaves z.before z.goes))
        ]
        go (inr v) =
            let (c, l) = tells v.at (visited v.at v.passes v.avoids) in
            elim (first.comes v.before (Some v.at) v.last v.reaches (v.edge, v.passes)) [
              | inl g ↦ second_part v c l g
              | inr z ↦ inr (turned_on r s a stops left is_was v.before v.behind w v.last v.at x z (own_leaves z.before z.goes) v.edge v.avoids v.rest v.joined)
            ]

    going_passes : (w : List ℕ) → Passes p list s w → (w ≡ []) ⊎ ((x : ℕ) × Run p is a w x)
    going_passes w g = elim (way.passes w g) [
      | inl q ↦ inl q
      | inr (inl h) ↦ elim (first.passes w h) [ inl q ↦ inl q | inr (x, m) ↦ inr (x, wide m) ]
      | inr (inr (k, c, u, v, l, h, i, q)) ↦ (
          let (x, m, f) = first.goes u (Some k) h in
          let P : List ℕ → Type 0 = λ y. Run p is a y x in
          elim (((second k c l).passes v).0 i) [
            | inl e ↦ inr (x, subst P (sym (q ∙ ap (λ (z : List ℕ). u ++ z) e ∙ append-nil u)) (wide m))
            | inr (y, z) ↦ (let Q : List ℕ → Type 0 = λ b. Run p is a b y in
                inr (y, subst Q (sym q) (run_append p is (wide m) f.0 (not_is k c l) (wide_second k c l z))))
          ])
    ]

    going_passed : (w : List ℕ) (x : ℕ) → Run p is a w x → Passes p list s w ⊎ Turned p list s a left w x
    going_passed w x m = go (split p was is m)
      where
        second_part : (v : Visit p was is a x w) (c : ℕ) → to v.at c → Goes p list r v.before (Some v.at) → Passes p list s w ⊎ Turned p list s a left w x
        second_part v c l g = elim (split p (less stops v.at) is v.rest) [
          | inl k ↦ (
              let P : List ℕ → Type 0 = λ z. Passes p list s z in
              inl (subst P (sym v.joined) (way.pass_on v.before v.behind v.at c g l (((second v.at c l).passes v.behind).1 (inr (x, k))))))
          | inr y ↦ inr (turn_second w x v c l g y)
        ]

        go : Run p was a w x ⊎ Visit p was is a x w → Passes p list s w ⊎ Turned p list s a left w x
        go (inl k) = elim (first.passed w x k) [
          | inl g ↦ inl (way.pass w g)
          | inr z ↦ inr (turned_whole r s a stops left is_was w x z (own_leaves z.before z.goes))
        ]
        go (inr v) =
            let (c, l) = tells v.at (visited v.at v.passes v.avoids) in
            elim (first.comes v.before (Some v.at) v.last v.reaches (v.edge, v.passes)) [
              | inl g ↦ second_part v c l g
              | inr z ↦ inr (turned_on r s a stops left is_was v.before v.behind w v.last v.at x z (own_leaves z.before z.goes) v.edge v.avoids v.rest v.joined)
            ]

    pub going_stands : Stands p list s a left
    going_stands = record { goes = going_goes; comes = going_comes; passes = going_passes; passed = going_passed }
