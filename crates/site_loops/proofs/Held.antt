-- How many loops of a row hold each of its blocks behind the first: of rows that are put together.
use Rattle.std.proofs.Common.{◌≡◌, ◌⊎◌, inl, inr, ℕ, zero, suc, ◌+◌, ◌<◌, ◌≤◌, List, [], ◌∷◌, ◌++◌, length, length-append, Some, refl, sym, ap, ◌∙◌, subst, arith}
use Rattle.std.specs.Prelude.{slice_get}
use Rattle.flow_rules.specs.Blocks.{BasicBlock}
use Rattle.row_laws.specs.Rows.{Fine}
use Rattle.row_laws.proofs.Arms.{Arms}
use Rattle.site_loops.specs.Sites.{StandsIn}
use Rattle.site_loops.proofs.Scan.{more}
use Rattle.site_loops.proofs.Over.{bit, holds, holds_there, over, over_split, over_none, over_behind, over_self, over_past, arms_past, Plain, over_one}

-- a place of two lists, one behind the other
pub record Later (ys : List ℕ) (n j d : ℕ) : Type 0 where
  pub i : ℕ
  pub place : j ≡ n + i
  pub there : slice_get ys i ≡ Some d

pub get_split : (xs ys : List ℕ) (j d : ℕ) → slice_get (xs ++ ys) j ≡ Some d → ((j < length xs) × (slice_get xs j ≡ Some d)) ⊎ Later ys (length xs) j d
get_split [] ys j d e = inr (record { i = j; place = omega arith; there = e })
get_split (x ∷ xs) ys zero d e = inl (omega arith, e)
get_split (x ∷ xs) ys (suc j) d e = elim (get_split xs ys j d e) [
  | inl h ↦ inl (omega (arith, h.0), h.1)
  | inr l ↦ (let p = l.place in inr (record { i = l.i; place = omega (arith, p); there = l.there }))
]

inj : {A : Type 0} {a b : A} → Some a ≡ Some b → a ≡ b
inj e = cc

module _ (bs : List BasicBlock) where
  -- behind block k, which begins a row of n blocks and one more
  pub record Held (k n : ℕ) (ds : List ℕ) : Type 0 where
    pub count : length ds ≡ n
    pub held : (j d : ℕ) → slice_get ds j ≡ Some d → Plain bs (k + 1 + j) → over bs k n (k + 1 + j) ≡ d

  -- from block m on
  pub record AreHeld (m n : ℕ) (ds : List ℕ) : Type 0 where
    pub count : length ds ≡ n
    pub held : (j d : ℕ) → slice_get ds j ≡ Some d → Plain bs (m + j) → over bs m n (m + j) ≡ d

  moved : (p q : ℕ) → p ≡ q → Plain bs p → Plain bs q
  moved p q e h = subst (Plain bs) e h

  -- a row, a block that is no header, and blocks behind it
  three : (k n m q : ℕ) → Plain bs (k + n) → over bs k (n + 1 + m) q ≡ over bs k n q + over bs (k + n + 1) m q
  three k n m q plain =
      let one = over_split bs k (n + 1) m q in
      let two = over_split bs k n 1 q in
      let none = over_one bs (k + n) q plain in
      let same = ap (λ z. over bs z m q) (place k n) in
      omega (arith, one, two, none, same)
    where
      place : (k n : ℕ) → k + (n + 1) ≡ k + n + 1
      place k n = omega arith

  pub held_none : (k : ℕ) → Held k 0 []
  held_none k = record { count = refl; held = λ j d e plain. absurd (cc) }

  pub held_onward : (k n m : ℕ) (ds es : List ℕ) → Fine bs k (k + n + 1) → Plain bs (k + n) → Held k n ds → Held (k + n + 1) m es → Held k (n + 1 + m) (ds ++ 0 ∷ es)
  held_onward k n m ds es f plain h g =
      let one = h.count in
      let two = g.count in
      let long = length-append ds (0 ∷ es) in
      record { count = omega (arith, one, two, long); held = held }
    where
      held : (j d : ℕ) → slice_get (ds ++ 0 ∷ es) j ≡ Some d → Plain bs (k + 1 + j) → over bs k (n + 1 + m) (k + 1 + j) ≡ d
      held j d e p = elim (get_split ds (0 ∷ es) j d e) [
        | inl x ↦ (let here = h.held j d x.1 p in
            let count = h.count in
            let parts = three k n m (k + 1 + j) plain in
            let none = over_behind bs (k + n + 1) m (k + 1 + j) (omega (arith, x.0, count)) in
            omega (arith, here, parts, none))
        | inr l ↦ behind l.i l.place l.there
      ]
        where
          behind : (i : ℕ) → j ≡ length ds + i → slice_get (0 ∷ es) i ≡ Some d → over bs k (n + 1 + m) (k + 1 + j) ≡ d
          behind zero place there =
              let count = h.count in
              let at : k + 1 + j ≡ k + n + 1 = omega (arith, place, count) in
              let parts = three k n m (k + 1 + j) plain in
              let past = over_past bs k n (k + 1 + j) f (omega (arith, at)) in
              let self = over_self bs (k + n + 1) m (moved (k + 1 + j) (k + n + 1) at p) in
              let same = ap (λ z. over bs (k + n + 1) m z) at in
              let is : 0 ≡ d = inj there in
              omega (arith, parts, past, self, same, is)
          behind (suc i) place there =
              let count = h.count in
              let at : k + 1 + j ≡ k + n + 1 + 1 + i = omega (arith, place, count) in
              let parts = three k n m (k + 1 + j) plain in
              let past = over_past bs k n (k + 1 + j) f (omega (arith, at)) in
              let here = g.held i d there (moved (k + 1 + j) (k + n + 1 + 1 + i) at p) in
              let same = ap (λ z. over bs (k + n + 1) m z) at in
              omega (arith, parts, past, here, same)

  -- ---- a selection

  pub no_arms_held : (m : ℕ) → AreHeld m 0 []
  no_arms_held m = record { count = refl; held = λ j d e plain. absurd (cc) }

  pub arm_held : (m n k : ℕ) (ds es : List ℕ) → Fine bs m (m + n + 1) → Plain bs (m + n) → Held m n ds → AreHeld (m + n + 1) k es → AreHeld m (1 + n + k) (0 ∷ (ds ++ es))
  arm_held m n k ds es f plain h g =
      let one = h.count in
      let two = g.count in
      let long = length-append ds es in
      record { count = omega (arith, one, two, long); held = held }
    where
      total : (q : ℕ) → over bs m (1 + n + k) q ≡ over bs m n q + over bs (m + n + 1) k q
      total q = ap (λ z. over bs m z q) (sum n k) ∙ three m n k q plain
        where
          sum : (n k : ℕ) → 1 + n + k ≡ n + 1 + k
          sum n k = omega arith

      held : (j d : ℕ) → slice_get (0 ∷ (ds ++ es)) j ≡ Some d → Plain bs (m + j) → over bs m (1 + n + k) (m + j) ≡ d
      held zero d e p =
          let at : m + 0 ≡ m = omega arith in
          let parts = total (m + 0) in
          let self = over_self bs m n (moved (m + 0) m at p) in
          let same = ap (λ z. over bs m n z) at in
          let none = over_behind bs (m + n + 1) k (m + 0) (omega arith) in
          let is : 0 ≡ d = inj e in
          omega (arith, parts, self, same, none, is)
      held (suc j) d e p = elim (get_split ds es j d e) [
        | inl x ↦ (let at : m + suc j ≡ m + 1 + j = omega arith in
            let count = h.count in
            let here = h.held j d x.1 (moved (m + suc j) (m + 1 + j) at p) in
            let same = ap (λ z. over bs m n z) at in
            let parts = total (m + suc j) in
            let none = over_behind bs (m + n + 1) k (m + suc j) (omega (arith, x.0, count)) in
            omega (arith, here, same, parts, none))
        | inr l ↦ (let count = h.count in
            let place = l.place in
            let at : m + suc j ≡ m + n + 1 + l.i = omega (arith, place, count) in
            let here = g.held l.i d l.there (moved (m + suc j) (m + n + 1 + l.i) at p) in
            let same = ap (λ z. over bs (m + n + 1) k z) at in
            let parts = total (m + suc j) in
            let past = over_past bs m n (m + suc j) f (omega (arith, at)) in
            omega (arith, here, same, parts, past))
      ]

  pub held_select : (k n m x : ℕ) (ds es ts : List ℕ) → Fine bs k (k + n + 1) → Plain bs (k + n) → Arms bs (k + n + 1) (k + n + 1 + m) x ts → Held k n ds → AreHeld (k + n + 1) m es → Held k (n + m + 1) (ds ++ (es ++ 0 ∷ []))
  held_select k n m x ds es ts f plain arms h g =
      let one = h.count in
      let two = g.count in
      let long = length-append ds (es ++ 0 ∷ []) in
      let more = length-append es (0 ∷ []) in
      record { count = omega (arith, one, two, long, more); held = held }
    where
      total : (q : ℕ) → over bs k (n + m + 1) q ≡ over bs k n q + over bs (k + n + 1) m q
      total q = ap (λ z. over bs k z q) (sum n m) ∙ three k n m q plain
        where
          sum : (n m : ℕ) → n + m + 1 ≡ n + 1 + m
          sum n m = omega arith

      held : (j d : ℕ) → slice_get (ds ++ (es ++ 0 ∷ [])) j ≡ Some d → Plain bs (k + 1 + j) → over bs k (n + m + 1) (k + 1 + j) ≡ d
      held j d e p = elim (get_split ds (es ++ 0 ∷ []) j d e) [
        | inl a ↦ (let here = h.held j d a.1 p in
            let count = h.count in
            let parts = total (k + 1 + j) in
            let none = over_behind bs (k + n + 1) m (k + 1 + j) (omega (arith, a.0, count)) in
            omega (arith, here, parts, none))
        | inr l ↦ (let count = h.count in
            let place = l.place in
            let at : k + 1 + j ≡ k + n + 1 + l.i = omega (arith, place, count) in
            let parts = total (k + 1 + j) in
            let past = over_past bs k n (k + 1 + j) f (omega (arith, at)) in
            let same = ap (λ z. over bs (k + n + 1) m z) at in
            let rest = behind l.i (moved (k + 1 + j) (k + n + 1 + l.i) at p) l.there in
            omega (arith, parts, past, same, rest))
      ]
        where
          behind : (i : ℕ) → Plain bs (k + n + 1 + i) → slice_get (es ++ 0 ∷ []) i ≡ Some d → over bs (k + n + 1) m (k + n + 1 + i) ≡ d
          behind i plain_there there = elim (get_split es (0 ∷ []) i d there) [
            | inl a ↦ g.held i d a.1 plain_there
            | inr l ↦ last l.i l.place l.there
          ]
            where
              last : (u : ℕ) → i ≡ length es + u → slice_get (0 ∷ []) u ≡ Some d → over bs (k + n + 1) m (k + n + 1 + i) ≡ d
              last zero place there =
                  let count = g.count in
                  let past = arms_past bs (k + n + 1) m (k + n + 1 + i) x ts arms (omega (arith, place, count)) in
                  let is : 0 ≡ d = inj there in
                  omega (arith, past, is)
              last (suc u) place there = absurd (cc)

  -- ---- a loop

  -- what a header holds
  pub record Heads (k c : ℕ) : Type 0 where
    pub inside : (q : ℕ) → k ≤ q → q < c → StandsIn bs q k
    pub outside : (q : ℕ) → c ≤ q → StandsIn bs q k → ⊥

  pub held_cycle : (k n : ℕ) (ds : List ℕ) → Heads k (k + 1 + n + 1) → Fine bs (k + 1) (k + 1 + n + 1) → Plain bs (k + 1 + n) → Plain bs (k + 1 + n + 1) → Held (k + 1) n ds → Held k (n + 3) (1 ∷ (more 1 ds ++ (0 ∷ 0 ∷ [])))
  held_cycle k n ds head f third fourth h =
      let one = h.count in
      let long = length-append (more 1 ds) (0 ∷ 0 ∷ []) in
      let same = more_count ds in
      record { count = omega (arith, one, long, same); held = held }
    where
      more_count : (xs : List ℕ) → length (more 1 xs) ≡ length xs
      more_count [] = refl
      more_count (x ∷ xs) = ap suc (more_count xs)

      more_at : (xs : List ℕ) (j d : ℕ) → slice_get (more 1 xs) j ≡ Some d → (e : ℕ) × (slice_get xs j ≡ Some e) × (d ≡ e + 1)
      more_at [] j d e = absurd (cc)
      more_at (x ∷ xs) zero d e = (x, refl, sym (inj e))
      more_at (x ∷ xs) (suc j) d e = more_at xs j d e

      total : (q : ℕ) → over bs k (n + 3) q ≡ over bs k 1 q + over bs (k + 1) n q
      total q =
          let a = over_split bs k 1 (n + 2) q in
          let b = over_split bs (k + 1) n 2 q in
          let c = over_split bs (k + 1 + n) 1 1 q in
          let d = over_one bs (k + 1 + n) q third in
          let e = over_one bs (k + 1 + n + 1) q fourth in
          let same = ap (λ z. over bs k z q) (sum n) in
          omega (arith, a, b, c, d, e, same)
        where
          sum : (n : ℕ) → n + 3 ≡ 1 + (n + 2)
          sum n = omega arith

      first_in : (q : ℕ) → k ≤ q → q < k + 1 + n + 1 → over bs k 1 q ≡ 1
      first_in q low high =
          let at : k + 0 ≡ k = omega arith in
          let one = ap bit (ap (holds bs q) at ∙ holds_there bs q k (head.inside q low high)) in
          omega (arith, one)

      first_out : (q : ℕ) → k + 1 + n + 1 ≤ q → over bs k 1 q ≡ 0
      first_out q past =
          over_none bs k 1 q (λ j low high s. (let same : j ≡ k = omega (arith, low, high) in head.outside q past (subst (StandsIn bs q) same s)))

      held : (j d : ℕ) → slice_get (1 ∷ (more 1 ds ++ (0 ∷ 0 ∷ []))) j ≡ Some d → Plain bs (k + 1 + j) → over bs k (n + 3) (k + 1 + j) ≡ d
      held zero d e p =
          let at : k + 1 + 0 ≡ k + 1 = omega arith in
          let parts = total (k + 1 + 0) in
          let one = first_in (k + 1 + 0) (omega arith) (omega arith) in
          let self = over_self bs (k + 1) n (moved (k + 1 + 0) (k + 1) at p) in
          let same = ap (λ z. over bs (k + 1) n z) at in
          let is : 1 ≡ d = inj e in
          omega (arith, parts, one, self, same, is)
      held (suc j) d e p = elim (get_split (more 1 ds) (0 ∷ 0 ∷ []) j d e) [
        | inl a ↦ (let y = more_at ds j d a.1 in
            let count = h.count in
            let long = more_count ds in
            let at : k + 1 + suc j ≡ k + 1 + 1 + j = omega arith in
            let here = h.held j y.0 y.1 (moved (k + 1 + suc j) (k + 1 + 1 + j) at p) in
            let same = ap (λ z. over bs (k + 1) n z) at in
            let parts = total (k + 1 + suc j) in
            let one = first_in (k + 1 + suc j) (omega arith) (omega (arith, a.0, count, long)) in
            omega (arith, here, same, parts, one, y.2))
        | inr l ↦ (let count = h.count in
            let long = more_count ds in
            let place = l.place in
            let parts = total (k + 1 + suc j) in
            let none = first_out (k + 1 + suc j) (omega (arith, place, count, long)) in
            let past = over_past bs (k + 1) n (k + 1 + suc j) f (omega (arith, place, count, long)) in
            let is = zero_at l.i l.there in
            omega (arith, parts, none, past, is))
      ]
        where
          zero_at : (i : ℕ) → slice_get (0 ∷ 0 ∷ []) i ≡ Some d → 0 ≡ d
          zero_at zero e = inj e
          zero_at (suc zero) e = inj e
          zero_at (suc (suc i)) e = absurd (cc)
