-- One edge on its way from one source to another.
use Rattle.std.proofs.Common.{◌≡◌, ◌≢◌, ◌⊎◌, inl, inr, ℕ, ◌+◌, ◌<◌, Bool, true, false, not, ◌&&◌, eqb, Option, Some, None, List, length, get_or, sym, refl, ap, subst, ◌∙◌, arith, eqb-true, eq-eqb, ne_eqb}
use Rattle.std.proofs.lemmas.List.{get_or_past}
use Rattle.std.proofs.lemmas.Bool.{cases_lt, cases_eq, both_ways, and_parts, and_from, eqb-false, not-true, not_from_false}
use Rattle.flow_graph.specs.declared.cells.Cell.{Cell}
use Rattle.flow_graph.specs.Links.{left, IsLast, no_cell, cell_at, leaves, enters, first_of, next_to_of, FromLists, ToLists, Joining, Sound}
use Rattle.flow_graph.specs.Changes.{Without, Relabelled, Ended, Between, Merging, Merged}
use Rattle.flow_graph.specs.Walked.{marked}
use Rattle.std.specs.Option.{IfSome}
use Rattle.flow_graph.proofs.SourceLists.{linked_same}

pub between_start : (a j : ℕ) (cells : List Cell) → Between a j cells cells
between_start a j cells = record {
  kept = λ x y n k. k;
  only = λ x y n k. inl k;
  remaining = λ y k. k;
  gone = λ y k. inr k;
}

from_is : (cells : List Cell) (x d : ℕ) → leaves cells x d ≡ true → (cell_at cells d).from ≡ x
from_is cells x d t = eqb-true (cell_at cells d).from x (and_parts (cell_at cells d).used _ t).1

in_range : (cells : List Cell) (x d : ℕ) → leaves cells x d ≡ true → d < length cells
in_range cells x d t = elim (cases_lt d (length cells)) [
  | inl l ↦ l
  | inr g ↦ absurd (both_ways _ (ap (λ (k : Cell). k.used && eqb k.from x) (get_or_past cells d no_cell g)) t)
]

-- a list without its first edge starts lower
list_falls : (now new : List Cell) (gf : List (Option ℕ)) (j c : ℕ) → FromLists new gf → j < length gf → length new ≡ length now
    → IsLast (leaves now j) (length now) (Some c) → ((e : ℕ) → leaves new j e ≡ true → (leaves now j e ≡ true) × (e ≢ c))
    → left (get_or gf j None) < c + 1
list_falls now new gf j c lists l count (_, _, none) others = lower (get_or gf j None) (lists.heads j l)
  where
    lower : (r : Option ℕ) → IsLast (leaves new j) (length new) r → left r < c + 1
    lower None h = omega arith
    lower (Some r) (k, t, _) =
        let (u, n) = others r t in
        elim (cases_lt r c) [
          | inl m ↦ omega arith
          | inr g ↦ absurd (both_ways _ (none r (omega arith) (omega arith)) u)
        ]

-- the lists stay sound where an edge ends
pub remove_sound : (now new : List Cell) (c : ℕ) (ff ft gf gt : List (Option ℕ)) → Without c now new → Sound now ff ft
    → length gf ≡ length ff → length gt ≡ length ft → FromLists new gf → ToLists new gt → Sound new gf gt
remove_sound now new c ff ft gf gt w s ef et fl tl = record {
  from_lists = fl;
  to_lists = tl;
  from_fits = λ d u. (let f = w.from d in let k = s.from_fits d (used d u) in omega arith);
  to_fits = λ d u. (let f = w.to d in let k = s.to_fits d (used d u) in omega arith);
  single = λ x d k t u q. s.single x d k (before x d t) (before x k u) (sym (w.to d) ∙ q ∙ w.to k);
}
  where
    used : (d : ℕ) → (cell_at new d).used ≡ true → (cell_at now d).used ≡ true
    used d u = (and_parts (cell_at now d).used _ (sym (w.used d) ∙ u)).0

    before : (x d : ℕ) → leaves new x d ≡ true → leaves now x d ≡ true
    before x d t =
        let (u, f) = and_parts (cell_at new d).used (eqb (cell_at new d).from x) t in
        and_from (cell_at now d).used _ (used d u) (ap (λ (z : ℕ). eqb z x) (sym (w.from d)) ∙ f)

module _ (a j : ℕ) (apart : a ≢ j) (start now new : List Cell) (b : Between a j start now) (c : ℕ) (inside : c < length now) (count : length new ≡ length now)
    (own : leaves now j c ≡ true) where
  not_c : (x d : ℕ) → x ≢ j → leaves now x d ≡ true → d ≢ c
  not_c x d n t q = let P : ℕ → Type 0 = λ y. leaves now x y ≡ true in n (sym (from_is now x c (subst P q t)) ∙ from_is now j c own)

  module _ (w : Without c now new) where
    off : (x y : ℕ) → Joining new x y → (d : ℕ) × (d < length now) × (leaves now x d ≡ true) × ((cell_at now d).to ≡ y) × (d ≢ c)
    off x y (d, l, t, e) =
        let (u, f) = and_parts (cell_at new d).used (eqb (cell_at new d).from x) t in
        let (v, n) = and_parts (cell_at now d).used (not (eqb d c)) (sym (w.used d) ∙ u) in
        (d, omega arith, and_from (cell_at now d).used _ v (ap (λ (z : ℕ). eqb z x) (sym (w.from d)) ∙ f), sym (w.to d) ∙ e, eqb-false d c (not-true (eqb d c) n))

    on : (x y d : ℕ) → d < length now → leaves now x d ≡ true → (cell_at now d).to ≡ y → d ≢ c → Joining new x y
    on x y d l t e n =
        let (u, f) = and_parts (cell_at now d).used (eqb (cell_at now d).from x) t in (
          d,
          omega arith,
          and_from (cell_at new d).used _ (w.used d ∙ and_from (cell_at now d).used _ u (not_from_false (eqb d c) (ne_eqb d c n)))
              (ap (λ (z : ℕ). eqb z x) (w.from d) ∙ f),
          w.to d ∙ e,
        )

    -- an edge that a has already ends
    pub step_remove : Joining now a (cell_at now c).to → Between a j start new
    step_remove (e, le, te, se) = record {
      kept = λ x y n k. (let (d, l, t, s) = b.kept x y n k in on x y d l t s (not_c x d n t));
      only = λ x y n k. (let (d, l, t, s, _) = off x y k in b.only x y n (d, l, t, s));
      remaining = λ y k. (let (d, l, t, s, _) = off j y k in b.remaining y (d, l, t, s));
      gone = λ y k. elim (b.gone y k) [
        | inl m ↦ (let (d, l, t, s) = m in inl (on a y d l t s (not_c a d apart t)))
        | inr m ↦ (let (d, l, t, s) = m in elim (cases_eq d c) [
          | inl q ↦ inl (on a y e le te (se ∙ ap (λ (z : ℕ). (cell_at now z).to) (sym q) ∙ s) (not_c a e apart te))
          | inr n ↦ inr (on j y d l t s n)
        ])
      ];
    }

    were : (x d : ℕ) → leaves new x d ≡ true → (leaves now x d ≡ true) × (d ≢ c)
    were x d t =
        let (u, f) = and_parts (cell_at new d).used (eqb (cell_at new d).from x) t in
        let (v, n) = and_parts (cell_at now d).used (not (eqb d c)) (sym (w.used d) ∙ u) in
        (and_from (cell_at now d).used _ v (ap (λ (z : ℕ). eqb z x) (sym (w.from d)) ∙ f), eqb-false d c (not-true (eqb d c) n))

    stay : (x d : ℕ) → leaves now x d ≡ true → d ≢ c → leaves new x d ≡ true
    stay x d t n =
        let (u, f) = and_parts (cell_at now d).used (eqb (cell_at now d).from x) t in
        and_from (cell_at new d).used _ (w.used d ∙ and_from (cell_at now d).used _ u (not_from_false (eqb d c) (ne_eqb d c n)))
        (ap (λ (z : ℕ). eqb z x) (w.from d) ∙ f)

    -- the marks stay right where an edge of j ends
    pub merging_remove : (marks : List Bool) (hint : Option ℕ) → Merging a j marks hint now → Merging a j marks hint new
    merging_remove marks hint m = record {
      targets = λ y t. (let (d, l, k, s) = m.targets y t in on a y d l k s (not_c a d apart k));
      doubled = λ d e t u q. (let P : ℕ → Type 0 = λ z. marked marks z ≡ true in
          subst P (sym (w.to e)) (m.doubled d e (were a d t).0 (were j e u).0 (sym (w.to d) ∙ q ∙ w.to e)));
      below = below hint m.below;
    }
      where
        below : (o : Option ℕ) → IfSome o (λ p. (p < length now) × (leaves now a p ≡ true) × ((e : ℕ) → leaves now j e ≡ true → e < p))
            → IfSome o (λ p. (p < length new) × (leaves new a p ≡ true) × ((e : ℕ) → leaves new j e ≡ true → e < p))
        below None h = h
        below (Some p) (l, t, h) = (omega arith, stay a p t (not_c a p apart t), λ e u. h e (were j e u).0)

  module _ (w : Relabelled c a now new) where
    same_leaves : (x d : ℕ) → d ≢ c → leaves new x d ≡ leaves now x d
    same_leaves x d n = ap (λ (t : Bool). t && eqb (cell_at new d).from x) (w.used d) ∙ ap (λ (y : ℕ). (cell_at now d).used && eqb y x) (w.from d n)

    new_own : leaves new a c ≡ true
    new_own = and_from (cell_at new c).used _ (w.used c ∙ (and_parts (cell_at now c).used _ own).0) (eq-eqb (cell_at new c).from a w.from_c)

    at_c : (x : ℕ) → leaves new x c ≡ true → x ≡ a
    at_c x t = sym (from_is new x c t) ∙ w.from_c

    -- an edge becomes one of a
    pub step_move : Between a j start new
    step_move = record {
      kept = λ x y n k. (let (d, l, t, s) = b.kept x y n k in (d, omega arith, same_leaves x d (not_c x d n t) ∙ t, w.to d ∙ s));
      only = λ x y n k. only x y n k;
      remaining = λ y k. (let (d, l, t, s) = k in b.remaining y (d, omega arith, sym (same_leaves j d (j_not d t)) ∙ t, sym (w.to d) ∙ s));
      gone = λ y k. elim (b.gone y k) [
        | inl m ↦ (let (d, l, t, s) = m in inl (d, omega arith, same_leaves a d (not_c a d apart t) ∙ t, w.to d ∙ s))
        | inr m ↦ (let (d, l, t, s) = m in elim (cases_eq d c) [
          | inl q ↦ inl (c, omega arith, new_own, w.to c ∙ ap (λ (z : ℕ). (cell_at now z).to) (sym q) ∙ s)
          | inr n ↦ inr (d, omega arith, same_leaves j d n ∙ t, w.to d ∙ s)
        ])
      ];
    }
      where
        j_not : (d : ℕ) → leaves new j d ≡ true → d ≢ c
        j_not d t q = let P : ℕ → Type 0 = λ y. leaves new j y ≡ true in apart (sym (at_c j (subst P q t)))

        only : (x y : ℕ) → x ≢ j → Joining new x y → Joining start x y ⊎ ((x ≡ a) × Joining start j y)
        only x y n (d, l, t, s) = elim (cases_eq d c) [
          | inl q ↦ (let P : ℕ → Type 0 = λ z. leaves new x z ≡ true in
              let e : (cell_at now c).to ≡ y = ap (λ (z : ℕ). (cell_at now z).to) (sym q) ∙ sym (w.to d) ∙ s in
              inr (at_c x (subst P q t), b.remaining y (c, inside, own, e)))
          | inr m ↦ b.only x y n (d, omega arith, sym (same_leaves x d m) ∙ t, sym (w.to d) ∙ s)
        ]

    others : (e : ℕ) → leaves new j e ≡ true → (leaves now j e ≡ true) × (e ≢ c)
    others e t =
        let P : ℕ → Type 0 = λ y. leaves new j y ≡ true in
        let n : e ≢ c = λ q. apart (sym (at_c j (subst P q t))) in
        (sym (same_leaves j e n) ∙ t, n)

    -- the marks stay right where an edge moves, and the next hint is its place
    pub merging_move : (marks : List Bool) (hint : Option ℕ) → Merging a j marks hint now
        → ((x d k : ℕ) → leaves now x d ≡ true → leaves now x k ≡ true → (cell_at now d).to ≡ (cell_at now k).to → d ≡ k)
        → IsLast (leaves now j) (length now) (Some c) → Merging a j marks (Some c) new
    merging_move marks hint m single (_, _, none) = record {
      targets = λ y t. (let (d, l, k, s) = m.targets y t in (d, omega arith, same_leaves a d (not_c a d apart k) ∙ k, w.to d ∙ s));
      doubled = λ d e t u q. doubled d e t (others e u) (sym (w.to d) ∙ q ∙ w.to e);
      below = (omega arith, new_own, λ e u. below e (others e u));
    }
      where
        doubled : (d e : ℕ) → leaves new a d ≡ true → (leaves now j e ≡ true) × (e ≢ c) → (cell_at now d).to ≡ (cell_at now e).to
            → marked marks (cell_at new e).to ≡ true
        doubled d e t (u, n) q = elim (cases_eq d c) [
          | inl o ↦ absurd (n (sym (single j c e own u (ap (λ (z : ℕ). (cell_at now z).to) (sym o) ∙ q))))
          | inr o ↦ (let P : ℕ → Type 0 = λ z. marked marks z ≡ true in
              subst P (sym (w.to e)) (m.doubled d e (sym (same_leaves a d o) ∙ t) u q))
        ]

        below : (e : ℕ) → (leaves now j e ≡ true) × (e ≢ c) → e < c
        below e (u, n) = elim (cases_lt e c) [
          | inl l ↦ l
          | inr g ↦ absurd (both_ways _ (none e (omega arith) (in_range now j e u)) u)
        ]

    -- the list of j gets shorter
    pub falls_move : (gf : List (Option ℕ)) → FromLists new gf → j < length gf → IsLast (leaves now j) (length now) (Some c)
        → left (get_or gf j None) < c + 1
    falls_move gf lists l last = list_falls now new gf j c lists l count last others

    -- the lists stay sound, if a had no such edge
    pub move_sound : (ff ft gf : List (Option ℕ)) → Sound now ff ft → length gf ≡ length ff → a < length ff → FromLists new gf
        → ((d : ℕ) → d < length now → leaves now a d ≡ true → (cell_at now d).to ≢ (cell_at now c).to) → Sound new gf ft
    move_sound ff ft gf s e af lists none = record {
      from_lists = lists;
      to_lists = linked_same (length now) (length new) (length ft) (length ft) (enters now) (enters new) (first_of ft) (first_of ft)
          (next_to_of now) (next_to_of new) count refl
          (λ y d. ap (λ (t : Bool). t && eqb (cell_at new d).to y) (w.used d) ∙ ap (λ (z : ℕ). (cell_at now d).used && eqb z y) (w.to d))
          (λ y. refl) (λ d. w.next_to d) s.to_lists;
      from_fits = λ d u. elim (cases_eq d c) [
        | inl q ↦ (let P : ℕ → Type 0 = λ z. (cell_at new z).from < length gf in
            let k : (cell_at new c).from < length gf = (let f = w.from_c in omega arith) in subst P (sym q) k)
        | inr n ↦ (let f = w.from d n in let k = s.from_fits d (sym (w.used d) ∙ u) in omega arith)
      ];
      to_fits = λ d u. (let f = w.to d in let k = s.to_fits d (sym (w.used d) ∙ u) in omega arith);
      single = λ x d k t u q. elim (cases_eq d c) [
        | inl m ↦ elim (cases_eq k c) [
          | inl o ↦ m ∙ sym o
          | inr o ↦ absurd (clash x d k m o t u (sym (w.to d) ∙ q ∙ w.to k))
        ]
        | inr m ↦ elim (cases_eq k c) [
          | inl o ↦ absurd (clash x k d o m u t (sym (w.to k) ∙ sym q ∙ w.to d))
          | inr o ↦ s.single x d k (sym (same_leaves x d m) ∙ t) (sym (same_leaves x k o) ∙ u) (sym (w.to d) ∙ q ∙ w.to k)
        ]
      ];
    }
      where
        clash : (x d k : ℕ) → d ≡ c → k ≢ c → leaves new x d ≡ true → leaves new x k ≡ true → (cell_at now d).to ≡ (cell_at now k).to → ⊥
        clash x d k m o t u q =
            let P : ℕ → Type 0 = λ z. leaves new x z ≡ true in
            let Q : ℕ → Type 0 = λ z. leaves now z k ≡ true in
            let v : leaves now a k ≡ true = subst Q (at_c x (subst P m t)) (sym (same_leaves x k o) ∙ u) in
            none k (in_range now a k v) v (sym q ∙ ap (λ (z : ℕ). (cell_at now z).to) m)

-- the first of the list of j is one of its edges
pub last_own : (cells : List Cell) (ff ft : List (Option ℕ)) (j c : ℕ) → Sound cells ff ft → j < length ff → get_or ff j None ≡ Some c
    → (c < length cells) × (leaves cells j c ≡ true)
last_own cells ff ft j c s l e =
    let P : Option ℕ → Type 0 = λ o. IsLast (leaves cells j) (length cells) o in
    let h = subst P e (s.from_lists.heads j l) in (h.0, h.1)

-- once all edges of j have moved, and the one from a to it has ended, j has none
pub merged_is : (a j : ℕ) (old mid new : List Cell) → a ≢ j → ((x : ℕ) → Joining old x j → x ≡ a) → Ended a j old mid → Between a j mid new
    → ((c : ℕ) → c < length new → leaves new j c ≡ false) → Merged a j old new
merged_is a j old mid new apart sole ended b done x y = (there, back)
  where
    none : (z : ℕ) → Joining new j z → ⊥
    none z (c, l, t, _) = both_ways _ (done c l) t

    not_j : (w z : ℕ) → Joining mid w z → z ≢ j
    not_j w z k q =
        let P : ℕ → Type 0 = λ v. Joining old w v in
        let (o, n) = (ended w z).0 k in
        n (sole w (subst P q o), q)

    there : Joining new x y → (x ≢ j) × (y ≢ j) × (Joining old x y ⊎ ((x ≡ a) × Joining old j y))
    there k = (
      nx,
      elim (b.only x y nx k) [ inl m ↦ not_j x y m | inr (_, m) ↦ not_j j y m ],
      elim (b.only x y nx k) [ inl m ↦ inl ((ended x y).0 m).0 | inr (q, m) ↦ inr (q, ((ended j y).0 m).0) ],
    )
      where
        nx : x ≢ j
        nx q = let P : ℕ → Type 0 = λ v. Joining new v y in none y (subst P q k)

    back : (x ≢ j) × (y ≢ j) × (Joining old x y ⊎ ((x ≡ a) × Joining old j y)) → Joining new x y
    back (nx, ny, inl k) = b.kept x y nx ((ended x y).1 (k, λ q. ny q.1))
    back (nx, ny, inr (q, k)) =
        let P : ℕ → Type 0 = λ v. Joining new v y in
        subst P (sym q) (elim (b.gone y ((ended j y).1 (k, λ o. apart (sym o.0)))) [ inl m ↦ m | inr m ↦ absurd (none y m) ])
