-- The heads and their loops under one region more.
use Rattle.std.proofs.Common.{◌≡◌, ◌⊎◌, ◌↔◌, inl, inr, ℕ, ◌<◌, Bool, true, false, List, [], ◌∷◌, ◌++◌, length, get_or, set, Some, refl, sym, subst, arith}
use Rattle.std.proofs.lemmas.Bool.{cases_eq, cases_Bool}
use Rattle.std.proofs.lemmas.List.{get_or-set_same, get_or-set_other}
use Rattle.std.proofs.lemmas.Option.{slice_get_within}
use Rattle.std.specs.List.{slice_get}
use Rattle.dxil_form.specs.declared.program.Program.{Program}
use Rattle.dxil_form.specs.declared.region.Region.{Region}
use Rattle.dxil_form.specs.declared.region.Region.TheVariants.{Leaf, Loop}
use Rattle.dxil_form.specs.Graphs.{Graph, IsFormed, IsHeadOver}
use Rattle.dxil_form.specs.Wired.{parts}
use Rattle.graph_laws.proofs.Paths.{path_next}
use Rattle.region_laws.proofs.Places.{front, cases_last, inside}
use Rattle.region_builder.specs.Built.{Built}
use Rattle.region_builder.specs.Loops.{Under}
use Rattle.region_builder.specs.Loops.Under.{is_leaf, in_part}
use Rattle.region_builder.specs.Headed.{IsLoopOf, Headed}
use Rattle.region_builder.proofs.Growing.{Fitting, Rewritten, Joining, cases_part, part_old, part_new}

-- what the rings of a head pass is live
pub passed_live : (g : Graph) → IsFormed g → (h b : ℕ) → IsHeadOver g h b → g.live b ≡ true
passed_live g formed h b (ring, k, i) =
    let (a, _, p) = k.closed in
    let (y, e, _) = path_next g a a b ring p i in formed.from b y e

module _ (p : Program) (list : List Region) (blocks places : List ℕ) (g : Graph) (b : Built p list blocks places g)
    (x : Region) (a : ℕ) (gone : ℕ → Bool) (now : Graph) (w : Rewritten g now a gone) (j : Joining places x a gone) (fits : Fitting p list x) where
  abbrev whole : List Region
  whole = list ++ x ∷ []

  abbrev after : List ℕ
  after = set places a (length list)

  a_inside : a < length places
  a_inside = let l = b.formed.within a w.stays in let m = b.count in let n = b.places_count in omega arith

  at_a : get_or after a 0 ≡ length list
  at_a = get_or-set_same places a (length list) 0 a_inside

  at_other : (i : ℕ) → (i ≡ a → ⊥) → get_or after i 0 ≡ get_or places i 0
  at_other i n = get_or-set_other places a i (length list) 0 n

  pub under_old : {r k : ℕ} → r < length list → Under whole r k → Under list r k
  under_old {r} {k} l (is_leaf h) = is_leaf (inside list x r (Leaf k) l h)
  under_old {r} {k} l (in_part {i = i} {s = s} m u) = elim (cases_part p list b.regions x fits r i s m) [
    | inl o ↦ (let n = b.regions.later r i s o in in_part o (under_old (omega arith) u))
    | inr (q, _) ↦ absurd (omega arith)
  ]

  pub under_up : {r k : ℕ} → Under list r k → Under whole r k
  under_up {r} {k} (is_leaf h) = is_leaf (front list (x ∷ []) r (Leaf k) h)
  under_up {r} {k} (in_part {i = i} {s = s} m u) = in_part (part_old p list b.regions x fits r i s m) (under_up u)

  part_root : (n s : ℕ) → slice_get (parts x) n ≡ Some s → (i : ℕ) × (g.live i ≡ true) × ((i ≡ a) ⊎ (gone i ≡ true)) × (get_or places i 0 ≡ s)
  part_root n s h = let (i, o, q) = j.only n s h in (i, live i o, o, q)
    where
      live : (i : ℕ) → (i ≡ a) ⊎ (gone i ≡ true) → g.live i ≡ true
      live i (inl q) = let P : ℕ → Type 0 = λ y. g.live y ≡ true in subst P (sym q) w.stays
      live i (inr t) = w.was i t

  -- a block in the new region is in one of its parts
  pub under_new : {k : ℕ} → Under whole (length list) k → (i : ℕ) × (g.live i ≡ true) × ((i ≡ a) ⊎ (gone i ≡ true)) × Under list (get_or places i 0) k
  under_new {k} (is_leaf h) = elim (cases_last list x (length list) (Leaf k) h) [
    | inl o ↦ (let l = slice_get_within list (length list) (Leaf k) o in absurd (omega arith))
    | inr (_, o) ↦ absurd (fits.no_leaf k o)
  ]
  under_new {k} (in_part {i = n} {s = s} m u) = elim (cases_part p list b.regions x fits (length list) n s m) [
    | inl o ↦ (let l = slice_get_within list (length list) o.region o.stands in absurd (omega arith))
    | inr (_, h) ↦ (
        let (i, l, o, q) = part_root n s h in
        let P : ℕ → Type 0 = λ z. Under whole z k in (i, l, o, under_old (b.within i l) (subst P (sym q) u)))
  ]

  pub under_from : (i n : ℕ) {k : ℕ} → slice_get (parts x) n ≡ Some (get_or places i 0) → Under list (get_or places i 0) k → Under whole (length list) k
  under_from i n h u = in_part (part_new p list b.regions x fits n (get_or places i 0) h) (under_up u)

  abbrev Place : (i : ℕ) → Type 0
  Place i = ((i ≡ a) × (get_or after i 0 ≡ length list)) ⊎ ((i ≡ a → ⊥) × (get_or after i 0 ≡ get_or places i 0))

  place_of : (i : ℕ) → Place i
  place_of i = elim (cases_eq i a) [
    | inl q ↦ (let P : ℕ → Type 0 = λ y. get_or after y 0 ≡ length list in inl (q, subst P (sym q) at_a))
    | inr n ↦ inr (n, at_other i n)
  ]

  -- a block in the root of a live node
  pub root_under : (c k : ℕ) → now.live c ≡ true → Under whole (get_or after c 0) k
      → ((c ≡ a) × ((i : ℕ) × (g.live i ≡ true) × ((i ≡ a) ⊎ (gone i ≡ true)) × Under list (get_or places i 0) k)) ⊎ ((c ≡ a → ⊥) × Under list (get_or places c 0) k)
  root_under c k l u = elim (place_of c) [
    | inl (q, e) ↦ (let P : ℕ → Type 0 = λ z. Under whole z k in inl (q, under_new (subst P e u)))
    | inr (n, e) ↦ (let P : ℕ → Type 0 = λ z. Under whole z k in inr (n, under_old (b.within c (w.live c l).0) (subst P e u)))
  ]

  pub under_root : (c n k : ℕ) → (c ≡ a) ⊎ (gone c ≡ true) → slice_get (parts x) n ≡ Some (get_or places c 0) → Under list (get_or places c 0) k → Under whole (get_or after a 0) k
  under_root c n k o h u = let P : ℕ → Type 0 = λ z. Under whole z k in subst P (sym at_a) (under_from c n h u)

  pub under_other : (c k : ℕ) → (c ≡ a → ⊥) → Under list (get_or places c 0) k → Under whole (get_or after c 0) k
  under_other c k n u = let P : ℕ → Type 0 = λ z. Under whole z k in subst P (sym (at_other c n)) (under_up u)

  -- ---- one node or several go
  module _ (start : Graph) (over : ℕ → ℕ → Bool) (hd : Headed start list blocks places g over)
      (no_loop : (body head : ℕ) → x ≡ Loop body head → ⊥)
      (heads : (h k : ℕ) → gone k ≡ false → IsHeadOver now h k ↔ IsHeadOver g h k)
      (keeps : (h i : ℕ) → gone i ≡ true → over h a ≡ true → over h i ≡ true)
      (pulls : (h i : ℕ) → gone i ≡ true → over h i ≡ true → over h a ≡ true) where
    now_tells : (h k : ℕ) → ((now.live k ≡ true) × (over h k ≡ true)) ↔ IsHeadOver now h k
    now_tells h k = (
      λ y. (let (l, f) = w.live k y.0 in (heads h k f).1 ((hd.tells h k).0 (l, y.1))),
      λ o. (let l = passed_live now w.formed h k o in
          let (m, f) = w.live k l in (l, ((hd.tells h k).1 ((heads h k f).0 o)).1)),
    )

    now_below : (h c k : ℕ) → now.live c ≡ true → over h c ≡ true → k < length blocks → Under whole (get_or after c 0) (get_or blocks k 0) → IsHeadOver start h k
    now_below h c k l o i u = elim (root_under c (get_or blocks k 0) l u) [
      | inr (n, v) ↦ hd.below h c k (w.live c l).0 o i v
      | inl (q, (d, m, e, v)) ↦ (let P : ℕ → Type 0 = λ z. over h z ≡ true in hd.below h d k m (over_d d e (subst P q o)) i v)
    ]
      where
        over_d : (d : ℕ) → (d ≡ a) ⊎ (gone d ≡ true) → over h a ≡ true → over h d ≡ true
        over_d d (inl q) t = let P : ℕ → Type 0 = λ z. over h z ≡ true in subst P (sym q) t
        over_d d (inr e) t = keeps h d e t

    abbrev Kept : (h k : ℕ) → Type 0
    Kept h k = ((r : ℕ) × IsLoopOf whole blocks r h) ⊎ ((c : ℕ) × (now.live c ≡ true) × (over h c ≡ true) × Under whole (get_or after c 0) (get_or blocks k 0))

    now_kept : (h k : ℕ) → IsHeadOver start h k → Kept h k
    now_kept h k o = elim (hd.kept h k o) [
      | inl (r, (body, e)) ↦ inl (r, (body, front list (x ∷ []) r (Loop body (get_or blocks h 0)) e))
      | inr (c, l, t, u) ↦ root c l t u (cases_Bool (gone c)) (cases_eq c a)
    ]
      where
        root : (c : ℕ) → g.live c ≡ true → over h c ≡ true → Under list (get_or places c 0) (get_or blocks k 0) → (gone c ≡ true) ⊎ (gone c ≡ false) → (c ≡ a) ⊎ (c ≡ a → ⊥) → Kept h k
        root c l t u (inl y) _ = let (n, e) = j.all c y in inr (a, w.lives a w.stays w.not_gone, pulls h c y t, under_root c n (get_or blocks k 0) (inr y) e u)
        root c l t u (inr f) (inl q) =
            let (n, e) = j.own in
            let P : ℕ → Type 0 = λ z. over h z ≡ true in
            let Q : ℕ → Type 0 = λ z. Under list (get_or places z 0) (get_or blocks k 0) in
            inr (a, w.lives a w.stays w.not_gone, subst P q t, under_root a n (get_or blocks k 0) (inl refl) e (subst Q q u))
        root c l t u (inr f) (inr n) = inr (c, w.lives c l f, t, under_other c (get_or blocks k 0) n u)

    old_loop : (r body head : ℕ) → slice_get whole r ≡ Some (Loop body head) → slice_get list r ≡ Some (Loop body head)
    old_loop r body head h = elim (cases_last list x r (Loop body head) h) [ inl o ↦ o | inr (_, o) ↦ absurd (no_loop body head o) ]

    pub headed_on : Headed start whole blocks after now over
    headed_on = record {
      tells = now_tells;
      heads = λ h c l o. hd.heads h c (w.live c l).0 o;
      below = now_below;
      kept = now_kept;
      loops = λ r body head h. (
          let o = old_loop r body head h in
          let l = slice_get_within list r (Loop body head) o in
          let (y, i, e, q, under, none) = hd.loops r body head o in
          (y, i, e, q, (λ k m. (λ u. (under k m).0 (under_old l u), λ v. under_up ((under k m).1 v))), λ c z t. none c (w.live c z).0 t));
      once = λ r s body inner head h k. hd.once r s body inner head (old_loop r body head h) (old_loop s inner head k);
    }
