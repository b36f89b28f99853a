-- A head gets its loop.
use Rattle.std.proofs.Common.{◌≡◌, ◌≢◌, ◌⊎◌, ◌↔◌, inl, inr, ℕ, ◌<◌, Bool, true, false, not, eqb, ◌&&◌, List, [], ◌∷◌, ◌++◌, length, get_or, set, Some, refl, sym, subst, ◌∙◌, arith, ne_eqb}
use Rattle.std.proofs.lemmas.Bool.{cases_eq, cases_order, both_ways, eqb-false, and_parts, and_from, not-true, not_from_false}
use Rattle.std.proofs.lemmas.Option.{slice_get_within}
use Rattle.std.specs.List.{slice_get}
use Rattle.dxil_form.specs.declared.program.Program.{Program}
use Rattle.dxil_form.specs.declared.region.Region.{Region}
use Rattle.dxil_form.specs.declared.region.Region.TheVariants.{Loop}
use Rattle.dxil_form.specs.Graphs.{Graph, IsHeadOver, folded}
use Rattle.graph_laws.specs.Laws.{MayFold}
use Rattle.graph_laws.proofs.Public.{heads_by_walks, fold_heads, fold_ends}
use Rattle.region_laws.proofs.Places.{front, last, cases_last}
use Rattle.region_builder.specs.Built.{Built}
use Rattle.region_builder.specs.Loops.{Under}
use Rattle.region_builder.specs.Headed.{IsLoopOf, Headed}
use Rattle.region_builder.proofs.Growing.{Fitting, Rewritten, Joining}
use Rattle.region_builder.proofs.Steps.{loop_rewritten, loop_parts, loop_fits}
use Rattle.region_builder.proofs.Heading.{under_old, under_up, under_new, under_from, root_under, under_root, under_other}

-- no node goes
abbrev nobody : ℕ → Bool
nobody i = false

module _ (p : Program) (list : List Region) (blocks places : List ℕ) (g : Graph) (b : Built p list blocks places g) (a : ℕ) (self : g.edge a a ≡ true)
    (start : Graph) (over : ℕ → ℕ → Bool) (hd : Headed start list blocks places g over)
    (alone : (k : ℕ) → g.live k ≡ true → over a k ≡ true → k ≡ a) where
  abbrev x : Region
  x = Loop (get_or places a 0) (get_or blocks a 0)

  abbrev whole : List Region
  whole = list ++ x ∷ []

  abbrev after : List ℕ
  after = set places a (length list)

  abbrev now : Graph
  now = folded g a

  abbrev less : ℕ → ℕ → Bool
  less h k = over h k && not (eqb h a)

  w : Rewritten g now a nobody
  w = loop_rewritten p list blocks places g b a self

  j : Joining places x a nobody
  j = loop_parts p list blocks places g b a self

  fits : Fitting p list x
  fits = loop_fits p list blocks places g b a self

  a_live : g.live a ≡ true
  a_live = b.formed.from a a self

  -- the test by which the laws tell heads
  abbrev test : ℕ → ℕ → Bool
  test h k = g.live k && over h k

  test_tells : (h k : ℕ) → (test h k ≡ true) ↔ IsHeadOver g h k
  test_tells h k = (
    λ t. (hd.tells h k).0 (let (l, o) = and_parts (g.live k) (over h k) t in (l, o)),
    λ o. (let (l, t) = (hd.tells h k).1 o in and_from (g.live k) (over h k) l t),
  )

  may : MayFold g test a
  may = record { edge = self; alone = λ k t. (let (l, o) = and_parts (g.live k) (over a k) t in alone k l o) }

  over_own : over a a ≡ true
  over_own = ((hd.tells a a).1 ((heads_by_walks g b.formed b.all_reached a a).1 (a, self, inl refl, inl refl))).1

  less_parts : (h k : ℕ) → less h k ≡ true → (over h k ≡ true) × (h ≢ a)
  less_parts h k t = let (o, n) = and_parts (over h k) (not (eqb h a)) t in (o, eqb-false h a (not-true (eqb h a) n))

  less_from : (h k : ℕ) → over h k ≡ true → h ≢ a → less h k ≡ true
  less_from h k o n = and_from (over h k) (not (eqb h a)) o (not_from_false (eqb h a) (ne_eqb h a n))

  now_tells : (h k : ℕ) → ((now.live k ≡ true) × (less h k ≡ true)) ↔ IsHeadOver now h k
  now_tells h k = (
    λ y. (let (o, n) = less_parts h k y.1 in (fold_heads g b.formed b.all_reached a h k n).1 ((hd.tells h k).0 (y.0, o))),
    λ o. elim (cases_eq h a) [
      | inl q ↦ (let P : ℕ → Type 0 = λ z. IsHeadOver now z k in absurd (fold_ends g b.formed b.all_reached test test_tells a may k (subst P q o)))
      | inr n ↦ (let (l, t) = (hd.tells h k).1 ((fold_heads g b.formed b.all_reached a h k n).0 o) in (l, less_from h k t n))
    ],
  )

  -- the body is the only part
  own_part : (i : ℕ) → (i ≡ a) ⊎ (nobody i ≡ true) → i ≡ a
  own_part i (inl q) = q
  own_part i (inr t) = absurd (both_ways false refl t)

  in_body : (k : ℕ) → Under whole (length list) k → Under list (get_or places a 0) k
  in_body k u =
      let (i, _, o, v) = under_new p list blocks places g b x a nobody now w j fits u in
      let P : ℕ → Type 0 = λ z. Under list (get_or places z 0) k in subst P (own_part i o) v

  body_in : (k : ℕ) → Under list (get_or places a 0) k → Under whole (length list) k
  body_in k u = under_from p list blocks places g b x a nobody now w j fits a 0 refl u

  now_below : (h c k : ℕ) → now.live c ≡ true → less h c ≡ true → k < length blocks → Under whole (get_or after c 0) (get_or blocks k 0) → IsHeadOver start h k
  now_below h c k l t i u =
      let (o, n) = less_parts h c t in
      elim (root_under p list blocks places g b x a nobody now w j fits c (get_or blocks k 0) l u) [
        | inr (m, v) ↦ hd.below h c k l o i v
        | inl (q, (d, m, e, v)) ↦ (
            let P : ℕ → Type 0 = λ z. over h z ≡ true in
            hd.below h d k m (subst P (q ∙ sym (own_part d e)) o) i v)
      ]

  abbrev Kept : (h k : ℕ) → Type 0
  Kept h k = ((r : ℕ) × IsLoopOf whole blocks r h) ⊎ ((c : ℕ) × (now.live c ≡ true) × (less h c ≡ true) × Under whole (get_or after c 0) (get_or blocks k 0))

  now_kept : (h k : ℕ) → IsHeadOver start h k → Kept h k
  now_kept h k o = elim (cases_eq h a) [
    | inl q ↦ inl (length list, (get_or places a 0, own_loop q))
    | inr n ↦ elim (hd.kept h k o) [
      | inl (r, (body, e)) ↦ inl (r, (body, front list (x ∷ []) r (Loop body (get_or blocks h 0)) e))
      | inr (c, l, t, u) ↦ root n c l t u (cases_eq c a)
    ]
  ]
    where
      own_loop : h ≡ a → slice_get whole (length list) ≡ Some (Loop (get_or places a 0) (get_or blocks h 0))
      own_loop q = let P : ℕ → Type 0 = λ z. slice_get whole (length list) ≡ Some (Loop (get_or places a 0) (get_or blocks z 0)) in subst P (sym q) (last list x)

      root : h ≢ a → (c : ℕ) → g.live c ≡ true → over h c ≡ true → Under list (get_or places c 0) (get_or blocks k 0) → (c ≡ a) ⊎ (c ≡ a → ⊥) → Kept h k
      root n c l t u (inl q) =
          let P : ℕ → Type 0 = λ z. over h z ≡ true in
          let Q : ℕ → Type 0 = λ z. Under list (get_or places z 0) (get_or blocks k 0) in
          inr (a, a_live, less_from h a (subst P q t) n, under_root p list blocks places g b x a nobody now w j fits a 0 (get_or blocks k 0) (inl refl) refl (subst Q q u))
      root n c l t u (inr m) = inr (c, l, less_from h c t n, under_other p list blocks places g b x a nobody now w j fits c (get_or blocks k 0) m u)

  -- no loop of a stands yet
  no_loop_yet : (r body head : ℕ) → slice_get list r ≡ Some (Loop body head) → head ≡ get_or blocks a 0 → ⊥
  no_loop_yet r body head h q =
      let (y, i, e, _, _, none) = hd.loops r body head h in
      let same : y ≡ a = same_node y i (e ∙ q) in
      let P : ℕ → Type 0 = λ z. over z a ≡ true in none a a_live (subst P (sym same) over_own)
    where
      same_node : (y : ℕ) → y < length blocks → get_or blocks y 0 ≡ get_or blocks a 0 → y ≡ a
      same_node y i e = elim (cases_eq y a) [ inl o ↦ o | inr n ↦ absurd (no_other y i e n) ]
        where
          a_below : a < length blocks
          a_below = let l = b.formed.within a a_live in let c = b.count in omega arith

          no_other : (y : ℕ) → y < length blocks → get_or blocks y 0 ≡ get_or blocks a 0 → y ≢ a → ⊥
          no_other y i e n = elim (cases_order y a) [
            | inl o ↦ n o
            | inr (inl below) ↦ (let r = b.reachable.rising y a below a_below in omega arith)
            | inr (inr above) ↦ (let r = b.reachable.rising a y above i in omega arith)
          ]

  now_loops : (r body head : ℕ) → slice_get whole r ≡ Some (Loop body head)
      → (h : ℕ) × (h < length blocks) × (get_or blocks h 0 ≡ head) × IsHeadOver start h h
      × ((k : ℕ) → k < length blocks → Under whole r (get_or blocks k 0) ↔ IsHeadOver start h k)
      × ((c : ℕ) → now.live c ≡ true → less h c ≡ true → ⊥)
  now_loops r body head h = elim (cases_last list x r (Loop body head) h) [
    | inl o ↦ (
        let l = slice_get_within list r (Loop body head) o in
        let (y, i, e, u, under, none) = hd.loops r body head o in (
          y,
          i,
          e,
          u,
          (λ k m. (
            λ u. (under k m).0 (under_old p list blocks places g b x a nobody now w j fits l u),
            λ v. under_up p list blocks places g b x a nobody now w j fits ((under k m).1 v),
          )),
          λ c z t. none c z (less_parts y c t).0,
        ))
    | inr (q, o) ↦ new q o
  ]
    where
      a_below : a < length blocks
      a_below = let l = b.formed.within a a_live in let c = b.count in omega arith

      passed : (k : ℕ) → IsHeadOver start a k → Under whole (length list) (get_or blocks k 0)
      passed k v = elim (hd.kept a k v) [
        | inl (s, (inner, e)) ↦ absurd (no_loop_yet s inner (get_or blocks a 0) e refl)
        | inr (c, l, t, u) ↦ (let Q : ℕ → Type 0 = λ z. Under list (get_or places z 0) (get_or blocks k 0) in body_in (get_or blocks k 0) (subst Q (alone c l t) u))
      ]

      new : r ≡ length list → x ≡ Loop body head
          → (h : ℕ) × (h < length blocks) × (get_or blocks h 0 ≡ head) × IsHeadOver start h h
          × ((k : ℕ) → k < length blocks → Under whole r (get_or blocks k 0) ↔ IsHeadOver start h k)
          × ((c : ℕ) → now.live c ≡ true → less h c ≡ true → ⊥)
      new q o =
          let e : get_or blocks a 0 ≡ head = cc in
          let P : ℕ → Type 0 = λ z. (k : ℕ) → k < length blocks → Under whole z (get_or blocks k 0) ↔ IsHeadOver start a k in (
            a,
            a_below,
            e,
            hd.heads a a a_live over_own,
            subst P (sym q) (λ k m. (λ u. hd.below a a k a_live over_own m (in_body (get_or blocks k 0) u), passed k)),
            λ c z t. (less_parts a c t).1 refl,
          )

  now_once : (r s body inner head : ℕ) → slice_get whole r ≡ Some (Loop body head) → slice_get whole s ≡ Some (Loop inner head) → r ≡ s
  now_once r s body inner head h k = go (cases_last list x r (Loop body head) h) (cases_last list x s (Loop inner head) k)
    where
      own : (y : ℕ) → x ≡ Loop y head → head ≡ get_or blocks a 0
      own y q = cc

      go : (slice_get list r ≡ Some (Loop body head)) ⊎ ((r ≡ length list) × (x ≡ Loop body head))
          → (slice_get list s ≡ Some (Loop inner head)) ⊎ ((s ≡ length list) × (x ≡ Loop inner head)) → r ≡ s
      go (inl o) (inl m) = hd.once r s body inner head o m
      go (inl o) (inr (_, m)) = absurd (no_loop_yet r body head o (own inner m))
      go (inr (_, o)) (inl m) = absurd (no_loop_yet s inner head m (own body o))
      go (inr (q, _)) (inr (o, _)) = q ∙ sym o

  pub headed_loop : Headed start whole blocks after now less
  headed_loop = record {
    tells = now_tells;
    heads = λ h c l t. hd.heads h c l (less_parts h c t).0;
    below = now_below;
    kept = now_kept;
    loops = now_loops;
    once = now_once;
  }
