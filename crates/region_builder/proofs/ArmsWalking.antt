-- Arms keep what the roots pass.
use Rattle.std.proofs.Common.{◌≡◌, ◌⊎◌, ◌↔◌, inl, inr, ℕ, Bool, true, false, ◌||◌, List, [], ◌∷◌, ◌++◌, length, get_or, set, Some, refl, sym, ap, subst, ◌∙◌}
use Rattle.std.proofs.lemmas.Bool.{both_ways, false_from_ne_true}
use Rattle.std.specs.List.{slice_get, Contains}
use Rattle.dxil_form.specs.declared.program.Program.{Program}
use Rattle.dxil_form.specs.declared.region.Region.{Region}
use Rattle.dxil_form.specs.declared.region.Region.TheVariants.{Leaf, Loop, Arms}
use Rattle.dxil_form.specs.Graphs.{Graph}
use Rattle.dxil_form.specs.Branches.{has}
use Rattle.dxil_form.specs.Walks.{Goes}
use Rattle.dxil_form.specs.Walks.Goes.{arms_leave, arms_go_on}
use Rattle.region_laws.specs.Paths.{PassesUpTo}
use Rattle.region_laws.proofs.Places.{last, cases_last, has_get}
use Rattle.region_laws.specs.Standing.{less, Stands}
use Rattle.region_laws.proofs.Standing.{exact, going_stands}
use Rattle.region_laws.proofs.Going.{arms_lead, armed, arm_told, told_arm}
use Rattle.region_builder.specs.Walked.{TellsEntries, Walked}
use Rattle.region_builder.specs.Built.{Built}
use Rattle.region_builder.specs.Absorbing.{AreChildren, AreAbsorbed, arms_of}
use Rattle.region_builder.proofs.Growing.{Rewritten}
use Rattle.region_builder.proofs.Steps.{one_node}
use Rattle.region_builder.proofs.Absorbing.{has_place, place_has}
use Rattle.region_builder.proofs.Branching.{arm_of, arm_at, child_live, rewritten}
use Rattle.region_builder.proofs.Walking.{carried, Wants, all_tell, left_is, other_stands, placed, wanting, up_goes, up_stands, down_no_walk}

module _ (p : Program) (list : List Region) (blocks places : List ℕ) (g : Graph) (b : Built p list blocks places g) (w : Walked p list blocks places g)
    (a : ℕ) (nodes : List ℕ) (c : AreChildren g a nodes) (block : ℕ) (leaf : slice_get list (get_or places a 0) ≡ Some (Leaf block))
    (now : Graph) (are : AreAbsorbed g a nodes now) where
  abbrev arms : List (ℕ × ℕ)
  arms = arms_of blocks places nodes

  abbrev x : Region
  x = Arms (get_or places a 0) arms

  abbrev whole : List Region
  whole = list ++ x ∷ []

  here : slice_get whole (length list) ≡ Some x
  here = last list x

  abbrev gone : ℕ → Bool
  gone i = has i nodes

  abbrev t : ℕ → Bool
  t = armed arms

  written : Rewritten g now a gone
  written = rewritten p list blocks places g b a nodes c block leaf now are

  a_live : g.live a ≡ true
  a_live = written.stays

  lives : (n j : ℕ) → slice_get nodes n ≡ Some j → g.live j ≡ true
  lives n j h = child_live p list blocks places g b a nodes c block leaf now are n j h

  -- an arm is the root of a child
  child_of : (k s : ℕ) → Contains arms (k, s) → (n : ℕ) × (j : ℕ) × (slice_get nodes n ≡ Some j) × (get_or blocks j 0 ≡ k) × (get_or places j 0 ≡ s)
  child_of k s i = arm_of p list blocks places g b a nodes c block leaf now are k s i

  arm_for : (n j : ℕ) → slice_get nodes n ≡ Some j → Contains arms (get_or blocks j 0, get_or places j 0)
  arm_for n j h = has_get arms n (get_or blocks j 0, get_or places j 0) (arm_at blocks places nodes n j h)

  tells : (k : ℕ) → (t k ≡ true) ↔ ((i : ℕ) × (gone i ≡ true) × (get_or blocks i 0 ≡ k))
  tells k = (
    λ h. (let (s, i) = arm_told arms k h in let (n, j, m, q, _) = child_of k s i in (j, place_has nodes n j m, q)),
    λ h. (let (i, d, q) = h in
        let (n, m) = has_place nodes i d in
        let P : ℕ → Type 0 = λ y. t y ≡ true in subst P q (told_arm arms (get_or blocks i 0) (get_or places i 0) (arm_for n i m))),
  )

  -- no child wants a child
  no_child : (m j n i : ℕ) → slice_get nodes m ≡ Some j → slice_get nodes n ≡ Some i → (v : List ℕ) → Goes p whole (get_or places j 0) v (Some (get_or blocks i 0)) → ⊥
  no_child m j n i h k v z =
      down_no_walk p list blocks places g b w x j i (lives m j h) (lives n i k) (λ e. (c.sole m j h).other (sym ((c.sole n i k).sole j e))) v z

  module _ (left : ℕ → Bool) (entries : TellsEntries blocks now left) where
    abbrev every : ℕ → Bool
    every k = left k || t k

    every_tells : TellsEntries blocks g every
    every_tells = all_tell p list blocks places g b w a gone now written t tells left entries

    second : (k s : ℕ) → Contains arms (k, s) → PassesUpTo p whole s k (less every k)
    second k s i =
        let (n, j, m, q, e) = child_of k s i in
        let P : ℕ → Type 0 = λ y. PassesUpTo p whole s y (less every y) in
        let Q : ℕ → Type 0 = λ y. PassesUpTo p whole y (get_or blocks j 0) (less every (get_or blocks j 0)) in
        subst P q (subst Q e (exact p whole (get_or places j 0) (get_or blocks j 0) every
        (up_stands p list blocks places g b w x j every (lives n j m) (w.stands every every_tells j (lives n j m))) (no_child n j n j m m)))

    own_stands : Stands p whole (length list) (get_or blocks a 0) left
    own_stands =
        let P : (ℕ → Bool) → Type 0 = λ e. Stands p whole (length list) (get_or blocks a 0) e in
        subst P (left_is p list blocks places g b w a gone now written t tells left entries)
        (going_stands p whole (length list) (get_or places a 0) (get_or blocks a 0)
        (λ k s. Contains arms (k, s)) t
        (λ k h. arm_told arms k h)
        (λ k s i. told_arm arms k s i)
        (arms_lead p whole (length list) (get_or places a 0) arms here)
        every
        (false_from_ne_true (t (get_or blocks a 0)) (λ h. (
        let (i, d, q) = (tells (get_or blocks a 0)).0 h in
        let (n, m) = has_place nodes i d in
        (c.sole n i m).other (sym (one_node p list blocks places g b i a (lives n i m) a_live q)))))
        (up_stands p list blocks places g b w x a every a_live (w.stands every every_tells a a_live))
        second
        (λ k s i. (let (n, j, m, q, _) = child_of k s i in (every_tells k).1 (j, lives n j m, q)))
        (λ k s i d l m v h. (
        let (n, y, f, q, e) = child_of k s l in
        let (o, z, u, r, _) = child_of i d m in
        let P : ℕ → Type 0 = λ z. Goes p whole z v (Some i) in
        let Q : ℕ → Type 0 = λ z. Goes p whole (get_or places y 0) v (Some z) in
        no_child n y o z f u v (subst Q (sym r) (subst P (sym e) h)))))

  branch_stands : (left : ℕ → Bool) → TellsEntries blocks now left → (i : ℕ) → now.live i ≡ true
      → Stands p whole (get_or (set places a (length list)) i 0) (get_or blocks i 0) left
  branch_stands left entries i l = placed p list blocks places g b w x a i left a_live (λ q. own_stands left entries)
      (λ n. other_stands p list blocks places g b w a gone now written t tells left entries x
      (λ i k o d e. (let (m, h) = has_place nodes k d in o ((c.sole m k h).sole i e))) i l n)

  branch_goes : (i y : ℕ) → now.edge i y ≡ true → Wants p list blocks places g b w x a i y
  branch_goes i y e =
      let (_, f, o) = (are.edge i y).0 e in
      wanting p list blocks places g b w x a i y a_live
      (λ q. own f o q)
      (λ m. up_goes p list blocks places g b w x (get_or places i 0) (get_or blocks y 0) (w.goes i y (elim o [ inl d ↦ d | inr (q, _) ↦ absurd (m q) ])))
    where
      own : has y nodes ≡ false → (g.edge i y ≡ true) ⊎ ((i ≡ a) × ((j : ℕ) × (has j nodes ≡ true) × (g.edge j y ≡ true))) → i ≡ a
          → (v : List ℕ) × Goes p whole (length list) v (Some (get_or blocks y 0))
      own f (inl d) q =
          let P : ℕ → Type 0 = λ z. g.edge z y ≡ true in
          let (v, h) = up_goes p list blocks places g b w x (get_or places a 0) (get_or blocks y 0) (w.goes a y (subst P q d)) in (
            v,
            arms_leave here h (λ s z. (
                let (n, j, m, r, _) = child_of (get_or blocks y 0) s z in
                let e : j ≡ y = one_node p list blocks places g b j y (lives n j m) (b.formed.to i y d) r in
                let Q : ℕ → Type 0 = λ k. has k nodes ≡ true in both_ways (has y nodes) f (subst Q e (place_has nodes n j m)))),
          )
      own f (inr (_, (j, z, d))) q =
          let (n, m) = has_place nodes j z in
          let (u, k) = up_goes p list blocks places g b w x (get_or places a 0) (get_or blocks j 0) (w.goes a j (c.sole n j m).edge) in
          let (v, h) = up_goes p list blocks places g b w x (get_or places j 0) (get_or blocks y 0) (w.goes j y d) in
          (u ++ v, arms_go_on here k (arm_for n j m) h)

  pub branch_walked : Walked p whole blocks (set places a (length list)) now
  branch_walked = record {
    stands = branch_stands;
    goes = branch_goes;
    rings = λ r body head h. elim (cases_last list x r (Loop body head) h) [ inl o ↦ w.rings r body head o | inr (_, o) ↦ absurd (cc) ];
  }

  pub branch_walks : (region : Region) → region ≡ x → (l : List Region) (bs ps : List ℕ) → l ≡ list ++ region ∷ [] → bs ≡ blocks → ps ≡ set places a (length list) → Walked p l bs ps now
  branch_walks region is l bs ps u y z =
      carried (Walked p) l whole bs blocks ps (set places a (length list)) now now (u ∙ ap (λ (r : Region). list ++ r ∷ []) is) y z refl branch_walked
