-- What the roots pass at the start, and at the end.
use Rattle.std.proofs.Common.{◌≡◌, ℕ, ◌+◌, ◌<◌, Bool, true, List, [], ◌∷◌, length, get_or, Some, sym, ap, subst, ◌∙◌, arith}
use Rattle.std.proofs.lemmas.Option.{get_or_from_slice_get, slice_get_within, slice_get-get_or}
use Rattle.std.specs.List.{slice_get}
use Rattle.dxil_form.specs.declared.program.Program.{Program}
use Rattle.dxil_form.specs.declared.region.Region.{Region}
use Rattle.dxil_form.specs.declared.region.Region.TheVariants.{Leaf, Loop}
use Rattle.dxil_form.specs.Graphs.{Graph}
use Rattle.dxil_form.specs.Branches.{branches}
use Rattle.dxil_form.specs.Sound.{Sound}
use Rattle.dxil_form.specs.Walks.{Goes}
use Rattle.dxil_form.specs.Walks.Goes.{leaf_wants}
use Rattle.region_laws.specs.Roots.{HasRoot}
use Rattle.region_laws.specs.Paths.{PassesUpTo, RootsPass, enters_root, enters_other}
use Rattle.region_laws.proofs.Runs.{has_entry, entry_has}
use Rattle.region_laws.specs.Standing.{Stands}
use Rattle.region_laws.proofs.Standing.{exact, from_stopping}
use Rattle.region_leaves.specs.Leaves.{AreReachable, leaves_of, placed_from}
use Rattle.region_leaves.proofs.Placing.{at_placed, placed_at, at_leaf, leaf_at}
use Rattle.region_leaves.proofs.Rooted.{leaf_passes_up}
use Rattle.region_builder.specs.Started.{IsNodeGraph, WalksAlongEdges}
use Rattle.region_builder.specs.Walked.{TellsEntries, Walked}
use Rattle.region_builder.specs.Built.{Built, AllSettled}
use Rattle.region_builder.specs.Children.{AreRoots}
use Rattle.region_builder.proofs.Leaving.{node_of, root_of, inside, one_block}
use Rattle.region_builder.proofs.Walking.{same_tests, no_walk, along}

module _ (p : Program) (sound : Sound p) (blocks : List ℕ) (are : AreReachable p blocks) (g : Graph) (is : IsNodeGraph p blocks g)
    (places : List ℕ) (own : (i : ℕ) → i < length blocks → get_or places i 0 ≡ i) where
  root_at : (i : ℕ) → g.live i ≡ true → HasRoot (placed_from 0 blocks) (get_or blocks i 0) (get_or places i 0)
  root_at i l =
      let m = (is.live i).0 l in
      let e : 0 + i ≡ get_or places i 0 = let o = own i m in omega arith in
      (i, at_placed 0 blocks i (get_or blocks i 0) (slice_get-get_or blocks i 0 m) ∙ ap (λ (y : ℕ). Some (get_or blocks i 0, y)) e)

  entries_are : (stops : ℕ → Bool) → TellsEntries blocks g stops → enters_root (placed_from 0 blocks) ≡ stops
  entries_are stops tells = same_tests (enters_root (placed_from 0 blocks)) stops
      (λ c h. (let (r, (k, m)) = has_entry (placed_from 0 blocks) c h in
      let (_, q) = placed_at 0 blocks k c r m in
      (tells c).1 (k, (is.live k).1 (slice_get_within blocks k c q), get_or_from_slice_get blocks k c 0 q)))
      (λ c h. (let (i, l, q) = (tells c).0 h in
      let P : ℕ → Type 0 = λ y. enters_root (placed_from 0 blocks) y ≡ true in
      subst P q (entry_has (placed_from 0 blocks) (get_or blocks i 0) (get_or places i 0) (root_at i l))))

  start_stands : (stops : ℕ → Bool) → TellsEntries blocks g stops → (i : ℕ) → g.live i ≡ true → Stands p (leaves_of blocks) (get_or places i 0) (get_or blocks i 0) stops
  start_stands stops tells i l =
      let P : (ℕ → Bool) → Type 0 = λ e. PassesUpTo p (leaves_of blocks) (get_or places i 0) (get_or blocks i 0) e in
      from_stopping p (leaves_of blocks) (get_or places i 0) (get_or blocks i 0) stops
      (subst P (entries_are stops tells) (leaf_passes_up p sound blocks are (get_or blocks i 0) (get_or places i 0) (root_at i l)))

  start_goes : (i j : ℕ) → g.edge i j ≡ true → (w : List ℕ) × Goes p (leaves_of blocks) (get_or places i 0) w (Some (get_or blocks j 0))
  start_goes i j e =
      let (c, k, x, y, t) = (is.edges i j).0 e in
      let m = slice_get_within blocks i c x in
      let P : ℕ → Type 0 = λ z. slice_get (leaves_of blocks) z ≡ Some (Leaf c) in
      let leaf : slice_get (leaves_of blocks) (get_or places i 0) ≡ Some (Leaf c) = subst P (sym (own i m)) (at_leaf blocks i c x) in
      let Q : ℕ → Type 0 = λ z. branches p c z ≡ true in
      (c ∷ [], leaf_wants leaf (subst Q (sym (get_or_from_slice_get blocks j k 0 y)) t))

  pub start_walked : Walked p (leaves_of blocks) blocks places g
  start_walked = record {
    stands = start_stands;
    goes = start_goes;
    rings = λ r body head h. (let (c, _, q) = leaf_at blocks r (Loop body head) h in absurd (cc));
  }

module _ (p : Program) (list : List Region) (blocks places : List ℕ) (g : Graph) (b : Built p list blocks places g) (w : Walked p list blocks places g)
    (settled : AllSettled g) (roots : List (ℕ × ℕ)) (are : AreRoots g (length blocks) blocks places roots) where
  entries_tell : TellsEntries blocks g (enters_root roots)
  entries_tell c = (
    λ h. (let (r, root) = has_entry roots c h in let (i, l, q, _) = node_of p list blocks places g b roots are c r root in (i, l, q)),
    λ h. (let (i, l, q) = h in
        let P : ℕ → Type 0 = λ y. enters_root roots y ≡ true in
        subst P q (entry_has roots (get_or blocks i 0) (get_or places i 0) (root_of p list blocks places g b roots are i l))),
  )

  -- each root passes the paths up to the blocks of other roots
  pub roots_pass : RootsPass p list roots
  roots_pass c r root =
      let (i, l, q, e) = node_of p list blocks places g b roots are c r root in
      let P : ℕ → Type 0 = λ y. PassesUpTo p list r y (enters_other roots y) in
      let Q : ℕ → Type 0 = λ y. PassesUpTo p list y (get_or blocks i 0) (enters_other roots (get_or blocks i 0)) in
      subst P q (subst Q e (exact p list (get_or places i 0) (get_or blocks i 0) (enters_root roots) (w.stands (enters_root roots) entries_tell i l)
      (λ v h. no_walk p list blocks places g b w i i l l (λ d. (settled i l).no_fold d) v h)))

  pub roots_walk : WalksAlongEdges p blocks list roots g
  roots_walk i c r x root j k y =
      let (m, t, u, v) = node_of p list blocks places g b roots are c r root in
      let e = get_or_from_slice_get blocks i c 0 x in
      let f = get_or_from_slice_get blocks j k 0 y in
      let l = slice_get_within blocks i c x in
      let n = slice_get_within blocks j k y in
      let q : m ≡ i = one_block b.reachable m i (inside p list blocks places g b roots are m t) l (u ∙ sym e) in
      let P : ℕ → Type 0 = λ z. g.live z ≡ true in
      let Q : ℕ → Type 0 = λ z. get_or places z 0 ≡ r in
      let live : g.live i ≡ true = subst P q t in
      let place : get_or places i 0 ≡ r = subst Q q v in (
        λ d. (
            let (z, h) = w.goes i j d in
            let R : ℕ → Type 0 = λ a. Goes p list a z (Some k) in
            let S : ℕ → Type 0 = λ a. Goes p list (get_or places i 0) z (Some a) in (z, subst R place (subst S f h))),
        λ h. (
            let (z, g1) = h in
            let R : ℕ → Type 0 = λ a. Goes p list a z (Some k) in
            let (o, d, a) = along p list blocks places g b w i k live z (subst R (sym place) g1) in
            let same : o ≡ j = one_block b.reachable o j (inside p list blocks places g b roots are o (b.formed.to i o d)) n (a ∙ sym f) in
            let T : ℕ → Type 0 = λ u. g.edge i u ≡ true in subst T same d),
      )
