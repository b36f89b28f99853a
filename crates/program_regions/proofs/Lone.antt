-- Regions of a program of one reachable block: no block branches, so there is no ring.
use Rattle.std.proofs.Common.{◌≡◌, ◌⊎◌, inl, inr, ℕ, suc, ◌<◌, ◌≤◌, ltb, true, List, [], ◌∷◌, length, Some, Result, Ok, Err, IfOk, refl, sym, ap, subst, ◌∙◌, arith}
use Rattle.std.proofs.lemmas.Bool.{cond-false, le-ltb}
use Rattle.std.proofs.lemmas.Option.{slice_get_within}
use Rattle.std.specs.List.{slice_get}
use Rattle.dxil_form.specs.declared.program.Program.{Program}
use Rattle.dxil_form.specs.declared.region.Region.{Region}
use Rattle.dxil_form.specs.declared.region.Region.TheVariants.{Leaf, Then, Loop, Dispatch, Arms}
use Rattle.dxil_form.specs.Graphs.{Graph, Reached, HasHead, IsHeadOver}
use Rattle.dxil_form.specs.Branches.{branches, declared_graph, IsBranchGraph}
use Rattle.dxil_form.specs.Sound.{Sound}
use Rattle.dxil_form.specs.Wired.{Wired}
use Rattle.region_laws.specs.Paths.{PassesAll}
use Rattle.region_laws.proofs.Places.{same_place}
use Rattle.region_laws.proofs.Closing.{several}
use Rattle.region_leaves.specs.Leaves.{AreReachable, leaves_of, placed_from}
use Rattle.region_leaves.proofs.Placing.{leaf_at}
use Rattle.region_leaves.proofs.Rooted.{index_of, branch_reached}
use Rattle.dispatch_loop.specs.Whole.{IsOneDispatch}
use Rattle.dispatch_loop.proofs.Dispatching.{no_return}
use Rattle.dx_base.specs.declared.fault.OutOfMemory.{OutOfMemory}
use Rattle.dxil_form.specs.declared.region.Regions.{Regions}
use Rattle.program_regions.specs.Chosen.{AreNested, AreRegions}
use Rattle.program_regions.proofs.Counted.{no_longer}

module _ (p : Program) (sound : Sound p) (blocks : List ℕ) (are : AreReachable p blocks) (lone : length blocks ≤ 1) where
  only_first : (b : ℕ) → Reached (declared_graph p) b → b ≡ 0
  only_first b r =
      let (i, h) = index_of p sound blocks are b r in
      let (j, g) = index_of p sound blocks are 0 ([], refl) in
      let l = slice_get_within blocks i b h in
      let m = slice_get_within blocks j 0 g in
      let e : i ≡ j = omega arith in
      same_place blocks j b 0 (subst (λ (n : ℕ). slice_get blocks n ≡ Some b) e h) g

  no_branch : (b k : ℕ) → Reached (declared_graph p) b → branches p b k ≡ true → ⊥
  no_branch b k r t =
      let m = no_return p sound b k t in
      let e = only_first k (branch_reached p sound blocks are b k r t) in absurd (omega arith)

  module _ (g : Graph) (is : IsBranchGraph p g) where
    no_ring : (ring : List ℕ) (h : ℕ) → HasHead g ring h → ⊥
    no_ring [] h head = head.closed.1
    no_ring (c ∷ before) h head =
        let t = (is.edges c head.closed.0).0 head.closed.2.0 in no_branch c head.closed.0 t.0 t.1

    no_head : (h b : ℕ) → IsHeadOver g h b → ⊥
    no_head h b (ring, head, i) = no_ring ring h head

  at_leaf : (r : ℕ) (x : Region) → slice_get (leaves_of blocks) r ≡ Some x → (b : ℕ) × (Leaf b ≡ x)
  at_leaf r x h = let (b, _, q) = leaf_at blocks r x h in (b, q)

  no_loop : (r body head : ℕ) → slice_get (leaves_of blocks) r ≡ Some (Loop body head) → ⊥
  no_loop r body head h = let (b, q) = at_leaf r (Loop body head) h in absurd (cc)

  lone_nested : AreNested p (leaves_of blocks)
  lone_nested = record {
    rings = λ r body head h. absurd (no_loop r body head h);
    arms = λ r first b k a c arms h. absurd (let (d, q) = at_leaf r (Arms first arms) h in cc);
    loops = λ g is plain. record {
      made = λ h b over. absurd (no_head g is h b over);
      once = λ r s body inner head h. absurd (no_loop r body head h);
      heads = λ r body head h. absurd (no_loop r body head h);
      passes = λ r body head b h. absurd (no_loop r body head h);
    };
    no_dispatch = λ g is plain r arms h. let (d, q) = at_leaf r (Dispatch arms) h in cc;
    no_then = λ g is tree r first second target h. let (d, q) = at_leaf r (Then first second target) h in cc;
  }

placed_length : (i : ℕ) (blocks : List ℕ) → length (placed_from i blocks) ≡ length blocks
placed_length i [] = refl
placed_length i (b ∷ blocks) = ap suc (placed_length (suc i) blocks)

leaf_alone : (blocks : List ℕ) → length blocks ≡ 1 → slice_get blocks 0 ≡ Some 0 → leaves_of blocks ≡ Leaf 0 ∷ []
leaf_alone [] e h = absurd (cc)
leaf_alone (b ∷ []) e h = let q : b ≡ 0 = cc in ap (λ (n : ℕ). Leaf n ∷ []) q
leaf_alone (b ∷ c ∷ blocks) e h = absurd (omega arith)

module _ (p : Program) (sound : Sound p) (list : List Region) (is : IsOneDispatch p list) where
  first_is : length is.blocks ≤ 1 → slice_get is.blocks 0 ≡ Some 0
  first_is l =
      let (j, g) = index_of p sound is.blocks is.reachable 0 ([], refl) in
      let m = slice_get_within is.blocks j 0 g in
      let e : j ≡ 0 = omega arith in
      subst (λ (n : ℕ). slice_get is.blocks n ≡ Some 0) e g

  not_several : length is.blocks ≤ 1 → list ≡ leaves_of is.blocks
  not_several l =
      let n = placed_length 0 is.blocks in
      is.is ∙ cond-false (ltb 1 (length (placed_from 0 is.blocks))) (several (leaves_of is.blocks) (placed_from 0 is.blocks)) (leaves_of is.blocks) (le-ltb 1 (length (placed_from 0 is.blocks)) (omega arith))

  pub flat_regions : Wired p list → PassesAll p list → ((blocks : List ℕ) → AreReachable p blocks → (length blocks ≤ 1) ⊎ (400 < length blocks)) → AreRegions p list
  flat_regions wired passes count = record {
    wired = wired;
    passes = passes;
    few = λ blocks are few.
        let a = no_longer p is.blocks blocks is.reachable are in
        elim (count blocks are) [
          | inl l ↦ (let m : length is.blocks ≤ 1 = omega arith in subst (λ (x : List Region). AreNested p x) (sym (not_several m)) (lone_nested p sound is.blocks is.reachable m))
          | inr l ↦ absurd (omega arith)
        ];
    one = λ blocks are e.
        let a = no_longer p is.blocks blocks is.reachable are in
        let b = no_longer p blocks is.blocks are is.reachable in
        let m : length is.blocks ≤ 1 = omega arith in
        not_several m ∙ leaf_alone is.blocks (omega arith) (first_is m);
    many = λ blocks are l. is;
  }

pub flat_answer : (p : Program) → Sound p → ((blocks : List ℕ) → AreReachable p blocks → (length blocks ≤ 1) ⊎ (400 < length blocks)) → (r : Result Regions OutOfMemory) → IfOk r (λ regions. IsOneDispatch p regions.list) → IfOk r (λ regions. Wired p regions.list) → IfOk r (λ regions. PassesAll p regions.list) → IfOk r (λ regions. AreRegions p regions.list)
flat_answer p sound count (Err e) is wired passes = tt
flat_answer p sound count (Ok regions) is wired passes = flat_regions p sound regions.list is wired passes count
