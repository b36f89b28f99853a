-- A branch graph that is a tree has no ring, so that its regions are leaves and arms, and no variable says which block is wanted.
use Rattle.std.proofs.Common.{◌≡◌, ℕ, suc, ◌≤◌, Bool, true, false, List, [], ◌∷◌, ◌++◌, Option, Some, None, refl, ap, ◌∙◌, subst, arith}
use Rattle.std.proofs.lemmas.Bool.{le-ltb}
use Rattle.std.specs.Prelude.{slice_get, ◌||◌, if◌then◌else◌}
use Rattle.std.specs.List.{list_any}
use Rattle.dxil_form.specs.declared.block.Block.{Block}
use Rattle.dxil_form.specs.declared.program.Program.{Program}
use Rattle.dxil_form.specs.declared.region.Region.{Region}
use Rattle.dxil_form.specs.declared.region.Region.TheVariants as region
use Rattle.dxil_form.specs.Graphs.{Graph, Path, Ring, Crossed}
use Rattle.dxil_form.specs.Branches.{declared_graph}
use Rattle.dxil_form.specs.Sound.{Sound, cases_in}
use Rattle.program_regions.specs.Chosen.{AreRegions}
use Rattle.spirv_code.specs.Further.{many_cases, is_split, picks, passes, wants, want_slots}
use Rattle.spirv_code.specs.Leaves.{most_pairs}
use Rattle.spirv_code.specs.declared.key.Slot.TheVariants.{Want, Pick}
use Rattle.variable_counts.specs.Laws.{IsBranchTree}

-- an edge ahead of a path
ahead : (g : Graph) (x y z : ℕ) (before : List ℕ) → g.edge x y ≡ true → Path g y before z → Path g x (before ++ x ∷ []) z
ahead g x y z [] e path = (subst (λ n. g.edge x n ≡ true) path e, refl)
ahead g x y z (c ∷ before) e path = (path.0, ahead g x y c before e path.1)

-- an edge leads from c to a, and a path from a to c
abbrev OnRing : Graph → ℕ → Type 0
OnRing g a = (c : ℕ) × (rest : List ℕ) × (g.edge c a ≡ true) × Path g a rest c

-- the last edge of a ring goes to its front
turned : (g : Graph) (a d : ℕ) (rest : List ℕ) → g.edge d a ≡ true → Path g a rest d → OnRing g d
turned g a d [] into home = (d, [], subst (λ n. g.edge d n ≡ true) home into, refl)
turned g a d (e ∷ rest) into home = (e, rest ++ d ∷ [], home.0, ahead g d a e rest into home.1)

module _ (p : Program) (sound : Sound p) (blocks : List ℕ) (g : Graph) (tree : IsBranchTree p blocks g) where
  -- an edge of the path leads into the ring, so that it is one of the ring's, and the block before is on a ring, too
  no_return : (before : List ℕ) (a : ℕ) → Path (declared_graph p) 0 before a → OnRing g a → ⊥
  no_return [] a path ring =
      let low = (sound.targets ring.0 a ((tree.graph.edges ring.0 a).0 ring.2).1).0 in
      absurd (omega (arith, low, path))
  no_return (d ∷ before) a path ring =
      let into : g.edge d a ≡ true = (tree.graph.edges d a).1 ((before, path.1), path.0) in
      let same = tree.single ring.0 d a ring.2 into in
      no_return before d path.1 (turned g a d ring.1 into (subst (λ n. Path g a ring.1 n) same ring.3))

  no_ring : (ring : List ℕ) → Ring g ring → ⊥
  no_ring [] h = absurd h.1
  no_ring (c ∷ rest) h =
      let reached = (tree.graph.edges c h.0).0 h.2.0 in
      no_return (c ∷ reached.0.0) h.0 (reached.1, reached.0.1) (c, rest, h.2.0, h.2.1)

  uncrossed : Crossed g → ⊥
  uncrossed crossed = no_ring crossed.ring crossed.closed

  any_none : {A : Type 0} (test : A → Bool) (xs : List A) → ((k : ℕ) (x : A) → slice_get xs k ≡ Some x → test x ≡ false) → list_any test xs ≡ false
  any_none test [] h = refl
  any_none test (x ∷ xs) h =
      ap (λ b. b || list_any test xs) (h 0 x refl) ∙ any_none test xs (λ k y e. h (suc k) y e)

  module _ (list : List Region) (are : AreRegions p list) where
    no_picks : picks p list ≡ false
    no_picks = any_none (is_split p) list by_region
      where
        by_block : (b : ℕ) (o : Option Block) → slice_get p.blocks b ≡ o → ((block : Block) → o ≡ Some block → cases_in block.term ≤ most_pairs) → many_cases o ≡ false
        by_block b None e few = refl
        by_block b (Some block) e few = le-ltb most_pairs (cases_in block.term) (few block refl)

        by_region : (r : ℕ) (x : Region) → slice_get list r ≡ Some x → is_split p x ≡ false
        by_region r (region.Leaf b) e =
            by_block b (slice_get p.blocks b) refl (λ block stands. tree.cases b block (are.wired.reached r b e) stands)
        by_region r (region.Then first second target) e = refl
        by_region r (region.Loop body head) e = refl
        by_region r (region.Dispatch arms) e = refl
        by_region r (region.Arms first arms) e = refl

    no_wants : wants p list ≡ false
    no_wants =
        ap (λ b. b || picks p list) (any_none passes list by_region) ∙ no_picks
      where
        by_region : (r : ℕ) (x : Region) → slice_get list r ≡ Some x → passes x ≡ false
        by_region r (region.Leaf b) e = refl
        by_region r (region.Then first second target) e = absurd ((are.few blocks tree.reachable tree.few).no_then g tree.graph tree.single r first second target e)
        by_region r (region.Loop body head) e =
            let over = ((are.few blocks tree.reachable tree.few).loops g tree.graph uncrossed).heads r body head e in
            absurd (no_ring over.0 over.1.closed)
        by_region r (region.Dispatch arms) e = absurd ((are.few blocks tree.reachable tree.few).no_dispatch g tree.graph uncrossed r arms e)
        by_region r (region.Arms first arms) e = refl

    -- no variable beside those of registers
    pub no_want_slots : want_slots p list ≡ []
    no_want_slots =
        ap (λ b. (if b then Want ∷ [] else []) ++ (if picks p list then Pick ∷ [] else [])) no_wants
        ∙ ap (λ b. (if b then Pick ∷ [] else [])) no_picks
