-- Heads and their loops, while regions are put together.
use Rattle.std.specs.Prelude.{◌≡◌, ◌⊎◌, ◌↔◌, ℕ, ◌<◌, Bool, true, List, length, Some, slice_get, slice_index, Contains}
use Rattle.dxil_form.specs.declared.region.Region.{Region}
use Rattle.dxil_form.specs.declared.region.Region.TheVariants.{Leaf, Loop, Arms}
use Rattle.dxil_form.specs.Graphs.{Graph, SolePred, IsHeadOver}
use Rattle.region_builder.specs.Loops.{Under}

-- region r is a loop whose head is the block of node h
abbrev pub IsLoopOf : List Region → List ℕ → ℕ → ℕ → Type 0
IsLoopOf list blocks r h = (body : ℕ) × (slice_get list r ≡ Some (Loop body (slice_index blocks h)))

-- start is the graph at first, g the graph now; the test tells of the heads that have no loop yet, and of the live nodes that their rings pass
pub record Headed (start : Graph) (list : List Region) (blocks places : List ℕ) (g : Graph) (over : ℕ → ℕ → Bool) : Type 0 where
  pub tells : (h b : ℕ) → ((g.live b ≡ true) × (over h b ≡ true)) ↔ IsHeadOver g h b
  pub heads : (h c : ℕ) → g.live c ≡ true → over h c ≡ true → IsHeadOver start h h
  -- each block under a root is passed by all rings that pass the root
  pub below : (h c b : ℕ) → g.live c ≡ true → over h c ≡ true → b < length blocks → Under list (slice_index places c) (slice_index blocks b) → IsHeadOver start h b
  -- each block that the rings of a head pass stands under such a root, or the head has a loop
  pub kept : (h b : ℕ) → IsHeadOver start h b
      → ((r : ℕ) × IsLoopOf list blocks r h) ⊎ ((c : ℕ) × (g.live c ≡ true) × (over h c ≡ true) × Under list (slice_index places c) (slice_index blocks b))
  -- under a loop stand the blocks that the rings of its head pass, and the head has no rings any more
  pub loops : (r body head : ℕ) → slice_get list r ≡ Some (Loop body head)
      → (h : ℕ) × (h < length blocks) × (slice_index blocks h ≡ head) × IsHeadOver start h h
      × ((b : ℕ) → b < length blocks → Under list r (slice_index blocks b) ↔ IsHeadOver start h b)
      × ((c : ℕ) → g.live c ≡ true → over h c ≡ true → ⊥)
  pub once : (r s body inner head : ℕ) → slice_get list r ≡ Some (Loop body head) → slice_get list s ≡ Some (Loop inner head) → r ≡ s

-- the target of each arm has one edge into it at first, from the leaf of the arms
abbrev pub ArmsFrom : Graph → List Region → List ℕ → Type 0
ArmsFrom start list blocks =
    (r first k a : ℕ) (arms : List (ℕ × ℕ)) → slice_get list r ≡ Some (Arms first arms) → Contains arms (k, a)
    → (i : ℕ) × (j : ℕ) × (slice_get list first ≡ Some (Leaf (slice_index blocks i))) × (slice_index blocks j ≡ k) × SolePred start i j
