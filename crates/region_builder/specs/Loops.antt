-- What stands under loops and arms, of regions that have been put together.
use Rattle.std.specs.Prelude.{◌≡◌, ◌↔◌, ℕ, ◌<◌, true, List, length, Some, slice_get, slice_index, Contains}
use Rattle.dxil_form.specs.declared.program.Program.{Program}
use Rattle.dxil_form.specs.declared.region.Region.{Region}
use Rattle.dxil_form.specs.declared.region.Region.TheVariants.{Leaf, Loop, Arms}
use Rattle.dxil_form.specs.Graphs.{Graph, Reached, IsHeadOver}
use Rattle.dxil_form.specs.Branches.{branches, declared_graph}
use Rattle.dxil_form.specs.Wired.{IsPart}
use Rattle.region_laws.specs.Paths.{Run, nowhere}

-- block b is a leaf in region r
pub data Under (list : List Region) : (r b : ℕ) → Type 0 where
  is_leaf : {r b : ℕ} → slice_get list r ≡ Some (Leaf b) → Under list r b
  in_part : {r i s b : ℕ} → IsPart list r i s → Under list s b → Under list r b

-- each head of the graph is the head of one loop and no other block is the head of one, and the blocks in a loop are those that the rings of its head pass; node i stands for the i-th of the blocks
pub record LoopsAreRings (g : Graph) (blocks : List ℕ) (list : List Region) : Type 0 where
  pub made : (h b : ℕ) → IsHeadOver g h b → (r : ℕ) × (body : ℕ) × (slice_get list r ≡ Some (Loop body (slice_index blocks h)))
  pub once : (r s body inner head : ℕ) → slice_get list r ≡ Some (Loop body head) → slice_get list s ≡ Some (Loop inner head) → r ≡ s
  pub heads : (r body head : ℕ) → slice_get list r ≡ Some (Loop body head)
      → (h : ℕ) × (slice_get blocks h ≡ Some head) × IsHeadOver g h h
  pub passes : (r body h b c : ℕ) → slice_get blocks h ≡ Some c → slice_get list r ≡ Some (Loop body c) → b < length blocks → Under list r (slice_index blocks b) ↔ IsHeadOver g h b

-- a path of branches leads from the head of each loop back to it
abbrev pub LoopsAreOnRings : Program → List Region → Type 0
LoopsAreOnRings p list =
    (r body head : ℕ) → slice_get list r ≡ Some (Loop body head) → (w : List ℕ) × (x : ℕ) × Run p nowhere head w x × (branches p x head ≡ true)

-- the target of each arm has one edge of the branch graph into it, from the block of the leaf
abbrev pub ArmsAreSole : Program → List Region → Type 0
ArmsAreSole p list =
    (r first b k a c : ℕ) (arms : List (ℕ × ℕ)) → slice_get list r ≡ Some (Arms first arms) → slice_get list first ≡ Some (Leaf b) → Contains arms (k, a)
    → Reached (declared_graph p) c → branches p c k ≡ true → c ≡ b

-- each head of the branch graph is the head of one loop and no other block is the head of one, and the blocks in a loop are those that the rings of its head pass
pub record LoopsAreHeads (g : Graph) (list : List Region) : Type 0 where
  pub made : (h b : ℕ) → IsHeadOver g h b → (r : ℕ) × (body : ℕ) × (slice_get list r ≡ Some (Loop body h))
  pub once : (r s body inner head : ℕ) → slice_get list r ≡ Some (Loop body head) → slice_get list s ≡ Some (Loop inner head) → r ≡ s
  pub heads : (r body head : ℕ) → slice_get list r ≡ Some (Loop body head) → IsHeadOver g head head
  pub passes : (r body head b : ℕ) → slice_get list r ≡ Some (Loop body head) → Under list r b ↔ IsHeadOver g head b
