-- The edges of all blocks, and the places of marks.
use Rattle.std.specs.Prelude.{◌≡◌, ◌⊎◌, ◌↔◌, ℕ, suc, None, ◌<◌, true, false, List, [], ◌∷◌, ◌++◌, length, map, slice_index, slice_index_or}
use Rattle.std.specs.Prelude as std
use Rattle.dxil_form.specs.declared.block.Block.{Block}
use Rattle.dxil_form.specs.Branches.{targets}
use Rattle.dxil_form.specs.Graphs.{Graph, Leads}
use Rattle.flow_graph.specs.declared.linked.Edge.{Edge}

abbrev pub edges_to : ℕ → List ℕ → List Edge
edges_to from ks = map (λ k. record { from = from; to = k }) ks

-- the edges of blocks with the numbers from `from` on
abbrev pub edges_on : ℕ → List Block → List Edge
edges_on from [] = []
edges_on from (block ∷ blocks) = edges_to from (targets block.term) ++ edges_on (suc from) blocks

-- the numbers below n at which a mark stands, in order
pub record AreMarked (marks : List std.Bool) (n : ℕ) (numbers : List ℕ) : Type 0 where
  pub rising : (i j : ℕ) → i < j → j < length numbers → slice_index numbers i < slice_index numbers j
  pub only : (i : ℕ) → i < length numbers → (slice_index numbers i < n) × (slice_index_or marks (slice_index numbers i) false ≡ true)
  pub all : (b : ℕ) → b < n → slice_index_or marks b false ≡ true → (i : ℕ) × (i < length numbers) × (slice_index numbers i ≡ b)

-- exactly node 0 and those nodes have marks to which a path leads from it
abbrev pub MarksFromStart : Graph → List std.Bool → Type 0
MarksFromStart g marks = (b : ℕ) → (slice_index_or marks b false ≡ true) ↔ ((b ≡ 0) ⊎ Leads g 0 b None)
