-- The blocks that a program may run, and a leaf for each of them.
use Rattle.std.specs.Prelude.{ℕ, suc, ◌<◌, List, [], ◌∷◌, length, map, slice_index, Contains}
use Rattle.dxil_form.specs.declared.program.Program.{Program}
use Rattle.dxil_form.specs.declared.region.Region.{Region}
use Rattle.dxil_form.specs.declared.region.Region.TheVariants.{Leaf}
use Rattle.dxil_form.specs.Graphs.{Reached}
use Rattle.dxil_form.specs.Branches.{declared_graph}

-- the numbers rise, and are those of the blocks that paths from block 0 reach
pub record AreReachable (p : Program) (blocks : List ℕ) : Type 0 where
  pub rising : (i j : ℕ) → i < j → j < length blocks → slice_index blocks i < slice_index blocks j
  pub all : (b : ℕ) → Reached (declared_graph p) b → Contains blocks b
  pub only : (b : ℕ) → Contains blocks b → Reached (declared_graph p) b

-- a leaf for each block, in order
abbrev pub leaves_of : List ℕ → List Region
leaves_of blocks = map (λ b. Leaf b) blocks

-- each block with its place in the list of leaves, from a place on
abbrev pub placed_from : ℕ → List ℕ → List (ℕ × ℕ)
placed_from i [] = []
placed_from i (b ∷ blocks) = (b, i) ∷ placed_from (suc i) blocks
