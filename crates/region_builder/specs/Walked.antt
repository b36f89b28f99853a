-- What roots pass, while regions are put together.
use Rattle.std.specs.Prelude.{◌≡◌, ◌↔◌, ℕ, Bool, true, List, Some, slice_index}
use Rattle.dxil_form.specs.declared.program.Program.{Program}
use Rattle.dxil_form.specs.declared.region.Region.{Region}
use Rattle.dxil_form.specs.Graphs.{Graph}
use Rattle.dxil_form.specs.Walks.{Goes}
use Rattle.region_laws.specs.Standing.{Stands}
use Rattle.region_builder.specs.Loops.{LoopsAreOnRings}

-- the test tells the blocks that enter roots
abbrev pub TellsEntries : List ℕ → Graph → (ℕ → Bool) → Type 0
TellsEntries blocks g stops = (c : ℕ) → (stops c ≡ true) ↔ ((i : ℕ) × (g.live i ≡ true) × (slice_index blocks i ≡ c))

-- each root passes the paths up to the blocks that enter roots, and what it may want it wants after some walk; a ring passes the head of each loop
pub record Walked (p : Program) (list : List Region) (blocks places : List ℕ) (g : Graph) : Type 0 where
  pub stands : (stops : ℕ → Bool) → TellsEntries blocks g stops → (i : ℕ) → g.live i ≡ true → Stands p list (slice_index places i) (slice_index blocks i) stops
  pub goes : (i j : ℕ) → g.edge i j ≡ true → (w : List ℕ) × Goes p list (slice_index places i) w (Some (slice_index blocks j))
  pub rings : LoopsAreOnRings p list
