-- Regions that pass the paths from their block up to the blocks of a test, and at their own block stop or go on.
use Rattle.std.specs.Prelude.{◌≡◌, ◌⊎◌, ℕ, ◌<◌, Bool, not, ◌&&◌, eqb, List, [], ◌++◌, length, Option, Some}
use Rattle.dxil_form.specs.declared.program.Program.{Program}
use Rattle.dxil_form.specs.declared.region.Region.{Region}
use Rattle.dxil_form.specs.Walks.{Goes, Passes}
use Rattle.region_laws.specs.Paths.{Run, Fits}

-- the test without one block
abbrev pub less : (ℕ → Bool) → ℕ → ℕ → Bool
less e a x = e x && not (eqb x a)

-- a path at whose first part region r wants its own block b
pub record Turned (p : Program) (list : List Region) (r b : ℕ) (stops : ℕ → Bool) (w : List ℕ) (x : ℕ) : Type 0 where
  pub before : List ℕ
  pub behind : List ℕ
  pub goes : Goes p list r before (Some b)
  pub rest : Run p (less stops b) b behind x
  pub joined : w ≡ before ++ behind
  pub shorter : length behind < length w

-- region r, entered by block b, passes paths that meet no other block of the test, and each such path up to such a block, or up to where it wants b
pub record Stands (p : Program) (list : List Region) (r b : ℕ) (stops : ℕ → Bool) : Type 0 where
  pub goes : (w : List ℕ) (o : Option ℕ) → Goes p list r w o → (x : ℕ) × Run p (less stops b) b w x × Fits p stops x o
  pub comes : (w : List ℕ) (o : Option ℕ) (x : ℕ) → Run p (less stops b) b w x → Fits p (less stops b) x o → Goes p list r w o ⊎ Turned p list r b stops w x
  pub passes : (w : List ℕ) → Passes p list r w → (w ≡ []) ⊎ ((x : ℕ) × Run p (less stops b) b w x)
  pub passed : (w : List ℕ) (x : ℕ) → Run p (less stops b) b w x → Passes p list r w ⊎ Turned p list r b stops w x
