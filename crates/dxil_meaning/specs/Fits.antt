-- Which launches fit a program.
use Rattle.std.specs.Prelude.{◌≡◌, ℕ, ◌*◌, ◌^◌, ◌<◌, ◌≤◌, List, length, Some, slice_get, All}
use Rattle.dxil_form.specs.declared.program.Resource.{Resource}
use Rattle.dxil_form.specs.declared.program.Program.{Program}
use Rattle.dxil_meaning.specs.Launches.{Memory}
use Rattle.dxil_meaning.specs.Source.{Launch, rows_of}

-- a resource may have this many words: four for each row of a constant buffer, and fewer than 2 ^ 30
pub record SizeFits (resource : Resource) (size : ℕ) : Type 0 where
  pub rows : 4 * rows_of resource.kind ≤ size
  pub small : size < 2 ^ 30

-- there is one size for each resource, and each fits
pub record SizesFit (p : Program) (sizes : List ℕ) : Type 0 where
  pub one_each : length sizes ≡ length p.resources
  pub each : (r : ℕ) (resource : Resource) (size : ℕ) → slice_get p.resources r ≡ Some resource → slice_get sizes r ≡ Some size → SizeFits resource size

-- the launch has three group counts from 1 to 65,535, and sizes that fit
pub record Fits (p : Program) (l : Launch) : Type 0 where
  pub three : length l.groups ≡ 3
  pub counts : All (λ n. (1 ≤ n) × (n < 65536)) l.groups
  pub sizes : SizesFit p l.sizes

-- each place of memory holds a word of 32 bits
pub record HoldsWords (memory : Memory) : Type 0 where
  pub buffers : (r word : ℕ) → memory.buffers r word < 2 ^ 32
  pub shared : (group a word : ℕ) → memory.shared group a word < 2 ^ 32
