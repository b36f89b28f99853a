-- The greatest numbers of the ranges of a list.
use Rattle.std.specs.Prelude.{ℕ, ◌≡◌, ◌+◌, ◌*◌, ◌<◌, ◌≤◌, ◌↔◌, List, length, slice_index, All}
use Rattle.flow_scans.specs.declared.range.Level.{Level}

-- a number of the range from `from` on and before `to` is above the bound
pub record Exceeds (values : List ℕ) (from to bound : ℕ) : Type 0 where
  pub at : ℕ
  pub behind : from ≤ at
  pub before : at < to
  pub above : bound < slice_index values at

-- the greatest of as many numbers from a place on
pub record IsMost (values : List ℕ) (from count most : ℕ) : Type 0 where
  pub upper : (k : ℕ) → from ≤ k → k < from + count → slice_index values k ≤ most
  pub at : ℕ
  pub behind : from ≤ at
  pub before : at < from + count
  pub is : slice_index values at ≡ most

-- the greatest numbers of all chunks of the width that begin at its multiples and lie whole within the values
pub record AreMaxima (values : List ℕ) (width : ℕ) (maxima : List ℕ) : Type 0 where
  pub some : 0 < width
  pub whole : (i : ℕ) → (i < length maxima) ↔ (i * width + width ≤ length values)
  pub each : (i : ℕ) → i < length maxima → IsMost values (i * width) width (slice_index maxima i)

abbrev pub IsLevel : List ℕ → Level → Type 0
IsLevel values level = AreMaxima values level.width level.maxima.items

abbrev pub AreLevels : List ℕ → List Level → Type 0
AreLevels values levels = All (IsLevel values) levels
