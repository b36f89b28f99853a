-- The number of the first sentence of a list that holds.
use Rattle.std.specs.Prelude.{ℕ, ◌≡◌, ◌<◌, List, Bool, Option, Some, None}
use Rattle.dx_base.specs.Sentences.{first_that_holds}

-- None where none holds
abbrev pub IsFirstRule : Option ℕ → List Bool → Type 0
IsFirstRule None bs = first_that_holds bs ≡ 0
IsFirstRule (Some rule) bs = (first_that_holds bs ≡ rule) × (0 < rule)
