-- Where keys stand first, by pairs of a key and a place.
use Rattle.std.specs.Prelude.{ℕ, ◌==◌, List, Option}
use Rattle.std.specs.Option.{option_map}
use Rattle.std.specs.List.{find}
use Rattle.std.specs.List.Sorted.{IsNonDecreasingBy}

-- the place of the first of the pairs with this key
abbrev pub first_place : List (ℕ × ℕ) → ℕ → Option ℕ
first_place pairs key = option_map (λ p. p.1) (find (λ p. p.0 == key) pairs)

-- the places do not fall
abbrev pub AreInOrder : List (ℕ × ℕ) → Type 0
AreInOrder pairs = IsNonDecreasingBy (λ p. p.1) pairs
