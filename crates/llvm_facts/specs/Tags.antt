-- Nodes of pairs of a tag and a value.
use Rattle.std.specs.Prelude.{ℕ, ◌==◌, List, [], ◌∷◌, Bool, false, Option, Some, None, find}
use Rattle.llvm_facts.specs.Module.{Module}
use Rattle.llvm_facts.specs.Values.{i32_at}

-- The pairs among the fields of a node. The last field of an odd number is passed over.
abbrev pub pairs : List ℕ → List (ℕ × ℕ)
pairs [] = []
pairs (a ∷ []) = []
pairs (a ∷ b ∷ fields) = (a, b) ∷ pairs fields

abbrev pub says : ℕ → Option ℕ → Bool
says wanted None = false
says wanted (Some number) = number == wanted

abbrev pub has_tag : Module → ℕ → (ℕ × ℕ) → Bool
has_tag m tag pair = says tag (i32_at m pair.0)

abbrev pub value_of_pair : Option (ℕ × ℕ) → ℕ
value_of_pair None = 0
value_of_pair (Some pair) = pair.1

-- the field of the first pair with a tag, or 0
unfoldable pub tagged : Module → ℕ → List ℕ → ℕ
tagged m tag fields = value_of_pair (find (has_tag m tag) (pairs fields))
