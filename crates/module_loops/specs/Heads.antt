-- The heads of a branch graph.
use Rattle.std.specs.Prelude.{◌≡◌, ◌↔◌, ℕ, Bool, true, List}
use Rattle.dxil_form.specs.Graphs.{Graph, HasHead, count_below}

-- h is the head of a ring
abbrev pub IsHead : Graph → ℕ → Type 0
IsHead g h = (ring : List ℕ) × HasHead g ring h

-- the graph has n heads, which the test tells
abbrev pub HasHeads : Graph → ℕ → Type 0
HasHeads g n =
    (test : ℕ → Bool) × ((h : ℕ) → (test h ≡ true) ↔ IsHead g h) × (n ≡ count_below g.count test)
