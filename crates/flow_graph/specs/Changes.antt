-- What the steps of the two rewrites change in the cells.
use Rattle.std.specs.Prelude.{◌≡◌, ◌≢◌, ◌⊎◌, ◌↔◌, ℕ, ◌<◌, Bool, true, not, ◌&&◌, eqb, List, length, Option}
use Rattle.std.specs.Option.{IfSome}
use Rattle.flow_graph.specs.declared.cells.Cell.{Cell}
use Rattle.flow_graph.specs.Links.{cell_at, leaves, Joining}
use Rattle.flow_graph.specs.Walked.{marked}

-- all but the links of the sources' lists stays
pub record SameButFrom (old new : List Cell) : Type 0 where
  pub from : (c : ℕ) → (cell_at new c).from ≡ (cell_at old c).from
  pub to : (c : ℕ) → (cell_at new c).to ≡ (cell_at old c).to
  pub used : (c : ℕ) → (cell_at new c).used ≡ (cell_at old c).used
  pub next_to : (c : ℕ) → (cell_at new c).next_to ≡ (cell_at old c).next_to

-- all but the links of the targets' lists stays
pub record SameButTo (old new : List Cell) : Type 0 where
  pub from : (c : ℕ) → (cell_at new c).from ≡ (cell_at old c).from
  pub to : (c : ℕ) → (cell_at new c).to ≡ (cell_at old c).to
  pub used : (c : ℕ) → (cell_at new c).used ≡ (cell_at old c).used
  pub next_from : (c : ℕ) → (cell_at new c).next_from ≡ (cell_at old c).next_from

-- the cell c is no longer used, and each other cell has the ends that it had
pub record Without (c : ℕ) (old new : List Cell) : Type 0 where
  pub from : (x : ℕ) → (cell_at new x).from ≡ (cell_at old x).from
  pub to : (x : ℕ) → (cell_at new x).to ≡ (cell_at old x).to
  pub used : (x : ℕ) → (cell_at new x).used ≡ ((cell_at old x).used && not (eqb x c))

-- the cell c is an edge from a, and all other ends are as they were
pub record Relabelled (c a : ℕ) (old new : List Cell) : Type 0 where
  pub from_c : (cell_at new c).from ≡ a
  pub from : (x : ℕ) → x ≢ c → (cell_at new x).from ≡ (cell_at old x).from
  pub to : (x : ℕ) → (cell_at new x).to ≡ (cell_at old x).to
  pub used : (x : ℕ) → (cell_at new x).used ≡ (cell_at old x).used
  pub next_to : (x : ℕ) → (cell_at new x).next_to ≡ (cell_at old x).next_to

-- the edge from a to b is gone, and all others stay
abbrev pub Ended : ℕ → ℕ → List Cell → List Cell → Type 0
Ended a b old new = (x y : ℕ) → Joining new x y ↔ (Joining old x y × (((x ≡ a) × (y ≡ b)) → ⊥))

-- some edges of j have become edges of a, and all others stay
pub record Between (a j : ℕ) (start now : List Cell) : Type 0 where
  pub kept : (x y : ℕ) → x ≢ j → Joining start x y → Joining now x y
  pub only : (x y : ℕ) → x ≢ j → Joining now x y → Joining start x y ⊎ ((x ≡ a) × Joining start j y)
  pub remaining : (y : ℕ) → Joining now j y → Joining start j y
  pub gone : (y : ℕ) → Joining start j y → Joining now a y ⊎ Joining now j y

-- what a merge of the list of j into that of a knows: the marks are of targets of a, which tell where an edge of j is doubled, and all edges of j lie below the hint
pub record Merging (a j : ℕ) (marks : List Bool) (hint : Option ℕ) (now : List Cell) : Type 0 where
  pub targets : (y : ℕ) → marked marks y ≡ true → Joining now a y
  pub doubled : (d c : ℕ) → leaves now a d ≡ true → leaves now j c ≡ true → (cell_at now d).to ≡ (cell_at now c).to → marked marks (cell_at now c).to ≡ true
  pub below : IfSome hint (λ p. (p < length now) × (leaves now a p ≡ true) × ((c : ℕ) → leaves now j c ≡ true → c < p))

-- j has no edges any more, each edge from j to another node is one from a, and all others stay
abbrev pub Merged : ℕ → ℕ → List Cell → List Cell → Type 0
Merged a j old new =
    (x y : ℕ) → Joining new x y ↔ ((x ≢ j) × (y ≢ j) × (Joining old x y ⊎ ((x ≡ a) × Joining old j y)))
