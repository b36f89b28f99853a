-- The graph of a list of edges, and how its cells are made: one of the equal edges is chosen, and gets a cell.
use Rattle.std.specs.Prelude.{◌≡◌, ◌⊎◌, ℕ, ◌<◌, ◌≤◌, Bool, true, false, ◌&&◌, ◌||◌, eqb, ltb, List, [], ◌∷◌, length, get_or, Option, Some}
use Rattle.dxil_form.specs.Graphs.{Graph}
use Rattle.flow_graph.specs.declared.linked.Edge.{Edge}
use Rattle.flow_graph.specs.declared.cells.Cell.{Cell}
use Rattle.flow_graph.specs.Links.{Linked, first_of, cell_at, leaves, enters, next_from_of, next_to_of}

-- some edge of the list leads from x to y
abbrev pub states : List Edge → ℕ → ℕ → Bool
states [] x y = false
states (e ∷ es) x y = (eqb e.from x && eqb e.to y) || states es x y

-- the graph of all nodes below the count and of the edges of the list
abbrev pub given : ℕ → List Edge → Graph
given count edges = record { count = count; live = λ a. ltb a count; edge = states edges }

abbrev pub no_edge : Edge
no_edge = record { from = 0; to = 0 }

abbrev pub edge_at : List Edge → ℕ → Edge
edge_at edges i = get_or edges i no_edge

-- both ends of each edge are below the count
abbrev pub Within : ℕ → List Edge → Type 0
Within count edges = (i : ℕ) → i < length edges → ((edge_at edges i).from < count) × ((edge_at edges i).to < count)

-- the edge at place i leads from a
abbrev pub starts : List Edge → ℕ → ℕ → Bool
starts edges a i = eqb (edge_at edges i).from a

-- for each source a list of the places of its edges
abbrev pub Grouped : List Edge → List (Option ℕ) → List (Option ℕ) → Type 0
Grouped edges first next = Linked (length edges) (length first) (starts edges) (first_of first) (first_of next)

abbrev pub chosen_at : List Bool → ℕ → Bool
chosen_at chosen i = get_or chosen i false

-- of the edges from sources below a, one of each kind is chosen, and no other
pub record Chosen (edges : List Edge) (a : ℕ) (seen : List (Option ℕ)) (chosen : List Bool) : Type 0 where
  pub only : (i : ℕ) → chosen_at chosen i ≡ true → (i < length edges) × ((edge_at edges i).from < a)
  pub single : (i k : ℕ) → chosen_at chosen i ≡ true → chosen_at chosen k ≡ true
      → (edge_at edges i).from ≡ (edge_at edges k).from → (edge_at edges i).to ≡ (edge_at edges k).to → i ≡ k
  pub all : (i : ℕ) → i < length edges → (edge_at edges i).from < a
      → (k : ℕ) × (chosen_at chosen k ≡ true) × ((edge_at edges k).from ≡ (edge_at edges i).from) × ((edge_at edges k).to ≡ (edge_at edges i).to)
  pub low : (y b : ℕ) → first_of seen y ≡ Some b → b < a

-- the same, and of the edges from a those at places from n on
pub record Choosing (edges : List Edge) (a n : ℕ) (seen : List (Option ℕ)) (chosen : List Bool) : Type 0 where
  pub only : (i : ℕ) → chosen_at chosen i ≡ true → (i < length edges) × (((edge_at edges i).from < a) ⊎ (((edge_at edges i).from ≡ a) × (n ≤ i)))
  pub single : (i k : ℕ) → chosen_at chosen i ≡ true → chosen_at chosen k ≡ true
      → (edge_at edges i).from ≡ (edge_at edges k).from → (edge_at edges i).to ≡ (edge_at edges k).to → i ≡ k
  pub all : (i : ℕ) → i < length edges → (((edge_at edges i).from < a) ⊎ (((edge_at edges i).from ≡ a) × (n ≤ i)))
      → (k : ℕ) × (chosen_at chosen k ≡ true) × ((edge_at edges k).from ≡ (edge_at edges i).from) × ((edge_at edges k).to ≡ (edge_at edges i).to)
  pub low : (y b : ℕ) → first_of seen y ≡ Some b → b ≤ a
  pub known : (y : ℕ) → first_of seen y ≡ Some a → (k : ℕ) × (chosen_at chosen k ≡ true) × ((edge_at edges k).from ≡ a) × ((edge_at edges k).to ≡ y)
  pub told : (k : ℕ) → chosen_at chosen k ≡ true → (edge_at edges k).from ≡ a → first_of seen (edge_at edges k).to ≡ Some a

-- one edge of each kind is chosen
pub record IsChoice (edges : List Edge) (chosen : List Bool) : Type 0 where
  pub count : length chosen ≡ length edges
  pub single : (i k : ℕ) → chosen_at chosen i ≡ true → chosen_at chosen k ≡ true
      → (edge_at edges i).from ≡ (edge_at edges k).from → (edge_at edges i).to ≡ (edge_at edges k).to → i ≡ k
  pub all : (i : ℕ) → i < length edges
      → (k : ℕ) × (chosen_at chosen k ≡ true) × ((edge_at edges k).from ≡ (edge_at edges i).from) × ((edge_at edges k).to ≡ (edge_at edges i).to)

-- the chosen edges at places below n have cells, in both lists
pub record Placed (edges : List Edge) (chosen : List Bool) (n : ℕ) (cells : List Cell) (first_from first_to : List (Option ℕ)) : Type 0 where
  pub from_lists : Linked n (length first_from) (leaves cells) (first_of first_from) (next_from_of cells)
  pub to_lists : Linked n (length first_to) (enters cells) (first_of first_to) (next_to_of cells)
  pub used : (c : ℕ) → (cell_at cells c).used ≡ true → (c < n) × (chosen_at chosen c ≡ true)
      × ((cell_at cells c).from ≡ (edge_at edges c).from) × ((cell_at cells c).to ≡ (edge_at edges c).to)
  pub placed : (c : ℕ) → c < n → chosen_at chosen c ≡ true → (cell_at cells c).used ≡ true
