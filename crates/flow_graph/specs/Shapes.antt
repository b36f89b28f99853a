-- What contracts see of a graph that is kept by links.
use Rattle.std.specs.Prelude.{◌≡◌, ℕ, Bool, true, false, cond, ◌&&◌, ◌||◌, eqb, List, [], ◌∷◌, length, get_or, Option}
use Rattle.dxil_form.specs.Graphs.{Graph}
use Rattle.flow_graph.specs.declared.cells.Cell.{Cell}
use Rattle.flow_graph.specs.Links.{Joining, Sound}

-- the count that the graph was made with, whether each node is live, and the edges as pairs of a source and a target
pub record Shape : Type 0 where
  pub count : ℕ
  pub live : List Bool
  pub edges : List (ℕ × ℕ)

-- the edges have one from x to y
abbrev pub joins : List (ℕ × ℕ) → ℕ → ℕ → Bool
joins [] x y = false
joins (e ∷ es) x y = (eqb e.0 x && eqb e.1 y) || joins es x y

-- the plain graph; no order of the edges shows in it
abbrev pub plain : Shape → Graph
plain s = record { count = s.count; live = λ a. get_or s.live a false; edge = joins s.edges }

-- the edges that the used cells state
abbrev pub edges_of : List Cell → List (ℕ × ℕ)
edges_of [] = []
edges_of (c ∷ cs) = cond c.used ((c.from, c.to) ∷ edges_of cs) (edges_of cs)

-- what a graph keeps: both kinds of lists state the same edges, once each, between live nodes, and the scratch has a place for each node and no mark
pub record Kept (live : List Bool) (first_from first_to : List (Option ℕ)) (cells : List Cell) (marks : List Bool) (queue : List ℕ) : Type 0 where
  pub from_count : length first_from ≡ length live
  pub to_count : length first_to ≡ length live
  pub sound : Sound cells first_from first_to
  pub ends : (x y : ℕ) → Joining cells x y → (get_or live x false ≡ true) × (get_or live y false ≡ true)
  pub marks_count : length marks ≡ length live
  pub queue_count : length queue ≡ length live
  pub clean : (b : ℕ) → get_or marks b false ≡ false
