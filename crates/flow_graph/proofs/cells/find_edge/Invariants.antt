use Rattle.std.proofs.Common.{◌≡◌, ◌≢◌, ◌<◌, ◌≤◌, ℕ, true, length}
use Rattle.flow_graph.specs.Links.{leaves, cell_at, IsLast, left}
use Rattle.flow_graph.proofs.cells.find_edge.Given as goal

abbrev pub invariant-loop-at : goal.invariant-loop-at
invariant-loop-at l =
    (n : ℕ) × (n ≤ length l.cells) × IsLast (leaves l.cells l.from) n l.at
    × ((c : ℕ) → n ≤ c → c < length l.cells → leaves l.cells l.from c ≡ true → (cell_at l.cells c).to ≢ l.to)

abbrev pub decreases-loop-at : goal.decreases-loop-at
decreases-loop-at l = left l.at
