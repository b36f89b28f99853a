-- Several nodes that one node absorbs.
use Rattle.std.specs.Prelude.{◌≡◌, ◌≢◌, ◌⊎◌, ◌↔◌, ℕ, ◌≤◌, true, false, List, length, map, Some, slice_get, slice_index}
use Rattle.dxil_form.specs.Graphs.{Graph, IsFormed, AllReached, SolePred, Crossed, IsHeadOver}
use Rattle.dxil_form.specs.Branches.{has}

-- nodes, each listed once, of which a is the sole predecessor
pub record AreChildren (g : Graph) (a : ℕ) (nodes : List ℕ) : Type 0 where
  pub some : 1 ≤ length nodes
  pub nonzero : (n j : ℕ) → slice_get nodes n ≡ Some j → j ≢ 0
  pub sole : (n j : ℕ) → slice_get nodes n ≡ Some j → SolePred g a j
  pub once : (m n j : ℕ) → slice_get nodes m ≡ Some j → slice_get nodes n ≡ Some j → m ≡ n

-- the graph after a has absorbed the nodes
pub record AreAbsorbed (g : Graph) (a : ℕ) (nodes : List ℕ) (now : Graph) : Type 0 where
  pub count : now.count ≡ g.count
  pub formed : IsFormed now
  pub all_reached : AllReached now
  pub crossed : Crossed now ↔ Crossed g
  pub heads : (h b : ℕ) → has b nodes ≡ false → IsHeadOver now h b ↔ IsHeadOver g h b
  pub live : (i : ℕ) → (now.live i ≡ true) ↔ ((g.live i ≡ true) × (has i nodes ≡ false))
  pub edge : (x y : ℕ) → (now.edge x y ≡ true)
      ↔ ((has x nodes ≡ false) × (has y nodes ≡ false) × ((g.edge x y ≡ true) ⊎ ((x ≡ a) × ((j : ℕ) × (has j nodes ≡ true) × (g.edge j y ≡ true)))))

-- the arms that go on with the roots of nodes
abbrev pub arms_of : List ℕ → List ℕ → List ℕ → List (ℕ × ℕ)
arms_of blocks places nodes = map (λ j. (slice_index blocks j, slice_index places j)) nodes
