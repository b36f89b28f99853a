-- Nodes that a node may absorb.
use Rattle.std.specs.Prelude.{◌≡◌, ◌≢◌, ℕ, ◌<◌, true, List, Option, length, Some, slice_get, slice_index}
use Rattle.dxil_form.specs.Graphs.{Graph, SolePred}
use Rattle.dxil_form.specs.Branches.{has}
use Rattle.flow_graph.specs.Shapes.{plain}
use Rattle.head_table.specs.Table.{over}
use Rattle.region_builder.specs.declared.builder.Builder.{Builder}
use Rattle.region_builder.specs.Settled.{IsAllowed}

-- the sole predecessor of each node that has one
pub record AreSolePreds (g : Graph) (preds : List (Option ℕ)) : Type 0 where
  pub sole : (i j : ℕ) → slice_get preds j ≡ Some (Some i) → SolePred g i j
  pub all : (i j : ℕ) → j < length preds → SolePred g i j → slice_get preds j ≡ Some (Some i)

-- nodes below n, in order, that a may absorb and of which it is the sole predecessor at first too
pub record AreChildrenBelow (b : Builder) (a n : ℕ) (nodes : List ℕ) : Type 0 where
  pub sole : (m j : ℕ) → slice_get nodes m ≡ Some j → SolePred (plain b.graph) a j
  pub own : (m j : ℕ) → slice_get nodes m ≡ Some j → slice_get b.firsts.items j ≡ Some (Some a)
  pub allowed : (m j : ℕ) → slice_get nodes m ≡ Some j → IsAllowed (over b.heads) a j
  pub all : (j : ℕ) → j ≢ 0 → j < n → SolePred (plain b.graph) a j → slice_get b.firsts.items j ≡ Some (Some a) → IsAllowed (over b.heads) a j → has j nodes ≡ true
  pub nonzero : (m j : ℕ) → slice_get nodes m ≡ Some j → j ≢ 0
  pub below : (m j : ℕ) → slice_get nodes m ≡ Some j → j < n
  pub rising : (l m i j : ℕ) → l < m → slice_get nodes l ≡ Some i → slice_get nodes m ≡ Some j → i < j

-- the roots of the live nodes below n: each node's block and place, in order
pub record AreRoots (g : Graph) (n : ℕ) (blocks places : List ℕ) (roots : List (ℕ × ℕ)) : Type 0 where
  pub only : (k b r : ℕ) → slice_get roots k ≡ Some (b, r) → (i : ℕ) × (i < n) × (g.live i ≡ true) × (slice_index blocks i ≡ b) × (slice_index places i ≡ r)
  pub all : (i : ℕ) → i < n → g.live i ≡ true → (k : ℕ) × (slice_get roots k ≡ Some (slice_index blocks i, slice_index places i))
  pub rising : (j k b c r s : ℕ) → j < k → slice_get roots j ≡ Some (b, r) → slice_get roots k ≡ Some (c, s) → b < c
