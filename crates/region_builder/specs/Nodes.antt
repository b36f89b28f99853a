-- The nodes of blocks.
use Rattle.std.specs.Prelude.{◌≡◌, ◌↔◌, ℕ, ◌<◌, List, Option, Some, None, slice_get, slice_index_or}
use Rattle.flow_graph.specs.declared.linked.Edge.{Edge}

-- of the first n blocks, each has its place as its node, and no other block has a node
abbrev pub AreNodes : List ℕ → ℕ → List (Option ℕ) → Type 0
AreNodes blocks n nodes = (b i : ℕ) → (slice_index_or nodes b None ≡ Some i) ↔ ((i < n) × (slice_get blocks i ≡ Some b))

abbrev pub between : Option ℕ → Option ℕ → Option Edge
between None to = None
between (Some from) None = None
between (Some from) (Some to) = Some (record { from = from; to = to })

-- the edge between the nodes of two blocks
abbrev pub node_edge : List (Option ℕ) → Edge → Option Edge
node_edge nodes edge = between (slice_index_or nodes edge.from None) (slice_index_or nodes edge.to None)
