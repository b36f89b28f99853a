-- Programs whose blocks have at most one edge into them each, while their regions are put together.
use Rattle.std.specs.Prelude.{◌≡◌, ◌≢◌, ◌⊎◌, ℕ, ◌+◌, ◌<◌, ◌≤◌, true, List, [], ◌∷◌, ◌++◌, length, Option, Some, slice_get, slice_index, slice_set}
use Rattle.dxil_form.specs.declared.region.Region.{Region}
use Rattle.dxil_form.specs.declared.region.Region.TheVariants.{Leaf, Then, Arms}
use Rattle.dxil_form.specs.Graphs.{Graph, SolePred}
use Rattle.dxil_form.specs.Branches.{has}
use Rattle.flow_graph.specs.Shapes.{plain}
use Rattle.head_table.specs.Table.{over}
use Rattle.region_builder.specs.declared.builder.Builder.{Builder}
use Rattle.region_builder.specs.Settled.{IsAllowed}
use Rattle.region_builder.specs.Absorbing.{AreAbsorbed}

-- each node has at most one edge into it
abbrev pub IsTree : Graph → Type 0
IsTree g = (x y z : ℕ) → g.edge x z ≡ true → g.edge y z ≡ true → x ≡ y

abbrev pub NoThen : List Region → Type 0
NoThen list = (r first second target : ℕ) → slice_get list r ≡ Some (Then first second target) → ⊥

-- the root of a node is a leaf
abbrev pub HasLeaf : Builder → ℕ → Type 0
HasLeaf b a = (k : ℕ) × (slice_get b.list (slice_index b.places.items a) ≡ Some (Leaf k))

-- there is no Then, no edge is new, and each node with an edge from it has a leaf as its root
pub record Bare (start : Graph) (b : Builder) : Type 0 where
  pub no_then : NoThen b.list
  pub edges : (x y : ℕ) → (plain b.graph).edge x y ≡ true → start.edge x y ≡ true
  pub ready : (x : ℕ) → (plain b.graph).live x ≡ true → HasLeaf b x ⊎ ((y : ℕ) → (plain b.graph).edge x y ≡ true → ⊥)

-- nodes of a higher rank than r, and those of rank r below i
abbrev pub IsSeen : List ℕ → ℕ → ℕ → ℕ → Type 0
IsSeen ranks r i x = (r < slice_index ranks x) ⊎ ((slice_index ranks x ≡ r) × (x < i))

-- and no edge leads from the nodes that have been visited
pub record BareFrom (start : Graph) (b : Builder) (r i : ℕ) : Type 0 where
  pub bare : Bare start b
  pub done : (x y : ℕ) → IsSeen b.ranks.items r i x → (plain b.graph).edge x y ≡ true → ⊥

-- no edge leads from a node of rank m or a higher one
pub record BareAbove (start : Graph) (b : Builder) (m : ℕ) : Type 0 where
  pub bare : Bare start b
  pub done : (x y : ℕ) → m ≤ slice_index b.ranks.items x → (plain b.graph).edge x y ≡ true → ⊥

-- what is fixed at first: the sole predecessor of each node that had one, and the ranks, by which a node comes behind its sole predecessor
pub record Fixed (g : Graph) (n : ℕ) (firsts : List (Option ℕ)) (ranks : List ℕ) : Type 0 where
  pub told : (i j : ℕ) → j ≢ 0 → SolePred g i j → slice_get firsts j ≡ Some (Some i)
  pub ranks_count : length ranks ≡ n
  pub rise : (a j : ℕ) → j ≢ 0 → SolePred g a j → slice_index ranks a < slice_index ranks j
  pub low : (h : ℕ) → h < n → slice_index ranks h ≤ n + 1

-- nothing that could be an arm of a's leaf is left
abbrev pub NoArms : Builder → ℕ → Type 0
NoArms b a = (j : ℕ) → j ≢ 0 → SolePred (plain b.graph) a j → slice_get b.firsts.items j ≡ Some (Some a) → IsAllowed (over b.heads) a j → ⊥

-- arms stand behind the other regions, as the root of a
pub record PutsArms (old new : Builder) (a : ℕ) : Type 0 where
  pub first : ℕ
  pub arms : List (ℕ × ℕ)
  pub list : new.list ≡ old.list ++ Arms first arms ∷ []
  pub places : new.places.items ≡ slice_set old.places.items a (length old.list)

-- all that could be arms of a's leaf have become arms
pub record Branched (old new : Builder) (a : ℕ) : Type 0 where
  pub nodes : List ℕ
  pub all : (j : ℕ) → j ≢ 0 → SolePred (plain old.graph) a j → slice_get old.firsts.items j ≡ Some (Some a) → IsAllowed (over old.heads) a j → has j nodes ≡ true
  pub sole : (j : ℕ) → has j nodes ≡ true → SolePred (plain old.graph) a j
  pub absorbed : AreAbsorbed (plain old.graph) a nodes (plain new.graph)
  pub puts : PutsArms old new a
