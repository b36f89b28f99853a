-- What the rewriting keeps.
use Rattle.std.specs.Prelude.{◌≡◌, ◌≢◌, ◌⊎◌, ◌↔◌, ℕ, ◌+◌, ◌*◌, ◌<◌, ◌≤◌, Bool, true, false, List, length, Some, slice_get, slice_index, Contains}
use Rattle.dxil_form.specs.declared.program.Program.{Program}
use Rattle.dxil_form.specs.declared.region.Region.{Region}
use Rattle.dxil_form.specs.declared.region.Region.TheVariants.{Leaf, Then, Loop, Dispatch, Arms}
use Rattle.dxil_form.specs.Graphs.{Graph, IsFormed, AllReached, Reached, Crossed, SolePred, count_below}
use Rattle.dxil_form.specs.Branches.{branches, declared_graph}
use Rattle.dxil_form.specs.Sound.{Sound}
use Rattle.dxil_form.specs.Walks.{EnteredBy}
use Rattle.dxil_form.specs.Wired.{IsPart, MayWant}
use Rattle.flow_graph.specs.Shapes.{Shape, plain}
use Rattle.region_leaves.specs.Leaves.{AreReachable}
use Rattle.head_table.specs.Table.{over}
use Rattle.region_builder.specs.Walked.{Walked}
use Rattle.region_builder.specs.Traced.{Traced}
use Rattle.region_builder.specs.Bare.{Fixed}
use Rattle.region_builder.specs.declared.partial.Partial.{Partial}
use Rattle.region_builder.specs.declared.builder.Builder.{Builder}

-- what is true of a list of regions whatever its roots are
pub record Parts (p : Program) (list : List Region) : Type 0 where
  pub later : (r i s : ℕ) → IsPart list r i s → s < r
  pub once : (q r i j s : ℕ) → IsPart list q i s → IsPart list r j s → (q ≡ r) × (i ≡ j)
  pub leaf : (b : ℕ) → Reached (declared_graph p) b → (r : ℕ) × (slice_get list r ≡ Some (Leaf b))
  pub reached : (r b : ℕ) → slice_get list r ≡ Some (Leaf b) → Reached (declared_graph p) b
  pub leaf_once : (r s b : ℕ) → slice_get list r ≡ Some (Leaf b) → slice_get list s ≡ Some (Leaf b) → r ≡ s
  pub second : (r first second target : ℕ) → slice_get list r ≡ Some (Then first second target) → EnteredBy list second target
  pub body : (r body head : ℕ) → slice_get list r ≡ Some (Loop body head) → EnteredBy list body head
  pub one_loop : (r body head inner h : ℕ) → slice_get list r ≡ Some (Loop body head) → slice_get list body ≡ Some (Loop inner h) → ⊥
  pub source : (r first : ℕ) (arms : List (ℕ × ℕ)) → slice_get list r ≡ Some (Arms first arms) → (b : ℕ) × (slice_get list first ≡ Some (Leaf b)) × ((k a : ℕ) → Contains arms (k, a) → branches p b k ≡ true)
  pub arm : (r first k a : ℕ) (arms : List (ℕ × ℕ)) → slice_get list r ≡ Some (Arms first arms) → Contains arms (k, a) → EnteredBy list a k
  pub no_dispatch : (r : ℕ) (arms : List ℕ) → slice_get list r ≡ Some (Dispatch arms) → ⊥

-- how many edges lead from a node to itself
abbrev pub self_edges : Graph → ℕ
self_edges g = count_below g.count (λ i. g.edge i i)

-- node i stands for the i-th reachable block, and each live node has a root, which that block enters
pub record Built (p : Program) (list : List Region) (blocks places : List ℕ) (g : Graph) : Type 0 where
  pub sound : Sound p
  pub reachable : AreReachable p blocks
  pub few_blocks : length blocks ≤ 400
  pub count : g.count ≡ length blocks
  pub places_count : length places ≡ length blocks
  pub formed : IsFormed g
  pub all_reached : AllReached g
  pub regions : Parts p list
  pub within : (i : ℕ) → g.live i ≡ true → slice_index places i < length list
  pub enters : (i : ℕ) → g.live i ≡ true → EnteredBy list (slice_index places i) (slice_index blocks i)
  pub apart : (i j : ℕ) → g.live i ≡ true → g.live j ≡ true → slice_index places i ≡ slice_index places j → i ≡ j
  pub free : (i q n : ℕ) → g.live i ≡ true → IsPart list q n (slice_index places i) → ⊥
  pub named : (s : ℕ) → s < length list → ((i : ℕ) × (g.live i ≡ true) × (slice_index places i ≡ s)) ⊎ ((r : ℕ) × (n : ℕ) × IsPart list r n s)
  pub wants : (i k : ℕ) → g.live i ≡ true → MayWant p list (slice_index places i) k → (j : ℕ) × (g.edge i j ≡ true) × (slice_index blocks j ≡ k)
  pub wanted : (i j : ℕ) → g.edge i j ≡ true → MayWant p list (slice_index places i) (slice_index blocks j)
  pub few : length list + 2 * count_below g.count g.live + self_edges g ≤ 4 * length blocks

-- how the regions are put together, what they pass, and what ties them to the beginning
pub record BuiltBy (p : Program) (first : Partial) (b : Builder) : Type 0 where
  pub built : Built p b.list b.blocks.items b.places.items (plain b.graph)
  pub walked : Walked p b.list b.blocks.items b.places.items (plain b.graph)
  pub traced : Traced p first b.list b.blocks.items b.places.items (plain b.graph) b.firsts.items b.heads
  pub fixed : Fixed (plain first.graph) (length b.blocks.items) b.firsts.items b.ranks.items

-- some program and some beginning have these regions
abbrev pub IsBuilt : Builder → Type 0
IsBuilt b = (p : Program) × (first : Partial) × BuiltBy p first b

-- whatever program and beginning the regions had, they still have
abbrev pub Keeps : Builder → Builder → Type 0
Keeps old new = (p : Program) (first : Partial) → BuiltBy p first old → BuiltBy p first new

-- the graph has as many nodes, live or not, and rings with two entrances where it had them
pub record SameRings (old new : Shape) : Type 0 where
  pub count : new.count ≡ old.count
  pub crossed : Crossed (plain new) ↔ Crossed (plain old)

-- how much there is to do
abbrev pub size : Shape → ℕ
size s = 2 * count_below s.count (plain s).live + self_edges (plain s)

-- nothing may be done at node a: it has no edge to itself, and is the sole predecessor of no node but the entry
pub record IsSettled (g : Graph) (a : ℕ) : Type 0 where
  pub no_fold : g.edge a a ≡ true → ⊥
  pub no_absorb : (j : ℕ) → j ≢ 0 → SolePred g a j → ⊥

-- what calls have made of regions: they are still those of whatever program they were, rings have as many entrances, no head is new, and there is less to do, where something was done
pub record Went (old new : Builder) (done : Bool) : Type 0 where
  pub keeps : Keeps old new
  pub rings : SameRings old.graph new.graph
  pub smaller : done ≡ true → size new.graph < size old.graph
  pub same : done ≡ false → plain new.graph ≡ plain old.graph
  pub list : done ≡ false → new.list ≡ old.list
  pub places : done ≡ false → new.places.items ≡ old.places.items
  pub ranks : new.ranks.items ≡ old.ranks.items
  pub told : done ≡ false → new.heads ≡ old.heads
  pub fewer : (h b : ℕ) → over old.heads h b ≡ false → over new.heads h b ≡ false

-- nothing may be done anywhere
abbrev pub AllSettled : Graph → Type 0
AllSettled g = (a : ℕ) → g.live a ≡ true → IsSettled g a
