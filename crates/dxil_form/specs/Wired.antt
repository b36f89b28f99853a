-- How the regions of a list are put together: which are the parts of which, and which blocks a region may want when it is over. Nothing here speaks of walks.
use Rattle.std.specs.Prelude.{◌≡◌, ◌≢◌, ℕ, suc, ◌*◌, ◌<◌, ◌≤◌, true, List, [], ◌∷◌, map, length, Some, slice_get, Contains}
use Rattle.dxil_form.specs.declared.program.Program.{Program}
use Rattle.dxil_form.specs.declared.region.Region.{Region}
use Rattle.dxil_form.specs.declared.region.Region.TheVariants.{Leaf, Then, Loop, Dispatch, Arms}
use Rattle.dxil_form.specs.Graphs.{Reached}
use Rattle.dxil_form.specs.Branches.{branches, declared_graph}
use Rattle.dxil_form.specs.Walks.{EnteredBy}

-- the parts of a region, by their places in the list
abbrev pub parts : Region → List ℕ
parts (Leaf b) = []
parts (Then first second target) = first ∷ second ∷ []
parts (Loop body head) = body ∷ []
parts (Dispatch arms) = arms
parts (Arms first arms) = first ∷ map (λ arm. arm.1) arms

-- region s is the i-th part of region r
pub record IsPart (list : List Region) (r i s : ℕ) : Type 0 where
  pub region : Region
  pub stands : slice_get list r ≡ Some region
  pub part : slice_get (parts region) i ≡ Some s

-- Region r may want block k when it is over: some leaf in it branches to k, and nothing in the region goes on with k there.
pub data MayWant (p : Program) (list : List Region) : (r k : ℕ) → Type 0 where
  leaf_wants : {r b k : ℕ} → slice_get list r ≡ Some (Leaf b) → branches p b k ≡ true → MayWant p list r k
  first_wants : {r first second target k : ℕ} → slice_get list r ≡ Some (Then first second target) → MayWant p list first k → k ≢ target → MayWant p list r k
  second_wants : {r first second target k : ℕ} → slice_get list r ≡ Some (Then first second target) → MayWant p list second k → MayWant p list r k
  body_wants : {r body head k : ℕ} → slice_get list r ≡ Some (Loop body head) → MayWant p list body k → k ≢ head → MayWant p list r k
  source_wants : {r first k : ℕ} {arms : List (ℕ × ℕ)} → slice_get list r ≡ Some (Arms first arms) → MayWant p list first k → ((a : ℕ) → Contains arms (k, a) → ⊥) → MayWant p list r k
  arm_wants : {r first j a k : ℕ} {arms : List (ℕ × ℕ)} → slice_get list r ≡ Some (Arms first arms) → Contains arms (j, a) → MayWant p list a k → MayWant p list r k
  choice_wants : {r a k : ℕ} {arms : List ℕ} → slice_get list r ≡ Some (Dispatch arms) → Contains arms a → MayWant p list a k → ((c : ℕ) → Contains arms c → EnteredBy list c k → ⊥) → MayWant p list r k

-- the regions are one tree over the reachable blocks, each part is entered by the block for which it is run, and nothing is wanted at the end
pub record Wired (p : Program) (list : List Region) : Type 0 where
  -- the last region is the root; block 0 enters it, and no block is wanted when it is over
  pub root : ℕ
  pub last : length list ≡ suc root
  pub begins : EnteredBy list root 0
  pub over : (k : ℕ) → MayWant p list root k → ⊥
  -- each other region is a part once, of a later region
  pub later : (r i s : ℕ) → IsPart list r i s → s < r
  pub named : (s : ℕ) → s < root → (r : ℕ) × (i : ℕ) × IsPart list r i s
  pub once : (q r i j s : ℕ) → IsPart list q i s → IsPart list r j s → (q ≡ r) × (i ≡ j)
  -- each reachable block is a leaf, once, and no other block is one
  pub leaf : (b : ℕ) → Reached (declared_graph p) b → (r : ℕ) × (slice_get list r ≡ Some (Leaf b))
  pub reached : (r b : ℕ) → slice_get list r ≡ Some (Leaf b) → Reached (declared_graph p) b
  pub leaf_once : (r s b : ℕ) → slice_get list r ≡ Some (Leaf b) → slice_get list s ≡ Some (Leaf b) → r ≡ s
  -- a second part is entered by its target, and a body by its head; a body is no loop itself
  pub second : (r first second target : ℕ) → slice_get list r ≡ Some (Then first second target) → EnteredBy list second target
  pub body : (r body head : ℕ) → slice_get list r ≡ Some (Loop body head) → EnteredBy list body head
  pub one_loop : (r body head inner h : ℕ) → slice_get list r ≡ Some (Loop body head) → slice_get list body ≡ Some (Loop inner h) → ⊥
  -- arms stand at a leaf whose block branches to each of their targets; an arm is entered by its target
  pub source : (r first : ℕ) (arms : List (ℕ × ℕ)) → slice_get list r ≡ Some (Arms first arms) → (b : ℕ) × (slice_get list first ≡ Some (Leaf b)) × ((k a : ℕ) → Contains arms (k, a) → branches p b k ≡ true)
  pub arm : (r first k a : ℕ) (arms : List (ℕ × ℕ)) → slice_get list r ≡ Some (Arms first arms) → Contains arms (k, a) → EnteredBy list a k
  -- only the root is a dispatch, and its arms are entered by different blocks
  pub dispatch : (r : ℕ) (arms : List ℕ) → slice_get list r ≡ Some (Dispatch arms) → r ≡ root
  pub apart : (r a c k : ℕ) (arms : List ℕ) → slice_get list r ≡ Some (Dispatch arms) → Contains arms a → Contains arms c → EnteredBy list a k → EnteredBy list c k → a ≡ c
  -- there are few regions
  pub few : length list ≤ 4 * length p.blocks
