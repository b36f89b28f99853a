-- Regions that are put together from below. Those that are no part of another one yet are the roots; a root is a pair of the block that enters it and its place in the list.
use Rattle.std.specs.Prelude.{◌≡◌, ◌⊎◌, ℕ, ◌+◌, ◌*◌, ◌<◌, ◌≤◌, cond, ltb, true, List, [], ◌∷◌, ◌++◌, map, length, Some, slice_get, Contains}
use Rattle.dxil_form.specs.declared.program.Program.{Program}
use Rattle.dxil_form.specs.declared.region.Region.{Region}
use Rattle.dxil_form.specs.declared.region.Region.TheVariants.{Leaf, Then, Loop, Dispatch, Arms}
use Rattle.dxil_form.specs.Graphs.{Reached}
use Rattle.dxil_form.specs.Branches.{branches, declared_graph}
use Rattle.dxil_form.specs.Walks.{EnteredBy}
use Rattle.dxil_form.specs.Wired.{IsPart, MayWant}

-- block b enters the root at place r
abbrev pub HasRoot : List (ℕ × ℕ) → ℕ → ℕ → Type 0
HasRoot roots b r = (i : ℕ) × (slice_get roots i ≡ Some (b, r))

-- how the regions of a list are put together, as far as they are
pub record WiredRoots (p : Program) (list : List Region) (roots : List (ℕ × ℕ)) : Type 0 where
  -- block 0 enters a root; each root is entered by its block, and by no block or place twice
  pub begins : (r : ℕ) × HasRoot roots 0 r
  pub enters : (b r : ℕ) → HasRoot roots b r → EnteredBy list r b
  pub distinct : (i j b c r s : ℕ) → slice_get roots i ≡ Some (b, r) → slice_get roots j ≡ Some (c, s) → (b ≡ c) ⊎ (r ≡ s) → i ≡ j
  -- a root wants only blocks that enter roots
  pub wants : (b r k : ℕ) → HasRoot roots b r → MayWant p list r k → (s : ℕ) × HasRoot roots k s
  -- a root is a region of the list and a part of none, and each other region is a part once, of a later region
  pub within : (b r : ℕ) → HasRoot roots b r → r < length list
  pub free : (b r q i : ℕ) → HasRoot roots b r → IsPart list q i r → ⊥
  pub later : (r i s : ℕ) → IsPart list r i s → s < r
  pub named : (s : ℕ) → s < length list → ((b : ℕ) × HasRoot roots b s) ⊎ ((r : ℕ) × (i : ℕ) × IsPart list r i s)
  pub once : (q r i j s : ℕ) → IsPart list q i s → IsPart list r j s → (q ≡ r) × (i ≡ j)
  -- each reachable block is a leaf, once, and no other block is one
  pub leaf : (b : ℕ) → Reached (declared_graph p) b → (r : ℕ) × (slice_get list r ≡ Some (Leaf b))
  pub reached : (r b : ℕ) → slice_get list r ≡ Some (Leaf b) → Reached (declared_graph p) b
  pub leaf_once : (r s b : ℕ) → slice_get list r ≡ Some (Leaf b) → slice_get list s ≡ Some (Leaf b) → r ≡ s
  -- a second part is entered by its target, and a body by its head; a body is no loop itself
  pub second : (r first second target : ℕ) → slice_get list r ≡ Some (Then first second target) → EnteredBy list second target
  pub body : (r body head : ℕ) → slice_get list r ≡ Some (Loop body head) → EnteredBy list body head
  pub one_loop : (r body head inner h : ℕ) → slice_get list r ≡ Some (Loop body head) → slice_get list body ≡ Some (Loop inner h) → ⊥
  -- arms stand at a leaf whose block branches to each of their targets; an arm is entered by its target
  pub source : (r first : ℕ) (arms : List (ℕ × ℕ)) → slice_get list r ≡ Some (Arms first arms) → (b : ℕ) × (slice_get list first ≡ Some (Leaf b)) × ((k a : ℕ) → Contains arms (k, a) → branches p b k ≡ true)
  pub arm : (r first k a : ℕ) (arms : List (ℕ × ℕ)) → slice_get list r ≡ Some (Arms first arms) → Contains arms (k, a) → EnteredBy list a k
  -- there is no dispatch
  pub no_dispatch : (r : ℕ) (arms : List ℕ) → slice_get list r ≡ Some (Dispatch arms) → ⊥
  -- there are few regions, and room for one more
  pub few : length list + 1 ≤ 4 * length p.blocks

-- a single root is the whole; several get a dispatch behind all regions
abbrev pub closed : List Region → List (ℕ × ℕ) → List Region
closed list roots = cond (ltb 1 (length roots)) (list ++ Dispatch (map (λ root. root.1) roots) ∷ []) list
