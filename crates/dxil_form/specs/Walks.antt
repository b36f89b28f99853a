-- Which blocks a region passes, and which block it wants then.
use Rattle.std.specs.Prelude.{◌≡◌, ◌≢◌, ◌⊎◌, ℕ, true, List, [], ◌∷◌, ◌++◌, Option, Some, None, slice_get, Contains}
use Rattle.dxil_form.specs.declared.block.Block.{Block}
use Rattle.dxil_form.specs.declared.block.Term.TheVariants.{Ret, Unreachable}
use Rattle.dxil_form.specs.declared.program.Program.{Program}
use Rattle.dxil_form.specs.declared.region.Region.{Region}
use Rattle.dxil_form.specs.declared.region.Region.TheVariants.{Leaf, Then, Loop, Dispatch, Arms}
use Rattle.dxil_form.specs.Branches.{branches}

-- the block returns or is unreachable
pub record Ends (p : Program) (b : ℕ) : Type 0 where
  pub block : Block
  pub stands : slice_get p.blocks b ≡ Some block
  pub ends : (block.term ≡ Ret) ⊎ (block.term ≡ Unreachable)

-- Region r of the list is entered by block b: a leaf by its block, a loop by its head, and every other region by what its first part is entered by. The first part of a dispatch is the arm that block 0 enters.
pub data EnteredBy (list : List Region) : (r b : ℕ) → Type 0 where
  by_block : {r b : ℕ} → slice_get list r ≡ Some (Leaf b) → EnteredBy list r b
  by_head : {r body head : ℕ} → slice_get list r ≡ Some (Loop body head) → EnteredBy list r head
  by_first : {r first second target b : ℕ} → slice_get list r ≡ Some (Then first second target) → EnteredBy list first b → EnteredBy list r b
  by_source : {r first b : ℕ} {arms : List (ℕ × ℕ)} → slice_get list r ≡ Some (Arms first arms) → EnteredBy list first b → EnteredBy list r b
  by_start : {r a : ℕ} {arms : List ℕ} → slice_get list r ≡ Some (Dispatch arms) → Contains arms a → EnteredBy list a 0 → EnteredBy list r 0

-- what is wanted is the target of no arm
abbrev pub NoArm : List (ℕ × ℕ) → Option ℕ → Type 0
NoArm arms None = Unit {0}
NoArm arms (Some k) = (a : ℕ) → Contains arms (k, a) → ⊥

-- what is wanted enters no arm of a dispatch
abbrev pub NoEntry : List Region → List ℕ → Option ℕ → Type 0
NoEntry list arms None = Unit {0}
NoEntry list arms (Some k) = (a : ℕ) → Contains arms a → EnteredBy list a k → ⊥

mutual
  -- region r passes the blocks w, and then wants a block or ends
  pub data Goes (p : Program) (list : List Region) : ℕ → List ℕ → Option ℕ → Type 0 where
    leaf_wants : {r b k : ℕ} → slice_get list r ≡ Some (Leaf b) → branches p b k ≡ true → Goes p list r (b ∷ []) (Some k)
    leaf_ends : {r b : ℕ} → slice_get list r ≡ Some (Leaf b) → Ends p b → Goes p list r (b ∷ []) None
    then_leaves : {r first second target : ℕ} {w : List ℕ} {o : Option ℕ} → slice_get list r ≡ Some (Then first second target) → Goes p list first w o → o ≢ Some target → Goes p list r w o
    then_goes_on : {r first second target : ℕ} {w v : List ℕ} {o : Option ℕ} → slice_get list r ≡ Some (Then first second target) → Goes p list first w (Some target) → Goes p list second v o → Goes p list r (w ++ v) o
    loop_leaves : {r body head : ℕ} {w : List ℕ} {o : Option ℕ} → slice_get list r ≡ Some (Loop body head) → Goes p list body w o → o ≢ Some head → Goes p list r w o
    loop_repeats : {r body head : ℕ} {w v : List ℕ} {o : Option ℕ} → slice_get list r ≡ Some (Loop body head) → Goes p list body w (Some head) → Goes p list r v o → Goes p list r (w ++ v) o
    arms_leave : {r first : ℕ} {arms : List (ℕ × ℕ)} {w : List ℕ} {o : Option ℕ} → slice_get list r ≡ Some (Arms first arms) → Goes p list first w o → NoArm arms o → Goes p list r w o
    arms_go_on : {r first k a : ℕ} {arms : List (ℕ × ℕ)} {w v : List ℕ} {o : Option ℕ} → slice_get list r ≡ Some (Arms first arms) → Goes p list first w (Some k) → Contains arms (k, a) → Goes p list a v o → Goes p list r (w ++ v) o
    dispatch_goes : {r : ℕ} {arms : List ℕ} {w : List ℕ} {o : Option ℕ} → slice_get list r ≡ Some (Dispatch arms) → Turns p list arms 0 w o → Goes p list r w o

  -- from the arm that block k enters, a dispatch passes the blocks w, and then wants a block or ends
  pub data Turns (p : Program) (list : List Region) : List ℕ → ℕ → List ℕ → Option ℕ → Type 0 where
    turn_leaves : {arms : List ℕ} {k a : ℕ} {w : List ℕ} {o : Option ℕ} → Contains arms a → EnteredBy list a k → Goes p list a w o → NoEntry list arms o → Turns p list arms k w o
    turn_goes_on : {arms : List ℕ} {k a j : ℕ} {w v : List ℕ} {o : Option ℕ} → Contains arms a → EnteredBy list a k → Goes p list a w (Some j) → Turns p list arms j v o → Turns p list arms k (w ++ v) o

mutual
  -- region r may pass the blocks w, and need not be over then
  pub data Passes (p : Program) (list : List Region) : ℕ → List ℕ → Type 0 where
    nothing : {r : ℕ} → Passes p list r []
    leaf_passes : {r b : ℕ} → slice_get list r ≡ Some (Leaf b) → Passes p list r (b ∷ [])
    then_first : {r first second target : ℕ} {w : List ℕ} → slice_get list r ≡ Some (Then first second target) → Passes p list first w → Passes p list r w
    then_second : {r first second target : ℕ} {w v : List ℕ} → slice_get list r ≡ Some (Then first second target) → Goes p list first w (Some target) → Passes p list second v → Passes p list r (w ++ v)
    loop_first : {r body head : ℕ} {w : List ℕ} → slice_get list r ≡ Some (Loop body head) → Passes p list body w → Passes p list r w
    loop_again : {r body head : ℕ} {w v : List ℕ} → slice_get list r ≡ Some (Loop body head) → Goes p list body w (Some head) → Passes p list r v → Passes p list r (w ++ v)
    arms_first : {r first : ℕ} {arms : List (ℕ × ℕ)} {w : List ℕ} → slice_get list r ≡ Some (Arms first arms) → Passes p list first w → Passes p list r w
    arms_second : {r first k a : ℕ} {arms : List (ℕ × ℕ)} {w v : List ℕ} → slice_get list r ≡ Some (Arms first arms) → Goes p list first w (Some k) → Contains arms (k, a) → Passes p list a v → Passes p list r (w ++ v)
    dispatch_passes : {r : ℕ} {arms : List ℕ} {w : List ℕ} → slice_get list r ≡ Some (Dispatch arms) → Turning p list arms 0 w → Passes p list r w

  -- from the arm that block k enters, a dispatch may pass the blocks w
  pub data Turning (p : Program) (list : List Region) : List ℕ → ℕ → List ℕ → Type 0 where
    turn_first : {arms : List ℕ} {k a : ℕ} {w : List ℕ} → Contains arms a → EnteredBy list a k → Passes p list a w → Turning p list arms k w
    turn_again : {arms : List ℕ} {k a j : ℕ} {w v : List ℕ} → Contains arms a → EnteredBy list a k → Goes p list a w (Some j) → Turning p list arms j v → Turning p list arms k (w ++ v)
