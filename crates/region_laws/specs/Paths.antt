-- What regions pass, in the words of paths of branches.
use Rattle.std.specs.Prelude.{◌≡◌, ◌⊎◌, ◌↔◌, ℕ, suc, Bool, true, false, not, ◌&&◌, ◌||◌, eqb, List, [], ◌∷◌, length, Option, Some, None}
use Rattle.dxil_form.specs.declared.program.Program.{Program}
use Rattle.dxil_form.specs.declared.region.Region.{Region}
use Rattle.dxil_form.specs.Branches.{branches}
use Rattle.dxil_form.specs.Walks.{Ends, Goes, Passes}
use Rattle.region_laws.specs.Roots.{HasRoot}

-- w lists, in order, the blocks of a path of branches from b to x, and no block of it behind the first passes the test
pub data Run (p : Program) (stops : ℕ → Bool) : ℕ → List ℕ → ℕ → Type 0 where
  one : {b : ℕ} → Run p stops b (b ∷ []) b
  more : {b c x : ℕ} {w : List ℕ} → branches p b c ≡ true → stops c ≡ false → Run p stops c w x → Run p stops b (b ∷ w) x

-- what the end of a path fits: a block to which it branches and which passes the test, or the end of the program
abbrev pub Fits : Program → (ℕ → Bool) → ℕ → Option ℕ → Type 0
Fits p stops x None = Ends p x
Fits p stops x (Some k) = (branches p x k ≡ true) × (stops k ≡ true)

-- region r, entered by block b, passes exactly the paths of branches from b that meet no block of the test behind b, and wants then a block of the test, or ends
pub record PassesUpTo (p : Program) (list : List Region) (r b : ℕ) (stops : ℕ → Bool) : Type 0 where
  pub goes : (w : List ℕ) (o : Option ℕ) → Goes p list r w o ↔ ((x : ℕ) × Run p stops b w x × Fits p stops x o)
  pub passes : (w : List ℕ) → Passes p list r w ↔ ((w ≡ []) ⊎ ((x : ℕ) × Run p stops b w x))

-- the block enters a root
abbrev pub enters_root : List (ℕ × ℕ) → ℕ → Bool
enters_root [] b = false
enters_root (root ∷ roots) b = eqb root.0 b || enters_root roots b

-- the block enters a root other than that of b
abbrev pub enters_other : List (ℕ × ℕ) → ℕ → ℕ → Bool
enters_other roots b c = enters_root roots c && not (eqb c b)

-- each root passes exactly the paths from its block that meet no block which enters another root
abbrev pub RootsPass : Program → List Region → List (ℕ × ℕ) → Type 0
RootsPass p list roots = (b r : ℕ) → HasRoot roots b r → PassesUpTo p list r b (enters_other roots b)

-- root r passes exactly the paths from its block that meet no block which enters another root, and it may stop at its own block or go on there
pub record PassesUpToRoots (p : Program) (list : List Region) (roots : List (ℕ × ℕ)) (b r : ℕ) : Type 0 where
  pub stops : ℕ → Bool
  pub all : (c : ℕ) → enters_other roots b c ≡ true → stops c ≡ true
  pub only : (c : ℕ) → stops c ≡ true → enters_root roots c ≡ true
  pub passes : PassesUpTo p list r b stops

abbrev pub RootsPassUpToRoots : Program → List Region → List (ℕ × ℕ) → Type 0
RootsPassUpToRoots p list roots = (b r : ℕ) → HasRoot roots b r → PassesUpToRoots p list roots b r

abbrev pub nowhere : ℕ → Bool
nowhere b = false

-- the last region passes exactly the paths from block 0, to the end of the program
abbrev pub PassesAll : Program → List Region → Type 0
PassesAll p list = (root : ℕ) × (length list ≡ suc root) × PassesUpTo p list root 0 nowhere
