-- The branches of a program, and its branch graph.
use Rattle.std.specs.Prelude.{◌≡◌, ◌↔◌, ℕ, Bool, true, false, ◌||◌, nat_eq, List, [], ◌∷◌, map, length, Option, Some, None, slice_get, nat_lt}
use Rattle.dxil_form.specs.declared.block.Block.{Block}
use Rattle.dxil_form.specs.declared.block.Term.{Term}
use Rattle.dxil_form.specs.declared.block.Term.TheVariants.{Ret, Unreachable, Go, If, Switch}
use Rattle.dxil_form.specs.declared.program.Program.{Program}
use Rattle.dxil_form.specs.Graphs.{Graph, Reached}

-- the blocks that a terminator may go to
abbrev pub targets : Term → List ℕ
targets Ret = []
targets Unreachable = []
targets (Go k) = k ∷ []
targets (If cond there other) = there ∷ other ∷ []
targets (Switch value default cases) = default ∷ map (λ c. c.1) cases

abbrev pub has : ℕ → List ℕ → Bool
has k [] = false
has k (x ∷ xs) = nat_eq k x || has k xs

abbrev pub targets_in : Option Block → List ℕ
targets_in None = []
targets_in (Some block) = targets block.term

-- block b branches to block k: it is a predecessor of k
abbrev pub branches : Program → ℕ → ℕ → Bool
branches p b k = has k (targets_in (slice_get p.blocks b))

-- all blocks that the body declares, with their branches
abbrev pub declared_graph : Program → Graph
declared_graph p =
    record { count = length p.blocks; live = λ b. nat_lt b (length p.blocks); edge = branches p }

-- g is the branch graph: its nodes are the blocks that paths from block 0 reach, and an edge goes from each of them to each target of its terminator
pub record IsBranchGraph (p : Program) (g : Graph) : Type 0 where
  pub count : g.count ≡ length p.blocks
  pub nodes : (b : ℕ) → (g.live b ≡ true) ↔ Reached (declared_graph p) b
  pub edges : (b k : ℕ) → (g.edge b k ≡ true) ↔ (Reached (declared_graph p) b × (branches p b k ≡ true))
