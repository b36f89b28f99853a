-- Paths of branch edges through the blocks of a module, and the first site that they meet.
use Rattle.std.specs.Prelude.{◌≡◌, ℕ, List, [], ◌∷◌, ◌++◌, Contains}
use Rattle.spv_form.specs.declared.module.Module.{Module}
use Rattle.flow_rules.specs.Blocks.{BasicBlock}
use Rattle.flow_rules.specs.Flow.{Edge}
use Rattle.flow_blocks.specs.Numbered.{blocks_of}
use Rattle.site_loops.specs.Sites.{IsSite}

-- a path of branch edges from block q to each of the further blocks in turn
abbrev pub Along : List BasicBlock → (q : ℕ) → List ℕ → Type 0
Along bs q [] = Unit {0}
Along bs q (r ∷ path) = Edge bs q r × Along bs r path

-- of the blocks, block f is the first that begins at a site
pub record FirstSite (m : Module) (path : List ℕ) (f : ℕ) : Type 0 where
  pub before : List ℕ
  pub behind : List ℕ
  pub path_is : path ≡ before ++ f ∷ behind
  pub none_before : (b q : ℕ) → IsSite m b q → Contains before q → ⊥
  pub of : ℕ
  pub site : IsSite m of f

-- Some path from block q meets a site, and on each path from there that meets one the first is that of the program's block h. Block q itself is counted.
pub record MeetsFirst (m : Module) (q h : ℕ) : Type 0 where
  pub path : List ℕ
  pub first : ℕ
  pub along : Along (blocks_of m.insts) q path
  pub meets : FirstSite m (q ∷ path) first
  pub always : (path : List ℕ) (f : ℕ) → Along (blocks_of m.insts) q path → FirstSite m (q ∷ path) f → IsSite m h f
