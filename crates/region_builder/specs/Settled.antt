-- What may be done at a node, and where nothing may be done.
use Rattle.std.specs.Prelude.{◌≡◌, ◌≢◌, ℕ, Bool, true}
use Rattle.dxil_form.specs.Graphs.{Graph, SolePred}

-- the test tells of the heads that have no loop yet, and of the nodes that their rings pass: no such head has rings that pass a, but not j
abbrev pub IsAllowed : (ℕ → ℕ → Bool) → ℕ → ℕ → Type 0
IsAllowed over a j = (h : ℕ) → over h a ≡ true → over h j ≡ true

-- node a has an edge to itself, and its rings pass no other live node
pub record MayRepeat (over : ℕ → ℕ → Bool) (g : Graph) (a : ℕ) : Type 0 where
  pub edge : g.edge a a ≡ true
  pub alone : (b : ℕ) → g.live b ≡ true → over a b ≡ true → b ≡ a

-- nothing may be done at node a
pub record IsSettledBy (over : ℕ → ℕ → Bool) (g : Graph) (a : ℕ) : Type 0 where
  pub no_fold : MayRepeat over g a → ⊥
  pub no_absorb : (j : ℕ) → j ≢ 0 → SolePred g a j → IsAllowed over a j → ⊥

-- nothing may be done anywhere
abbrev pub AllSettledBy : (ℕ → ℕ → Bool) → Graph → Type 0
AllSettledBy over g = (a : ℕ) → g.live a ≡ true → IsSettledBy over g a
