-- The laws of the two rewrites of a branch graph, fold and absorb.
use Rattle.std.specs.Prelude.{◌≡◌, ◌≢◌, ◌↔◌, ◌⊎◌, ℕ, Bool, true, Some}
use Rattle.dxil_form.specs.Graphs.{Graph, IsFormed, Leads, AllReached, Crossed, SolePred, folded, absorbed, IsHeadOver}

-- a fold neither makes nor hides a crossed ring
abbrev pub FoldKeepsCrossed : Type 0
FoldKeepsCrossed = (g : Graph) → (a : ℕ) → Crossed (folded g a) ↔ Crossed g

-- an absorb of a node by its sole predecessor neither makes nor hides a crossed ring
abbrev pub AbsorbKeepsCrossed : Type 0
AbsorbKeepsCrossed =
    (g : Graph) → (a j : ℕ) → j ≢ 0 → SolePred g a j → Crossed (absorbed g a j) ↔ Crossed g

-- neither rewrite applies: no node has an edge to itself, and none but the entry has a sole predecessor
pub record IsStuck (g : Graph) : Type 0 where
  pub no_fold : (a : ℕ) → g.edge a a ≡ true → ⊥
  pub no_absorb : (a j : ℕ) → j ≢ 0 → SolePred g a j → ⊥

-- a graph of more than one node, all reached from the entry, on which neither rewrite applies has a crossed ring
abbrev pub StuckIsCrossed : Type 0
StuckIsCrossed =
    (g : Graph) → IsFormed g → AllReached g → (d : ℕ) → g.live d ≡ true → d ≢ 0 → IsStuck g → Crossed g

-- both rewrites leave a graph all of whose nodes are reached from the entry
abbrev pub FoldKeepsReached : Type 0
FoldKeepsReached =
    (g : Graph) → IsFormed g → AllReached g → (a : ℕ) → IsFormed (folded g a) × AllReached (folded g a)

abbrev pub AbsorbKeepsReached : Type 0
AbsorbKeepsReached =
    (g : Graph) → IsFormed g → AllReached g → (a j : ℕ) → j ≢ 0 → SolePred g a j
    → IsFormed (absorbed g a j) × AllReached (absorbed g a j)

-- the test tells exactly where h is the head of a ring that passes b
abbrev pub TellsHeads : Graph → (ℕ → ℕ → Bool) → Type 0
TellsHeads g over = (h b : ℕ) → (over h b ≡ true) ↔ IsHeadOver g h b

-- a fold in order: the rings whose head is a pass no other node any more
pub record MayFold (g : Graph) (over : ℕ → ℕ → Bool) (a : ℕ) : Type 0 where
  pub edge : g.edge a a ≡ true
  pub alone : (b : ℕ) → over a b ≡ true → b ≡ a

-- an absorb in order: each head of a ring that passes a is the head of one that passes j
pub record MayAbsorb (g : Graph) (over : ℕ → ℕ → Bool) (a j : ℕ) : Type 0 where
  pub nonzero : j ≢ 0
  pub pred : SolePred g a j
  pub keeps : (h : ℕ) → over h a ≡ true → over h j ≡ true

-- some rewrite applies in order
abbrev pub Step : Graph → (ℕ → ℕ → Bool) → Type 0
Step g over = ((a : ℕ) × MayFold g over a) ⊎ ((a : ℕ) × (j : ℕ) × MayAbsorb g over a j)

-- a graph of more than one node, all reached from the entry, has a crossed ring, or some rewrite applies in order
abbrev pub StepOrCrossed : Type 0
StepOrCrossed =
    (g : Graph) → IsFormed g → AllReached g → (over : ℕ → ℕ → Bool) → TellsHeads g over
    → (d : ℕ) → g.live d ≡ true → d ≢ 0 → Crossed g ⊎ Step g over

-- an absorb, in order or not, keeps which nodes the rings of each head pass, of the nodes that stay
abbrev pub AbsorbKeepsHeads : Type 0
AbsorbKeepsHeads =
    (g : Graph) → IsFormed g → AllReached g → (a j : ℕ) → j ≢ 0 → SolePred g a j
    → (h b : ℕ) → b ≢ j → IsHeadOver (absorbed g a j) h b ↔ IsHeadOver g h b

-- a fold of a, in order or not, keeps which nodes the rings of each other head pass
abbrev pub FoldKeepsHeads : Type 0
FoldKeepsHeads =
    (g : Graph) → IsFormed g → AllReached g → (a : ℕ)
    → (h b : ℕ) → h ≢ a → IsHeadOver (folded g a) h b ↔ IsHeadOver g h b

-- after a fold in order the node is the head of no ring
abbrev pub FoldEndsHead : Type 0
FoldEndsHead =
    (g : Graph) → IsFormed g → AllReached g → (over : ℕ → ℕ → Bool) → TellsHeads g over
    → (a : ℕ) → MayFold g over a → (b : ℕ) → IsHeadOver (folded g a) a b → ⊥

-- h dominates x, as walks that leave h out tell it: x is h, or x is not the entry and no walk without h leads there from the entry
abbrev pub IsDominated : Graph → ℕ → ℕ → Type 0
IsDominated g h x = (x ≡ h) ⊎ ((x ≢ 0) × (Leads g 0 x (Some h) → ⊥))

-- the rings of a head h pass b exactly where some node x that h dominates has an edge to h, and b is h or x or leads to x without h
abbrev pub HeadsByWalks : Type 0
HeadsByWalks =
    (g : Graph) → IsFormed g → AllReached g → (h b : ℕ)
    → IsHeadOver g h b
    ↔ ((x : ℕ) × (g.edge x h ≡ true) × IsDominated g h x × ((b ≡ h) ⊎ ((b ≡ x) ⊎ Leads g b x (Some h))))
