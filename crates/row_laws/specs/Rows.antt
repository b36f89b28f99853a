-- Rows of blocks: what blocks that stand one behind the other have to be like, so that a function of them breaks no structure rule. A row has one way in, at its first block, and one way out, at the end of its last one.
--
-- The constructs are those of the rules (SPIR-V 1.6, section 2.11), each with its header's block.
use Rattle.std.specs.Prelude.{◌≡◌, ◌⊎◌, ℕ, ◌+◌, ◌<◌, ◌≤◌, Bool, true, false, IsTrue, List, [], ◌∷◌, Some, None, Contains}
use Rattle.flow_rules.specs.Blocks.{BasicBlock}
use Rattle.flow_rules.specs.declared.block.Merge.{Merge}
use Rattle.flow_rules.specs.declared.block.MergeKind.{MergeKind}
use Rattle.flow_rules.specs.declared.block.MergeKind.TheVariants as merge
use Rattle.flow_rules.specs.declared.block.Terminator.TheVariants.{BranchConditional, Switch, Return}
use Rattle.flow_rules.specs.Flow.{Row, At}
use Rattle.flow_rules.specs.Rules.{Suits, Forks, ClosesLoop}

-- ---- merge instructions

abbrev pub loops : MergeKind → Bool
loops merge.Selection = false
loops (merge.Loop c) = true

abbrev pub is_loop : Merge → Bool
is_loop g = loops g.kind

-- the continue target of a loop
abbrev pub target : MergeKind → ℕ
target merge.Selection = 0
target (merge.Loop c) = c

abbrev pub continue_of : Merge → ℕ
continue_of g = target g.kind

-- ---- edges, headers and constructs

abbrev pub Branches : List BasicBlock → ℕ → ℕ → Type 0
Branches bs p q = (b : BasicBlock) × At bs p b × Contains b.targets q

-- the block b at h is a header with the merge instruction g
abbrev pub Heads : List BasicBlock → ℕ → BasicBlock → Merge → Type 0
Heads bs h b g = At bs h b × (b.merge ≡ Some g)

abbrev pub Selecting : List BasicBlock → ℕ → BasicBlock → Merge → Type 0
Selecting bs h b g = Heads bs h b g × (is_loop g ≡ false)

abbrev pub Looping : List BasicBlock → ℕ → Merge → Type 0
Looping bs h g = ((b : BasicBlock) × Heads bs h b g) × (is_loop g ≡ true)

abbrev pub GoesBack : List BasicBlock → ℕ → ℕ → Type 0
GoesBack bs p q = Branches bs p q × (q ≤ p)

abbrev pub Holds : Row → ℕ → Type 0
Holds r p = (r.first ≤ p) × (p < r.end)

-- a selection construct, a loop construct and a continue construct
pub data Construct (bs : List BasicBlock) : Row → Type 0 where
  Selection : (h : ℕ) (b : BasicBlock) (g : Merge) → Selecting bs h b g → Construct bs (record { of = h; by = g; first = h; end = g.merge_block })
  LoopPart : (h : ℕ) (g : Merge) → Looping bs h g → Construct bs (record { of = h; by = g; first = h; end = continue_of g })
  Continue : (h : ℕ) (g : Merge) → Looping bs h g → Construct bs (record { of = h; by = g; first = continue_of g; end = g.merge_block })

abbrev pub WholeLoop : List BasicBlock → Row → Type 0
WholeLoop bs r = Looping bs r.of r.by × (r.first ≡ r.of) × (r.end ≡ r.by.merge_block)

-- a case of the switch at h begins at t
abbrev pub BeginsCase : List BasicBlock → ℕ → Merge → ℕ → Type 0
BeginsCase bs h g t =
    (b : BasicBlock) × Selecting bs h b g × (b.terminator ≡ Switch) × Contains b.targets t × (h < t) × (t < g.merge_block)

abbrev pub Case : List BasicBlock → Row → Type 0
Case bs r =
    BeginsCase bs r.of r.by r.first × (r.first < r.end) × (BeginsCase bs r.of r.by r.end ⊎ (r.end ≡ r.by.merge_block)) × ((t : ℕ) → BeginsCase bs r.of r.by t → r.first < t → r.end ≤ t)

abbrev pub Part : List BasicBlock → Row → Type 0
Part bs r = Construct bs r ⊎ WholeLoop bs r ⊎ Case bs r

abbrev pub Structural : List BasicBlock → ℕ → ℕ → Type 0
Structural bs p q =
    Branches bs p q ⊎ ((b : BasicBlock) × (g : Merge) × Heads bs p b g × (q ≡ g.merge_block)) ⊎ ((g : Merge) × Looping bs p g × (q ≡ continue_of g))

-- ---- rows

-- the block stands in the row from s up to e, and not last: how the last one ends is not said, since what stands behind the row writes that
abbrev pub Within : ℕ → ℕ → ℕ → Type 0
Within s e p = (s ≤ p) × (p + 1 < e)

-- The ways in which a branch may leave a construct: to its merge block, to the continue target of a loop with no other loop inside, or from a continue target to its header.
abbrev pub Leaves : List BasicBlock → Row → ℕ → ℕ → Type 0
Leaves bs r p q =
    (q ≡ r.by.merge_block) ⊎ ((r.first ≡ r.of) × (q ≡ continue_of r.by) × IsTrue (is_loop r.by) × ((h : ℕ) (g : Merge) → Looping bs h g → h ≤ p → p < g.merge_block → h ≤ r.of)) ⊎ ((r.first ≡ p) × (q ≡ r.of) × IsTrue (is_loop r.by))

-- the block at k has no merge instruction and branches to the block at m
abbrev pub Goes : List BasicBlock → ℕ → ℕ → Type 0
Goes bs k m = (b : BasicBlock) × At bs k b × (b.merge ≡ None) × (b.targets ≡ m ∷ [])

-- two rows lie apart, or one lies in the other
abbrev pub Nested : Row → Row → Type 0
Nested r t =
    (r.end ≤ t.first) ⊎ (t.end ≤ r.first) ⊎ ((r.first ≤ t.first) × (t.end ≤ r.end)) ⊎ ((t.first ≤ r.first) × (r.end ≤ t.end))

-- the blocks from s up to e are a row
pub record Fine (bs : List BasicBlock) (s e : ℕ) : Type 0 where
  pub some : s < e
  -- edges stay in the row
  pub edges : (p q : ℕ) → Within s e p → Branches bs p q → (s ≤ q) × (q < e)
  -- each block but the first is entered from an earlier one of the row
  pub entered : (q : ℕ) → s < q → q < e → (p : ℕ) × (s ≤ p) × (p < q) × Structural bs p q
  -- a merge block stands behind its header, in the row
  pub ahead : (h : ℕ) (b : BasicBlock) (g : Merge) → Within s e h → Heads bs h b g → (h < g.merge_block) × (g.merge_block < e)
  -- a loop's continue target is the block before its merge block, and goes back
  pub loops : (h : ℕ) (g : Merge) → Within s e h → Looping bs h g → (h < continue_of g) × (g.merge_block ≡ continue_of g + 1) × Branches bs (continue_of g) h
  -- and nothing else goes back
  pub back : (p q : ℕ) → Within s e p → GoesBack bs p q → (g : Merge) × Looping bs q g × (p ≡ continue_of g)
  -- no merge block of two headers
  pub single : (h k : ℕ) (b c : BasicBlock) (g f : Merge) → Within s e h → Within s e k → Heads bs h b g → Heads bs k c f → g.merge_block ≡ f.merge_block → h ≡ k
  -- parts lie in each other or apart
  pub nested : (r t : Row) → Part bs r → Part bs t → Within s e r.of → Within s e t.of → Nested r t
  -- parts are entered at their first block
  pub entry : (p q : ℕ) (r : Row) → Within s e p → Within s e r.of → Branches bs p q → Part bs r → Holds r q → (q ≡ r.first) ⊎ Holds r p
  -- and left in these ways
  pub leaves : (p q : ℕ) (r : Row) → Within s e p → Within s e r.of → Branches bs p q → Construct bs r → Holds r p → Holds r q ⊎ Leaves bs r p q
  -- no branch from one case to the next
  pub cases : (p : ℕ) (r t : Row) → Within s e p → Within s e r.of → Case bs r → Case bs t → r.of ≡ t.of → Holds r p → Branches bs p t.first → t.first ≡ r.first

-- ---- a function

-- what is seen of a block alone
pub record Neat (bs : List BasicBlock) (p : ℕ) (b : BasicBlock) : Type 0 where
  -- a merge instruction stands directly before the terminator, and suits it
  pub tidy : b.strays ≡ []
  pub suits : (g : Merge) → b.merge ≡ Some g → Suits g.kind b.terminator
  -- a branch with several ways has one, or goes back to a loop's header and on to its merge block
  pub closes : Forks b.terminator → b.merge ≡ None → ClosesLoop bs p b
  pub two : (q : ℕ) → b.terminator ≡ BranchConditional → b.targets ≡ q ∷ q ∷ [] → ⊥

-- the blocks of a function: a row from 0, whose last block n returns and alone does, and that does not begin with a loop's header
pub record Whole (bs : List BasicBlock) (n : ℕ) : Type 0 where
  pub row : Fine bs 0 (n + 1)
  pub all : (p : ℕ) (b : BasicBlock) → At bs p b → p ≤ n
  pub returns : (b : BasicBlock) × At bs n b × (b.merge ≡ None) × (b.targets ≡ [])
  pub only_return : (p : ℕ) (b : BasicBlock) → At bs p b → b.terminator ≡ Return → p ≡ n
  pub neat : (p : ℕ) (b : BasicBlock) → At bs p b → Neat bs p b
  pub first : (g : Merge) → Looping bs 0 g → ⊥
