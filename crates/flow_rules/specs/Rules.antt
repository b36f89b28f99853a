-- The structure rules, S1 to S12: which of them is broken, at which word. Where several are, the one of least word counts, and at one word the one of
-- least number.
use Rattle.std.specs.Prelude.{ℕ, ◌≡◌, ◌≢◌, ◌<◌, ◌≤◌, List, [], ◌∷◌, length, Some, None, Contains, ◌⊎◌, slice_get}
use Rattle.flow_rules.specs.Blocks.{BasicBlock}
use Rattle.flow_rules.specs.declared.block.Merge.{Merge}
use Rattle.flow_rules.specs.declared.block.MergeKind.{MergeKind}
use Rattle.flow_rules.specs.declared.block.MergeKind.TheVariants.{Selection, Loop}
use Rattle.flow_rules.specs.declared.block.Terminator.{Terminator}
use Rattle.flow_rules.specs.declared.block.Terminator.TheVariants.{Branch, BranchConditional, Switch, Return}
use Rattle.flow_rules.specs.Flow.{Row, In, At, Edge, Header, Loops, StructuralEdge, SoleBack, IsConstruct, IsCase, IsRow, InnermostLoop, InnermostSwitch}

-- a SelectionMerge stands before a BranchConditional or Switch, a LoopMerge before a Branch or BranchConditional
pub data Suits : MergeKind → Terminator → Type 0 where
  selection_conditional : Suits Selection BranchConditional
  selection_switch : Suits Selection Switch
  loop_branch : (c : ℕ) → Suits (Loop c) Branch
  loop_conditional : (c : ℕ) → Suits (Loop c) BranchConditional

-- a conditional branch or a switch
pub data Forks : Terminator → Type 0 where
  conditional : Forks BranchConditional
  switch : Forks Switch

-- The two rows have a block in common, and neither has all blocks of the other.
pub record Cross (r s : Row) : Type 0 where
  pub common : ℕ
  pub in_first : In r common
  pub in_second : In s common
  pub first_only : ℕ
  pub of_first : In r first_only
  pub not_second : In s first_only → ⊥
  pub second_only : ℕ
  pub of_second : In s second_only
  pub not_first : In r second_only → ⊥

module _ (bs : List BasicBlock) where
  -- a merge instruction of the block that does not stand directly before its terminator
  pub record Strays (p : ℕ) (f : Merge) : Type 0 where
    pub block : BasicBlock
    pub at : At bs p block
    pub stray : Contains block.strays f

  -- a merge instruction of the block
  pub data Merges (p : ℕ) (f : Merge) : Type 0 where
    by_stray : Strays p f → Merges p f
    by_header : Header bs p f → Merges p f

  -- the conditional branch makes a loop's back edge, and its two targets are that loop's header and merge block
  pub record ClosesLoop (p : ℕ) (b : BasicBlock) : Type 0 where
    pub header : ℕ
    pub by : Merge
    pub continue_target : ℕ
    pub conditional_is : b.terminator ≡ BranchConditional
    pub loops : Loops bs header by continue_target
    pub back : header ≤ p
    pub targets : (b.targets ≡ header ∷ by.merge_block ∷ []) ⊎ (b.targets ≡ by.merge_block ∷ header ∷ [])

  -- a block of the row returns or has a branch edge out of it
  pub data Escapes (r : Row) (q : ℕ) : Type 0 where
    by_return : (b : BasicBlock) → At bs q b → b.terminator ≡ Return → Escapes r q
    by_edge : (o : ℕ) → Edge bs q o → (In r o → ⊥) → Escapes r q

  -- The blocks beside a construct's own merge block to which a branch edge may leave it: the merge block and the continue target of the innermost
  -- loop, the merge block of the innermost switch, and that loop's header, where the source is its back-edge block.
  pub data MayLeave (p q : ℕ) : Type 0 where
    to_loop_merge : (l : Row) → InnermostLoop bs p l → q ≡ l.by.merge_block → MayLeave p q
    to_continue : (l : Row) (inner : InnermostLoop bs p l) → q ≡ inner.loop.continue_target → MayLeave p q
    to_switch_merge : (s : Row) → InnermostSwitch bs p s → q ≡ s.by.merge_block → MayLeave p q
    to_header : (l : Row) → InnermostLoop bs p l → q ≡ l.of → SoleBack bs l.of p → MayLeave p q

  -- At a label. S12: a block other than the first is the target of no structural edge from an earlier block, or the first block is a target.
  pub data BreaksLabel (q : ℕ) : ℕ → Type 0 where
    s12_unreached : 0 < q → ((p : ℕ) → p < q → StructuralEdge bs p q → ⊥) → BreaksLabel q 12
    s12_first : (p : ℕ) → q ≡ 0 → StructuralEdge bs p q → BreaksLabel q 12

  -- At a merge instruction f of block p.
  -- S2: it stands elsewhere than directly before a terminator of its kinds.
  -- S3: its merge block is the merge block of an earlier merge instruction.
  -- S4: a header's merge block does not stand after it.
  -- S5: a loop's continue target stands before its header, or not before its merge block.
  -- S6: a loop header has not exactly one back-edge block.
  -- S7: a row of the header and one of an earlier header cross.
  -- S8: the one back-edge block is not in the loop's continue construct, or another block of that construct leaves it.
  pub data BreaksMerge (p : ℕ) (f : Merge) : ℕ → Type 0 where
    s2_stray : Strays p f → BreaksMerge p f 2
    s2_kind : (h : Header bs p f) → (Suits f.kind h.block.terminator → ⊥) → BreaksMerge p f 2
    s3 : (q : ℕ) (e : Merge) → Merges q e → e.word < f.word → e.merge_block ≡ f.merge_block → BreaksMerge p f 3
    s4 : Header bs p f → f.merge_block ≤ p → BreaksMerge p f 4
    s5_before : (c : ℕ) → Loops bs p f c → c < p → BreaksMerge p f 5
    s5_behind : (c : ℕ) → Loops bs p f c → f.merge_block ≤ c → BreaksMerge p f 5
    s6 : (c : ℕ) → Loops bs p f c → ((b : ℕ) → SoleBack bs p b → ⊥) → BreaksMerge p f 6
    s7 : (r s : Row) → IsRow bs r → IsRow bs s → r.of < s.of → s.of ≡ p → s.by ≡ f → Cross r s → BreaksMerge p f 7
    s8_outside : (r : Row) (c b : ℕ) → Loops bs p f c → r ≡ record { of = p; by = f; first = c; end = f.merge_block } → SoleBack bs p b → (In r b → ⊥) → BreaksMerge p f 8
    s8_leaves : (r : Row) (c b q : ℕ) → Loops bs p f c → r ≡ record { of = p; by = f; first = c; end = f.merge_block } → SoleBack bs p b → In r q → q ≢ b → Escapes r q → BreaksMerge p f 8

  -- At a branch edge from p to q.
  -- S6: a back edge goes to no loop header.
  -- S9: it goes from a block outside a row to a block in it that is not its first.
  -- S10: it leaves a construct to another block than its merge block and those to which it may leave.
  -- S11: it goes from one case construct to the first block of another of the same switch.
  pub data BreaksEdge (p q : ℕ) : ℕ → Type 0 where
    s6_target : q ≤ p → ((g : Merge) (c : ℕ) → Loops bs q g c → ⊥) → BreaksEdge p q 6
    s9 : (r : Row) → IsRow bs r → (In r p → ⊥) → In r q → q ≢ r.first → BreaksEdge p q 9
    s10 : (r : Row) → IsConstruct bs r → In r p → (In r q → ⊥) → q ≢ r.by.merge_block → (MayLeave p q → ⊥) → BreaksEdge p q 10
    s11 : (r t : Row) → IsCase bs r → IsCase bs t → r.of ≡ t.of → r.first ≢ t.first → In r p → q ≡ t.first → BreaksEdge p q 11

  -- At the terminator of block p.
  -- S1: a conditional branch or a switch has no merge instruction directly before it and makes no loop's back edge, or a conditional branch names one
  -- block as both its targets.
  pub data BreaksEnd (p : ℕ) (b : BasicBlock) : ℕ → Type 0 where
    s1_none : Forks b.terminator → b.merge ≡ None → (ClosesLoop p b → ⊥) → BreaksEnd p b 1
    s1_equal : (q : ℕ) → b.terminator ≡ BranchConditional → b.targets ≡ q ∷ q ∷ [] → BreaksEnd p b 1
    by_target : {rule : ℕ} (q : ℕ) → Edge bs p q → BreaksEdge p q rule → BreaksEnd p b rule

  pub data Broken : ℕ → ℕ → Type 0 where
    at_label : {rule : ℕ} (p : ℕ) (b : BasicBlock) → At bs p b → BreaksLabel p rule → Broken rule b.word
    at_merge : {rule : ℕ} (p : ℕ) (f : Merge) → Merges p f → BreaksMerge p f rule → Broken rule f.word
    at_end : {rule : ℕ} (p : ℕ) (b : BasicBlock) → At bs p b → BreaksEnd p b rule → Broken rule b.end_word

  -- Every block that is named is one of the blocks.
  pub record IsNumbered : Type 0 where
    pub targets : (p q : ℕ) → StructuralEdge bs p q → q < length bs

  -- The words rise: from the label over the merge instructions to the terminator, and from block to block.
  pub record AreInOrder : Type 0 where
    pub strays_behind : (p : ℕ) (b : BasicBlock) (f : Merge) → At bs p b → Contains b.strays f → b.word < f.word
    pub strays_before : (p : ℕ) (b : BasicBlock) (f : Merge) → At bs p b → Contains b.strays f → f.word < b.end_word
    pub strays_rise : (p : ℕ) (b : BasicBlock) (i j : ℕ) (f g : Merge) → At bs p b → slice_get b.strays i ≡ Some f → slice_get b.strays j ≡ Some g → i < j → f.word < g.word
    pub strays_first : (p : ℕ) (b : BasicBlock) (f g : Merge) → At bs p b → Contains b.strays f → b.merge ≡ Some g → f.word < g.word
    pub merge_behind : (p : ℕ) (b : BasicBlock) (g : Merge) → At bs p b → b.merge ≡ Some g → b.word < g.word
    pub merge_before : (p : ℕ) (b : BasicBlock) (g : Merge) → At bs p b → b.merge ≡ Some g → g.word < b.end_word
    pub label_before : (p : ℕ) (b : BasicBlock) → At bs p b → b.word < b.end_word
    pub blocks_rise : (p q : ℕ) (b d : BasicBlock) → At bs p b → At bs q d → p < q → b.end_word < d.word

  -- nothing is broken in the blocks before block k
  pub record IsClear (k : ℕ) : Type 0 where
    pub labels : (p : ℕ) (b : BasicBlock) (rule : ℕ) → p < k → At bs p b → BreaksLabel p rule → ⊥
    pub merges : (p : ℕ) (f : Merge) (rule : ℕ) → p < k → Merges p f → BreaksMerge p f rule → ⊥
    pub ends : (p : ℕ) (b : BasicBlock) (rule : ℕ) → p < k → At bs p b → BreaksEnd p b rule → ⊥

  -- nothing is broken at the merge instructions of block p
  pub record IsMergeClear (p : ℕ) : Type 0 where
    pub merges : (f : Merge) (rule : ℕ) → Merges p f → BreaksMerge p f rule → ⊥
