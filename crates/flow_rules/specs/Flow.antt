-- The edges and constructs of a function's blocks (SPIR-V 1.6, section 2.11). A block is named by its number in word order.
use Rattle.std.specs.Prelude.{ℕ, ◌≡◌, ◌<◌, ◌≤◌, List, slice_get, Some, Contains, ◌⊎◌}
use Rattle.flow_rules.specs.Blocks.{BasicBlock}
use Rattle.flow_rules.specs.declared.block.Merge.{Merge}
use Rattle.flow_rules.specs.declared.block.MergeKind.TheVariants.{Selection, Loop}
use Rattle.flow_rules.specs.declared.block.Terminator.TheVariants.{Switch}

-- A row of blocks that a header makes by its merge instruction: from its first block up to its end, which is not in it. It has no block where
-- the end does not stand after the first block.
pub record Row : Type 0 where
  pub of : ℕ
  pub by : Merge
  pub first : ℕ
  pub end : ℕ

-- the row holds the block
pub record In (r : Row) (p : ℕ) : Type 0 where
  pub from : r.first ≤ p
  pub before : p < r.end

module _ (bs : List BasicBlock) where
  abbrev pub At : ℕ → BasicBlock → Type 0
  At p b = slice_get bs p ≡ Some b

  -- a branch edge goes from a block to each target
  pub record Edge (p q : ℕ) : Type 0 where
    pub block : BasicBlock
    pub at : At p block
    pub target : Contains block.targets q

  -- the block is a header: the merge instruction stands directly before its terminator
  pub record Header (h : ℕ) (g : Merge) : Type 0 where
    pub block : BasicBlock
    pub at : At h block
    pub merge : block.merge ≡ Some g

  -- a header with a SelectionMerge
  pub record Selects (h : ℕ) (g : Merge) : Type 0 where
    pub header : Header h g
    pub kind : g.kind ≡ Selection

  -- a loop header with its continue target
  pub record Loops (h : ℕ) (g : Merge) (c : ℕ) : Type 0 where
    pub header : Header h g
    pub kind : g.kind ≡ Loop c

  -- a switch with a SelectionMerge directly before it
  pub record Switches (h : ℕ) (g : Merge) : Type 0 where
    pub selects : Selects h g
    pub switch : selects.header.block.terminator ≡ Switch

  -- Structural edges are the branch edges and, from a header, one to its merge block and, from a loop header, one to its continue target.
  pub data StructuralEdge (p q : ℕ) : Type 0 where
    by_branch : Edge p q → StructuralEdge p q
    by_merge : (g : Merge) → Header p g → g.merge_block ≡ q → StructuralEdge p q
    by_continue : (g : Merge) → Loops p g q → StructuralEdge p q

  -- a branch edge to the block that it leaves or to an earlier one
  pub record BackEdge (p q : ℕ) : Type 0 where
    pub edge : Edge p q
    pub back : q ≤ p

  -- the one block from which back edges go to h
  pub record SoleBack (h p : ℕ) : Type 0 where
    pub back : BackEdge p h
    pub only : (r : ℕ) → BackEdge r h → r ≡ p

  -- A selection construct goes from a header with a SelectionMerge to its merge block. A loop construct goes from a loop header to its continue
  -- target. A continue construct goes from the continue target to the loop's merge block.
  pub data IsConstruct (r : Row) : Type 0 where
    selection : Selects r.of r.by → r.first ≡ r.of → r.end ≡ r.by.merge_block → IsConstruct r
    loop_construct : (c : ℕ) → Loops r.of r.by c → r.first ≡ r.of → r.end ≡ c → IsConstruct r
    continue_construct : (c : ℕ) → Loops r.of r.by c → r.first ≡ c → r.end ≡ r.by.merge_block → IsConstruct r

  -- a loop is the row from its header to its merge block
  pub record IsLoop (r : Row) : Type 0 where
    pub continue_target : ℕ
    pub loops : Loops r.of r.by continue_target
    pub first_is : r.first ≡ r.of
    pub end_is : r.end ≡ r.by.merge_block

  -- a target of the switch that stands in the selection construct of the switch's header, the header aside
  pub record CaseStart (h : ℕ) (g : Merge) (t : ℕ) : Type 0 where
    pub switches : Switches h g
    pub edge : Edge h t
    pub behind : h < t
    pub before : t < g.merge_block

  -- A case construct goes from such a target to the next one, or to the merge block where none follows.
  pub record IsCase (r : Row) : Type 0 where
    pub start : CaseStart r.of r.by r.first
    pub behind : r.first < r.end
    pub end_is : CaseStart r.of r.by r.end ⊎ (r.end ≡ r.by.merge_block)
    pub next : (t : ℕ) → CaseStart r.of r.by t → r.first < t → r.end ≤ t

  -- constructs, case constructs and loops
  pub data IsRow (r : Row) : Type 0 where
    is_construct : IsConstruct r → IsRow r
    is_loop : IsLoop r → IsRow r
    is_case : IsCase r → IsRow r

  -- of the loops that hold the block, the one whose header stands last
  pub record InnermostLoop (p : ℕ) (l : Row) : Type 0 where
    pub loop : IsLoop l
    pub holds : In l p
    pub last : (m : Row) → IsLoop m → In m p → m.of ≤ l.of

  -- the selection construct of a switch's header
  pub record IsSwitchRow (r : Row) : Type 0 where
    pub switches : Switches r.of r.by
    pub first_is : r.first ≡ r.of
    pub end_is : r.end ≡ r.by.merge_block

  -- among the switches whose header the innermost loop that holds the block holds, or among all switches if no loop holds it
  pub record InLoopOf (p h : ℕ) : Type 0 where
    pub held : (l : Row) → InnermostLoop p l → In l h

  -- of the switches among these whose selection construct has the block in it, the one whose header stands last
  pub record InnermostSwitch (p : ℕ) (r : Row) : Type 0 where
    pub switch : IsSwitchRow r
    pub holds : In r p
    pub near : InLoopOf p r.of
    pub last : (s : Row) → IsSwitchRow s → In s p → InLoopOf p s.of → s.of ≤ r.of
