-- What the check of the blocks answers, and its parts.
use Rattle.std.specs.Prelude.{ℕ, ◌≡◌, ◌+◌, ◌<◌, ◌≤◌, List, Option, Some, None, Result, Ok, Err, Bool, true, false, Contains, slice_get, min, ◌∷◌, []}
use Rattle.flow_scans.specs.declared.span.Span.{Span}
use Rattle.dx_base.specs.First.{IsFirst, IsSound}
use Rattle.spv_form.specs.declared.fault.CheckFault.{CheckFault}
use Rattle.spv_form.specs.declared.fault.CheckFault.TheVariants.{Refused, OutOfMemory}
use Rattle.spv_form.specs.declared.fault.WordRule.TheVariants.{S}
use Rattle.flow_rules.specs.Blocks.{BasicBlock}
use Rattle.flow_rules.specs.declared.block.Merge.{Merge}
use Rattle.flow_rules.specs.declared.check.Fault.{Fault}
use Rattle.flow_rules.specs.Flow.{Row, Loops, Switches, SoleBack}
use Rattle.flow_rules.specs.Rules.{Strays, Escapes, BreaksMerge, BreaksEdge, Broken, IsClear, IsMergeClear}

-- Nothing is broken, or the first broken rule, or want of memory.
abbrev pub FlowAnswer : Result (Unit {0}) CheckFault → List BasicBlock → Type 0
FlowAnswer (Ok _) bs = IsSound (Broken bs)
FlowAnswer (Err (Refused (S rule) word)) bs = IsFirst (Broken bs) rule word
FlowAnswer (Err OutOfMemory) bs = Unit {0}
FlowAnswer (Err _) bs = ⊥

-- whether it holds
abbrev pub Tells : Bool → Type 0 → Type 0
Tells true P = P
Tells false P = P → ⊥

-- the least number of a rule that is broken, or none is
abbrev pub RuleAnswer : Option ℕ → (ℕ → Type 0) → Type 0
RuleAnswer None B = (rule : ℕ) → B rule → ⊥
RuleAnswer (Some least) B = B least × ((rule : ℕ) → B rule → least ≤ rule)

-- no rule of a smaller number is broken
pub record NoneBelow (B : ℕ → Type 0) (n : ℕ) : Type 0 where
  pub none : (k : ℕ) → k < n → B k → ⊥

-- the lesser of two numbers, of which each may be missing
abbrev pub lesser_of : Option ℕ → Option ℕ → Option ℕ
lesser_of None b = b
lesser_of (Some a) None = Some a
lesser_of (Some a) (Some b) = Some (min a b)

-- the loop header at h may be closed from p, and has this merge block
pub record Closing (bs : List BasicBlock) (p h end : ℕ) : Type 0 where
  pub by : Merge
  pub continue_target : ℕ
  pub loops : Loops bs h by continue_target
  pub back : h ≤ p
  pub end_is : by.merge_block ≡ end

-- both targets of a block are one
pub record IsDoubled (b : BasicBlock) : Type 0 where
  pub target : ℕ
  pub targets : b.targets ≡ target ∷ target ∷ []

-- there is a span with this end
abbrev pub EndsAt : Option Span → ℕ → Type 0
EndsAt None end = ⊥
EndsAt (Some s) end = s.end ≡ end

-- the merge block or the continue target of a loop, which is told by one more than its header
pub data LoopExit (bs : List BasicBlock) (inner q : ℕ) : Type 0 where
  loop_merge : (h : ℕ) (g : Merge) (c : ℕ) → inner ≡ h + 1 → Loops bs h g c → q ≡ g.merge_block → LoopExit bs inner q
  loop_continue : (h : ℕ) (g : Merge) (c : ℕ) → inner ≡ h + 1 → Loops bs h g c → q ≡ c → LoopExit bs inner q

-- the merge block of a switch, which is told by one more than its header
pub record SwitchExit (bs : List BasicBlock) (switch q : ℕ) : Type 0 where
  pub header : ℕ
  pub by : Merge
  pub switch_is : switch ≡ header + 1
  pub switches : Switches bs header by
  pub is : q ≡ by.merge_block

-- the block from which all back edges to p come, where there is one
abbrev pub SoleAnswer : Option ℕ → List BasicBlock → ℕ → Type 0
SoleAnswer None bs p = (b : ℕ) → SoleBack bs p b → ⊥
SoleAnswer (Some b) bs p = SoleBack bs p b

-- a block has no merge instruction but that which stands directly before its terminator
pub record IsTidy (bs : List BasicBlock) (p : ℕ) : Type 0 where
  pub none : (f : Merge) → Strays bs p f → ⊥

-- one of the blocks from `from` on and before `to` leaves the row
pub record SomeEscapes (bs : List BasicBlock) (r : Row) (from to : ℕ) : Type 0 where
  pub at : ℕ
  pub behind : from ≤ at
  pub before : at < to
  pub escapes : Escapes bs r at

-- a rule is broken at one of the first so many branch edges of a block
pub record BreaksSome (bs : List BasicBlock) (p : ℕ) (targets : List ℕ) (rule : ℕ) : Type 0 where
  pub target : ℕ
  pub listed : Contains targets target
  pub breaks : BreaksEdge bs p target rule

-- nothing is broken at the merge instructions of the block, or the first broken rule at its header's
abbrev pub MergeAnswer : Option Fault → List BasicBlock → ℕ → BasicBlock → Type 0
MergeAnswer None bs p b = IsMergeClear bs p
MergeAnswer (Some f) bs p b = (g : Merge) × (b.merge ≡ Some g) × (f.word ≡ g.word) × RuleAnswer (Some f.rule) (BreaksMerge bs p g)

-- the word of the first merge instruction that does not stand directly before the terminator
abbrev pub StrayAnswer : Option ℕ → BasicBlock → Type 0
StrayAnswer None b = slice_get b.strays 0 ≡ None
StrayAnswer (Some word) b = (f : Merge) × (slice_get b.strays 0 ≡ Some f) × (word ≡ f.word)

abbrev pub FaultAnswer : Option Fault → List BasicBlock → Type 0
FaultAnswer None bs = IsSound (Broken bs)
FaultAnswer (Some f) bs = IsFirst (Broken bs) f.rule f.word

-- the block has nothing broken in it, or the first broken rule of all stands in it
abbrev pub BlockAnswer : Option Fault → List BasicBlock → ℕ → Type 0
BlockAnswer None bs p = IsClear bs (p + 1)
BlockAnswer (Some f) bs p = IsFirst (Broken bs) f.rule f.word
