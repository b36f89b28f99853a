-- The blocks of a module's function (SPIR-V 1.6, section 2.2.5 and "Control-Flow Instructions"): a block is a label and what follows it up to a terminator. Blocks are named
-- by the ids of their labels.
use Rattle.std.specs.Prelude.{ℕ, ◌+◌, ◌==◌, List, [], ◌∷◌, ◌++◌, drop, get_or, Option, Some, None, if◌then◌else◌}
use Rattle.spv_form.specs.declared.module.Inst.{Inst}
use Rattle.spv_form.specs.Words.{size_of}
use Rattle.flow_rules.specs.Blocks.{BasicBlock}
use Rattle.flow_rules.specs.declared.block.Merge.{Merge}
use Rattle.flow_rules.specs.declared.block.MergeKind.TheVariants.{Selection, Loop}
use Rattle.flow_rules.specs.declared.block.Terminator.{Terminator}
use Rattle.flow_rules.specs.declared.block.Terminator.TheVariants.{Branch, BranchConditional, Switch, Return}

-- a block with the id of its label
pub record Labeled : Type 0 where
  pub label : ℕ
  pub block : BasicBlock

-- a block whose terminator does not stand yet, with the merge instruction that stands last
pub record Open : Type 0 where
  pub label : ℕ
  pub word : ℕ
  pub strays : List Merge
  pub merge : Option Merge

abbrev pub operand : Inst → ℕ → ℕ
operand x at = get_or x.operands at 0

-- Branch, BranchConditional, Switch and Return are terminators
abbrev pub terminator_of : Inst → Option Terminator
terminator_of x =
    if x.opcode == 249 then Some Branch
    else if x.opcode == 250 then Some BranchConditional
    else if x.opcode == 251 then Some Switch
    else if x.opcode == 253 then Some Return
    else None

-- LoopMerge and SelectionMerge are merge instructions
abbrev pub merge_of : Inst → ℕ → Option Merge
merge_of x word =
    if x.opcode == 246 then Some (record { word = word; kind = Loop (operand x 1); merge_block = operand x 0 })
    else if x.opcode == 247 then Some (record { word = word; kind = Selection; merge_block = operand x 0 })
    else None

-- every second word: the labels of a switch's pairs
abbrev pub every_second : List ℕ → List ℕ
every_second [] = []
every_second (literal ∷ []) = []
every_second (literal ∷ label ∷ words) = label ∷ every_second words

-- the labels to which a terminator branches, in the order of its operands
abbrev pub targets_of : Inst → List ℕ
targets_of x =
    if x.opcode == 249 then operand x 0 ∷ []
    else if x.opcode == 250 then operand x 1 ∷ operand x 2 ∷ []
    else if x.opcode == 251 then operand x 1 ∷ every_second (drop 2 x.operands)
    else []

-- a list with one merge instruction more, where there is one
abbrev pub with_merge : List Merge → Option Merge → List Merge
with_merge fs None = fs
with_merge fs (Some f) = fs ++ f ∷ []

-- an instruction that is no label, behind the label of a block that has no terminator yet
abbrev pub inner_after : Option Open → Option Terminator → Option Merge → Option Open
inner_after None t m = None
inner_after (Some o) (Some t) m = None
inner_after (Some o) None m = Some (record { label = o.label; word = o.word; strays = with_merge o.strays o.merge; merge = m })

-- The block that has no terminator yet, behind an instruction at a word. A merge instruction stands directly before the terminator until another
-- instruction follows it.
abbrev pub open_after : Option Open → ℕ → Inst → Option Open
open_after before word x =
    if x.opcode == 248 then Some (record { label = operand x 0; word = word; strays = []; merge = None })
    else inner_after before (terminator_of x) (merge_of x word)

-- the block that a terminator ends
abbrev pub ended : Option Open → Option Terminator → ℕ → List ℕ → List Labeled
ended None t word targets = []
ended (Some o) None word targets = []
ended (Some o) (Some t) word targets =
    record { label = o.label; block = record { word = o.word; strays = o.strays; merge = o.merge; terminator = t; end_word = word; targets = targets } } ∷ []

abbrev pub ended_at : Option Open → ℕ → Inst → List Labeled
ended_at before word x = if x.opcode == 248 then [] else ended before (terminator_of x) word (targets_of x)

-- the blocks of instructions from a word on, behind the label of a block that has no terminator yet, or none
unfoldable pub blocks_from : Option Open → ℕ → List Inst → List Labeled
blocks_from before word [] = []
blocks_from before word (x ∷ xs) = ended_at before word x ++ blocks_from (open_after before word x) (word + size_of x) xs

-- the blocks of a module's instructions, of which the first stands at word 5
abbrev pub labeled_blocks : List Inst → List Labeled
labeled_blocks insts = blocks_from None 5 insts

-- the block without its label's id
abbrev pub block_of : Labeled → BasicBlock
block_of l = l.block
