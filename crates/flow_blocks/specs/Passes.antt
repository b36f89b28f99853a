-- The two passes over the instructions of a module, one instruction at a time: over the labels of the blocks, and over the blocks.
use Rattle.std.specs.Prelude.{ℕ, ◌==◌, List, [], ◌∷◌, ◌++◌, length, map, Option, Some, None, if◌then◌else◌}
use Rattle.std.specs.Option.{option_map, is_some, unwrap_or}
use Rattle.std.specs.FinMap.{get}
use Rattle.spv_form.specs.declared.module.Inst.{Inst}
use Rattle.flow_rules.specs.Blocks.{BasicBlock}
use Rattle.flow_rules.specs.declared.block.Merge.{Merge}
use Rattle.flow_rules.specs.declared.block.Terminator.{Terminator}
use Rattle.flow_blocks.specs.declared.labels.Labels.{Labels}
use Rattle.flow_blocks.specs.declared.read.OpenBlock.{OpenBlock}
use Rattle.flow_blocks.specs.Blocks.{Open, operand, terminator_of, merge_of, targets_of, with_merge}
use Rattle.flow_blocks.specs.Numbered.{numbered_merge}

-- ---- labels
-- the number that a table has for a label; 0 where it has none
abbrev pub number_in : Labels → ℕ → ℕ
number_in labels id = unwrap_or (get labels.first id) 0

-- the labels of blocks with their numbers, and one block more where there is a label
abbrev pub with_block : List (ℕ × ℕ) → Option ℕ → List (ℕ × ℕ)
with_block blocks None = blocks
with_block blocks (Some label) = blocks ++ (label, length blocks) ∷ []

-- the label of the block that has no terminator yet, behind an instruction
abbrev pub label_after : Option ℕ → Inst → Option ℕ
label_after before x =
    if x.opcode == 248 then Some (operand x 0)
    else if is_some (terminator_of x) then None
    else before

-- the label of the block that an instruction ends
abbrev pub label_ended : Option ℕ → Inst → Option ℕ
label_ended before x =
    if x.opcode == 248 then None
    else if is_some (terminator_of x) then before
    else None

-- ---- blocks, with numbers in place of labels
module _ (number : ℕ → ℕ) where
  abbrev pub open_numbered : Open → OpenBlock
  open_numbered o = record { word = o.word; strays = map (numbered_merge number) o.strays; merge = option_map (numbered_merge number) o.merge }

abbrev pub next_inner : Option OpenBlock → Option Terminator → Option Merge → Option OpenBlock
next_inner None t m = None
next_inner (Some o) (Some t) m = None
next_inner (Some o) None m = Some (record { word = o.word; strays = with_merge o.strays o.merge; merge = m })

abbrev pub block_ended : Option OpenBlock → Option Terminator → ℕ → List ℕ → List BasicBlock
block_ended None t word targets = []
block_ended (Some o) None word targets = []
block_ended (Some o) (Some t) word targets =
    record { word = o.word; strays = o.strays; merge = o.merge; terminator = t; end_word = word; targets = targets } ∷ []

module _ (number : ℕ → ℕ) where
  -- the block that has no terminator yet, behind an instruction
  abbrev pub block_after : Option OpenBlock → ℕ → Inst → Option OpenBlock
  block_after before word x =
      if x.opcode == 248 then Some (record { word = word; strays = []; merge = None })
      else next_inner before (terminator_of x) (option_map (numbered_merge number) (merge_of x word))

  -- the block that an instruction ends
  abbrev pub block_ended_at : Option OpenBlock → ℕ → Inst → List BasicBlock
  block_ended_at before word x = if x.opcode == 248 then [] else block_ended before (terminator_of x) word (map number (targets_of x))
