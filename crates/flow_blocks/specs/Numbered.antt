-- The blocks of a module's function with each other's numbers. Blocks are numbered from 0 in word order.
use Rattle.std.specs.Prelude.{ℕ, ◌==◌, List, map, position, Bool}
use Rattle.std.specs.Option.{option_map, unwrap_or}
use Rattle.spv_form.specs.declared.module.Inst.{Inst}
use Rattle.flow_rules.specs.Blocks.{BasicBlock}
use Rattle.flow_rules.specs.declared.block.Merge.{Merge}
use Rattle.flow_rules.specs.declared.block.MergeKind.{MergeKind}
use Rattle.flow_rules.specs.declared.block.MergeKind.TheVariants.{Selection, Loop}
use Rattle.flow_blocks.specs.Blocks.{Labeled, labeled_blocks}

abbrev pub has_label : ℕ → Labeled → Bool
has_label id l = l.label == id

-- the number of the first block with this label; 0 where none has it, which V4 and V6 rule out
abbrev pub number_of : List Labeled → ℕ → ℕ
number_of ls id = unwrap_or (position (has_label id) ls) 0

-- with numbers in place of labels
module _ (number : ℕ → ℕ) where
  abbrev pub numbered_kind : MergeKind → MergeKind
  numbered_kind Selection = Selection
  numbered_kind (Loop continue_target) = Loop (number continue_target)

  abbrev pub numbered_merge : Merge → Merge
  numbered_merge m = record { word = m.word; kind = numbered_kind m.kind; merge_block = number m.merge_block }

  abbrev pub numbered_block : BasicBlock → BasicBlock
  numbered_block b = record {
    word = b.word;
    strays = map numbered_merge b.strays;
    merge = option_map numbered_merge b.merge;
    terminator = b.terminator;
    end_word = b.end_word;
    targets = map number b.targets;
  }

  abbrev pub each_numbered : List Labeled → List BasicBlock
  each_numbered ls = map (λ (l : Labeled). numbered_block l.block) ls

abbrev pub numbered : List Labeled → List BasicBlock
numbered ls = each_numbered (number_of ls) ls

-- the blocks of a module's instructions
abbrev pub blocks_of : List Inst → List BasicBlock
blocks_of insts = numbered (labeled_blocks insts)
