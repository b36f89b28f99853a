-- A basic block. The blocks of a function are numbered from 0 in word order.
use Rattle.std.specs.Prelude.{ℕ, List, Option}
use Rattle.flow_rules.specs.declared.block.Merge.{Merge}
use Rattle.flow_rules.specs.declared.block.Terminator.{Terminator}

pub record BasicBlock : Type 0 where
  -- the word of its label
  pub word : ℕ
  -- the merge instructions that do not stand directly before the terminator
  pub strays : List Merge
  -- the merge instruction that stands directly before the terminator, which makes the block a header
  pub merge : Option Merge
  pub terminator : Terminator
  -- the word of its terminator
  pub end_word : ℕ
  -- the blocks to which the terminator branches, in the order of its operands
  pub targets : List ℕ
