-- The loop constructs in which blocks of a module stand, and the blocks that begin at the sites of a program's blocks.
use Rattle.std.specs.Prelude.{◌≡◌, ◌↔◌, ℕ, ◌<◌, ◌≤◌, Bool, true, List, length, Some, slice_get}
use Rattle.dxil_form.specs.Graphs.{count_below}
use Rattle.spv_form.specs.declared.module.Module.{Module}
use Rattle.spv_form.specs.Words.{start_of}
use Rattle.flow_rules.specs.Blocks.{BasicBlock}
use Rattle.flow_rules.specs.declared.block.Merge.{Merge}
use Rattle.flow_rules.specs.Flow.{Loops}
use Rattle.flow_blocks.specs.Numbered.{blocks_of}
use Rattle.spirv_meaning.specs.Names.{site}

-- block q stands in the loop construct of the header h, which goes from the header up to the loop's continue target
pub record StandsIn (bs : List BasicBlock) (q h : ℕ) : Type 0 where
  pub by : Merge
  pub continue_target : ℕ
  pub loops : Loops bs h by continue_target
  pub from : h ≤ q
  pub before : q < continue_target

-- block q stands in exactly n loop constructs
abbrev pub InLoops : List BasicBlock → (q n : ℕ) → Type 0
InLoops bs q n =
    (test : ℕ → Bool) × ((h : ℕ) → (test h ≡ true) ↔ StandsIn bs q h) × (n ≡ count_below (length bs) test)

-- block q of the module begins at the site of the program's block b
pub record IsSite (m : Module) (b q : ℕ) : Type 0 where
  pub place : ℕ
  pub site_is : site m b ≡ Some place
  pub block : BasicBlock
  pub at : slice_get (blocks_of m.insts) q ≡ Some block
  pub word_is : block.word ≡ start_of m.insts place
