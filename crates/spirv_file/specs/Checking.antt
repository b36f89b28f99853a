-- What holds of a file of words that is checked (SPIR-V 1.6, sections 2.3, 2.4 and 2.11), and what the check answers.
use Rattle.std.specs.Prelude.{ℕ, ◌≡◌, ◌%◌, List, length, Result, Ok, Err}
use Rattle.dx_base.specs.First.{IsFirst, IsSound}
use Rattle.spv_form.specs.Formed.{IsFormed}
use Rattle.spv_form.specs.WordRules.{IsModule, Broken as BrokenWords}
use Rattle.spv_form.specs.declared.module.Module.{Module}
use Rattle.spv_form.specs.declared.fault.CheckFault.{CheckFault}
use Rattle.spv_form.specs.declared.fault.CheckFault.TheVariants.{Refused, OutOfMemory}
use Rattle.spv_form.specs.declared.fault.WordRule.{WordRule}
use Rattle.spv_form.specs.declared.fault.WordRule.TheVariants.{W, V, S}
use Rattle.spirv_words.specs.FileWords.{words_of}
use Rattle.module_rules.specs.Rules.{Broken as BrokenModule}
use Rattle.structure_rules.specs.Blocks.{Broken as BrokenStructure}

-- The bytes are whole words, and these are the words of the module; no rule W is broken.
pub record Holds (bytes : List ℕ) (m : Module) : Type 0 where
  pub whole : length bytes % 4 ≡ 0
  pub is_module : IsModule (words_of bytes) m
  pub formed : IsFormed m

-- The file holds a module that breaks no rule V and no rule S.
pub record IsAccepted (bytes : List ℕ) : Type 0 where
  pub m : Module
  pub holds : Holds bytes m
  pub rules : IsSound (BrokenModule m)
  pub structure : IsSound (BrokenStructure m)

-- The first refusal, with its word: of the rules W the one of least word, and there of least number; where the file holds a module, of the rules V; where
-- this breaks none of these, of the rules S.
pub data IsFirstRefusal (bytes : List ℕ) : WordRule → ℕ → Type 0 where
  of_words : (rule word : ℕ) → IsFirst (BrokenWords (words_of bytes) (length bytes % 4)) rule word → IsFirstRefusal bytes (W rule) word
  of_module : (m : Module) (rule word : ℕ) → Holds bytes m → IsFirst (BrokenModule m) rule word → IsFirstRefusal bytes (V rule) word
  of_structure : (m : Module) (rule word : ℕ) → Holds bytes m → IsSound (BrokenModule m) → IsFirst (BrokenStructure m) rule word → IsFirstRefusal bytes (S rule) word

-- Ok exactly where the file is accepted; else its first refusal, or want of memory.
abbrev pub FileAnswer : Result (Unit {0}) CheckFault → List ℕ → Type 0
FileAnswer (Ok u) bytes = IsAccepted bytes
FileAnswer (Err (Refused rule word)) bytes = IsFirstRefusal bytes rule word
FileAnswer (Err OutOfMemory) bytes = Unit {0}
