-- The words of a module (SPIR-V 1.6, section 2.3): a header of five words, and then each instruction where the one before it ends.
use Rattle.std.specs.Prelude.{ℕ, ◌≡◌, ◌+◌, ◌*◌, ◌^◌, List, length, take, drop, slice_get, Some, sum_by}
use Rattle.spv_form.specs.declared.module.Inst.{Inst}
use Rattle.spv_form.specs.declared.module.Module.{Module}
use Rattle.spv_form.specs.Versions.{version_word}

abbrev pub magic : ℕ
magic = 0x0723_0203

-- the words of an instruction, its first word and its operands
abbrev pub size_of : Inst → ℕ
size_of x = 1 + length x.operands

-- the word at which instruction i begins
abbrev pub start_of : List Inst → ℕ → ℕ
start_of insts i = 5 + sum_by size_of (take i insts)

-- The instruction stands at a word: there is its first word, which has its size above 16 bits of opcode, and behind it are its operands.
pub record StandsAt (words : List ℕ) (at : ℕ) (x : Inst) : Type 0 where
  pub first : slice_get words at ≡ Some (size_of x * 2 ^ 16 + x.opcode)
  pub operands : take (length x.operands) (drop (at + 1) words) ≡ x.operands

-- The words of a module with any generator, which is word 2.
pub record IsLayout (words : List ℕ) (m : Module) : Type 0 where
  pub magic : slice_get words 0 ≡ Some magic
  pub version : slice_get words 1 ≡ Some (version_word m.version)
  pub bound : slice_get words 3 ≡ Some m.bound
  pub schema : slice_get words 4 ≡ Some 0
  pub each : (i : ℕ) (x : Inst) → slice_get m.insts i ≡ Some x → StandsAt words (start_of m.insts i) x
  pub ends : length words ≡ start_of m.insts (length m.insts)
