-- The rules W of a module's words, each with the word that it is broken at.
use Rattle.std.specs.Prelude.{ℕ, zero, suc, ◌≡◌, ◌+◌, ◌-◌, ◌/◌, ◌%◌, ◌^◌, ◌<◌, ◌≤◌, ◌⊎◌, false, true, List, length, take, drop, get_or, Some, None}
use Rattle.dx_base.specs.First.{IsSound}
use Rattle.spv_form.specs.declared.shape.Shape.{Shape}
use Rattle.spv_form.specs.declared.module.Inst.{Inst}
use Rattle.spv_form.specs.declared.module.Module.{Module}
use Rattle.spv_form.specs.Shapes.{shape_of}
use Rattle.spv_form.specs.Operands.{fits, string_ends, is_id}
use Rattle.spv_form.specs.Words.{magic, IsLayout}

-- the size that the first word of an instruction states, and the instruction that stands there by it
abbrev pub size_at : List ℕ → ℕ → ℕ
size_at words at = get_or words at 0 / 2 ^ 16

abbrev pub inst_at : List ℕ → ℕ → Inst
inst_at words at = record { opcode = get_or words at 0 % 2 ^ 16; operands = take (size_at words at - 1) (drop (at + 1) words) }

-- where instruction i begins: at word 5, or where the one before it ends
unfoldable pub begin_of : List ℕ → ℕ → ℕ
begin_of words zero = 5
begin_of words (suc i) = begin_of words i + size_at words (begin_of words i)

-- An instruction begins at the word. After one of size 0 the next would begin at the same word, and after one that passes the end none is left: nothing is asked there.
pub record Begins (words : List ℕ) (at : ℕ) : Type 0 where
  pub index : ℕ
  pub is : begin_of words index ≡ at
  pub within : at < length words

-- The rules W5 to W9, of the instruction that begins at a word.
pub data Breaks (words : List ℕ) (bound at : ℕ) : ℕ → Type 0 where
  -- W5: its size is 0, or passes the end
  size_is_0 : size_at words at ≡ 0 → Breaks words bound at 5
  passes_the_end : length words < at + size_at words at → Breaks words bound at 5
  -- W6: its opcode is not listed
  not_listed : shape_of (inst_at words at).opcode ≡ None → Breaks words bound at 6
  -- W7: the words do not fit its operands
  not_fitting : (s : Shape) → shape_of (inst_at words at).opcode ≡ Some s → fits s (inst_at words at).operands ≡ false → Breaks words bound at 7
  -- W8: its string has no zero byte, or a fill that is not zero
  string_without_end : (s : Shape) → shape_of (inst_at words at).opcode ≡ Some s → string_ends s (inst_at words at).operands ≡ false → Breaks words bound at 8
  -- W9: an id is 0 or not below the bound
  id_out_of_range : (s : Shape) (k : ℕ) → shape_of (inst_at words at).opcode ≡ Some s → k < length (inst_at words at).operands → is_id s (inst_at words at).operands k ≡ true
      → (get_or (inst_at words at).operands k 0 ≡ 0) ⊎ (bound ≤ get_or (inst_at words at).operands k 0) → Breaks words bound at 9

-- The rules over the whole words of a file, behind which `rest` bytes are left over, with the word of each. A word that is missing reads as 0.
pub data Broken (words : List ℕ) (rest : ℕ) : ℕ → ℕ → Type 0 where
  -- W1: the bytes are no multiple of 4, or there are fewer than 5 words
  bytes_left_over : (rest ≡ 0 → ⊥) → Broken words rest 1 0
  header_missing : length words < 5 → Broken words rest 1 0
  -- W2: the magic number
  other_magic : (get_or words 0 0 ≡ magic → ⊥) → Broken words rest 2 0
  -- W3: the version is neither 1.6 nor 1.3
  other_version : (get_or words 1 0 ≡ 0x0001_0600 → ⊥) → (get_or words 1 0 ≡ 0x0001_0300 → ⊥) → Broken words rest 3 1
  -- W4: the last word of the header is not 0
  other_schema : (get_or words 4 0 ≡ 0 → ⊥) → Broken words rest 4 4
  -- W5 to W9
  instruction : {rule at : ℕ} → Begins words at → Breaks words (get_or words 3 0) at rule → Broken words rest rule at

-- The words are those of the module, and no rule is broken.
pub record IsModule (words : List ℕ) (m : Module) : Type 0 where
  pub layout : IsLayout words m
  pub sound : IsSound (Broken words 0)
