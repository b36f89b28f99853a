-- What the readers of a file promise of the body of its entry function.
use Rattle.std.specs.Prelude.{ℕ, ◌≡◌, ◌+◌, ◌<◌, ◌≤◌, ◌==◌, ◌&&◌, List, length, slice_get, take, Bool, true, false, not, if◌then◌else◌, Option, Some, is_some}
use Rattle.std.specs.List.{count_by, sum_by}
use Rattle.llvm_types.specs.declared.kind.LlvmType.{LlvmType}
use Rattle.llvm_types.specs.declared.kind.LlvmType.TheVariants as types
use Rattle.llvm_bodies.specs.Bodies.{is_terminator, has_value}
use Rattle.llvm_bodies.specs.declared.line.Line.{Line}
use Rattle.llvm_facts.specs.declared.facts.Row.{Row}
use Rattle.dxil_form.specs.Sound.{LocalFits}
use Rattle.llvm_values.specs.declared.global.Global.{Global}
use Rattle.llvm_values.specs.declared.global.Global.TheVariants.{Constant}
use Rattle.profile_lines.specs.Pool.{Pool}
use Rattle.profile_lines.specs.Values.{call_type}
use Rattle.profile_lines.specs.declared.known.ValueType.{ValueType}
use Rattle.profile_lines.specs.declared.known.ValueType.TheVariants.{Numbered}
use Rattle.profile_tables.specs.EntryBody.{EntryBody}
use Rattle.profile_tables.specs.Parts.{cases_of, entries_of, has_target}
use Rattle.profile_tables.specs.Resources.{class_number}

abbrev pub ends_block : Line → Bool
ends_block line = is_terminator line.code

abbrev pub gives_value : Line → Bool
gives_value line = is_some line.value

-- the number of the first value that an instruction gives
abbrev pub first_value : EntryBody → ℕ
first_value x = length x.pool.globals + length x.pool.constants

abbrev pub is_void_in : Option LlvmType → Bool
is_void_in (Some types.Void) = true
is_void_in other = false

abbrev pub is_void : Pool → ValueType → Bool
is_void x (Numbered ty) = is_void_in (slice_get x.types ty)
is_void x other = false

-- a CALL gives no value whose result is void
abbrev pub should_give : Pool → Line → Bool
should_give x line = has_value line.code && not (line.code == 34 && is_void x (call_type x line))

abbrev pub cases_in : Line → ℕ
cases_in line = if line.code == 12 then length (cases_of line) else 0

abbrev pub entries_in : Line → ℕ
entries_in line = if line.code == 16 then length (entries_of line) else 0

abbrev pub is_constant : Global → Bool
is_constant (Constant ty kind bit) = true
is_constant other = false

-- a line at its place
abbrev pub IsAt : EntryBody → ℕ → Line → Type 0
IsAt x i line = slice_get x.lines i ≡ Some line

-- A body as it is read, and the thread counts of its group.
pub record IsRead (x : EntryBody) (counts : List ℕ) : Type 0 where
  -- the constants of the body are constants
  pub constants : (i : ℕ) (value : Global) → slice_get x.pool.constants i ≡ Some value → is_constant value ≡ true
  -- bits rise from line to line
  pub rises : (i j : ℕ) (a b : Line) → i < j → IsAt x i a → IsAt x j b → a.bit < b.bit
  -- values are numbered by the lines that give them
  pub gives : (i : ℕ) (line : Line) → IsAt x i line → gives_value line ≡ should_give x.pool line
  pub numbered : (i v : ℕ) (line : Line) → IsAt x i line → line.value ≡ Some v → v ≡ first_value x + count_by gives_value (take i x.lines)
  pub values : x.values ≡ first_value x + count_by gives_value x.lines
  -- a line stands in the block of the terminators before it; each declared block has one, and the last line is one
  pub block : (i : ℕ) (line : Line) → IsAt x i line → line.block ≡ count_by ends_block (take i x.lines)
  pub blocks : x.blocks ≡ count_by ends_block x.lines
  pub last : (i : ℕ) (line : Line) → IsAt x i line → i + 1 ≡ length x.lines → ends_block line ≡ true
  pub begins : 1 ≤ x.blocks
  -- branches go to declared blocks
  pub targets : (i k : ℕ) (line : Line) → IsAt x i line → has_target k line ≡ true → k < x.blocks
  -- the limits of a body
  pub few_blocks : x.blocks ≤ 8192
  pub few_lines : length x.lines ≤ 32768
  pub few_cases : sum_by cases_in x.lines ≤ 65536
  pub few_entries : sum_by entries_in x.lines ≤ 262144
  -- no two rows have the same class and id
  pub apart : (r s : ℕ) (a b : Row) → slice_get x.rows r ≡ Some a → slice_get x.rows s ≡ Some b → class_number a.class ≡ class_number b.class → a.id ≡ b.id → r ≡ s
  -- thread counts are in their bounds
  pub local : LocalFits counts
