-- What the operands of an instruction are: its type, its result and the ids that it uses.
use Rattle.std.specs.Prelude.{ℕ, ◌≡◌, ◌≢◌, ◌==◌, ◌<◌, Bool, true, false, length, get_or, slice_get, Option, Some, None, if◌then◌else◌, option_and_then}
use Rattle.std.specs.Option.{option_map_or}
use Rattle.spv_form.specs.declared.module.Inst.{Inst}
use Rattle.spv_form.specs.declared.shape.Shape.{Shape}
use Rattle.spv_form.specs.declared.shape.Shape.TheVariants.{Plain, Text, Pairs}
use Rattle.spv_form.specs.Shapes.{shape_of}
use Rattle.spv_form.specs.Operands.{is_id}

-- the operand word at a place; 0 where there is none
abbrev pub operand : Inst → ℕ → ℕ
operand x at = get_or x.operands at 0

-- where among the operands the result stands: first, or behind the type
abbrev pub result_place : Shape → Option ℕ
result_place (Plain has_type has_id least most numbers) = if has_id then Some (if has_type then 1 else 0) else None
result_place (Text before after numbers) = None
result_place Pairs = None

abbrev pub is_typed : Shape → Bool
is_typed (Plain has_type has_id least most numbers) = has_type
is_typed (Text before after numbers) = false
is_typed Pairs = false

-- the id that an instruction defines
unfoldable pub result_of : Inst → Option ℕ
result_of x = option_and_then (λ at. slice_get x.operands at) (option_and_then result_place (shape_of x.opcode))

-- the id of an instruction's type
unfoldable pub type_of : Inst → Option ℕ
type_of x = option_and_then (λ s. if is_typed s then slice_get x.operands 0 else None) (shape_of x.opcode)

-- the instruction defines the id
unfoldable pub defines : ℕ → Inst → Bool
defines id x = option_map_or (λ r. r == id) (result_of x) false

-- An instruction uses an id: it is among the operands, and is not there as the result.
pub record Uses (x : Inst) (id : ℕ) : Type 0 where
  pub shape : Shape
  pub at : ℕ
  pub listed : shape_of x.opcode ≡ Some shape
  pub within : at < length x.operands
  pub is_id : is_id shape x.operands at ≡ true
  pub is_used : result_place shape ≢ Some at
  pub id_is : operand x at ≡ id
