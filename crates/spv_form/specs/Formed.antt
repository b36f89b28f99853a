-- Instructions and modules whose operands are as their opcodes say.
use Rattle.std.specs.Prelude.{ℕ, ◌≡◌, ◌<◌, true, length, get_or, Some, All}
use Rattle.spv_form.specs.declared.shape.Shape.{Shape}
use Rattle.spv_form.specs.declared.module.Inst.{Inst}
use Rattle.spv_form.specs.declared.module.Module.{Module}
use Rattle.spv_form.specs.Shapes.{shape_of}
use Rattle.spv_form.specs.Operands.{fits, string_ends, is_id}

-- the operand word at a place is an id: it is from 1 to below the bound
abbrev pub IsIdBelow : ℕ → ℕ → Type 0
IsIdBelow bound id = (0 < id) × (id < bound)

-- The opcode is listed, the operand words fit it, its string ends, and its ids are below the bound. With its first word it has at most 65,535 words.
pub record IsFormedInst (bound : ℕ) (x : Inst) : Type 0 where
  pub shape : Shape
  pub listed : shape_of x.opcode ≡ Some shape
  pub fits : fits shape x.operands ≡ true
  pub string : string_ends shape x.operands ≡ true
  pub ids : (at : ℕ) → at < length x.operands → is_id shape x.operands at ≡ true → IsIdBelow bound (get_or x.operands at 0)
  pub short : length x.operands < 65535

abbrev pub IsFormed : Module → Type 0
IsFormed m = All (IsFormedInst m.bound) m.insts
