-- The decorations of an id that the rules ask for. Where several decorations of an id are of one kind, its number is that of the first that has one.
use Rattle.std.specs.Prelude.{ℕ, ◌≡◌, ◌==◌, ◌&&◌, ◌||◌, nat_lt, List, Bool, false, Option, Some, None, option_map, length, if◌then◌else◌}
use Rattle.std.specs.Option.{option_or, unwrap_or}
use Rattle.std.specs.List.{list_any, find}
use Rattle.spv_form.specs.declared.module.Inst.{Inst}
use Rattle.spv_form.specs.Shapes.{is_from}
use Rattle.spv_ids.specs.Roles.{operand}
use Rattle.decoration_rules.specs.declared.marks.Marks.{Marks}

-- Decorate: target, decoration, and perhaps a number
unfoldable pub is_decoration : ℕ → ℕ → Inst → Bool
is_decoration id kind x = x.opcode == 71 && (operand x 0 == id && operand x 1 == kind)

-- a decoration with a number
unfoldable pub is_numbered : ℕ → ℕ → Inst → Bool
is_numbered id kind x = is_decoration id kind x && nat_lt 2 (length x.operands)

-- ArrayStride 4 or 16
unfoldable pub is_stride : ℕ → Inst → Bool
is_stride id x = is_numbered id 6 x && (operand x 2 == 4 || operand x 2 == 16)

-- BuiltIn WorkgroupId, LocalInvocationId, GlobalInvocationId or LocalInvocationIndex
unfoldable pub is_built_in : ℕ → Inst → Bool
is_built_in id x = is_numbered id 11 x && is_from 26 29 (operand x 2)

-- MemberDecorate: target, member 0, Offset 0
unfoldable pub is_first_offset : ℕ → Inst → Bool
is_first_offset id x = x.opcode == 72 && (operand x 0 == id && (operand x 1 == 0 && (operand x 2 == 35 && operand x 3 == 0)))

-- the number of the first decoration of this kind that has one
unfoldable pub number_of : List Inst → ℕ → ℕ → Option ℕ
number_of insts id kind = option_map (λ x. operand x 2) (find (is_numbered id kind) insts)

-- what the decorations of a module say of an id
unfoldable pub marks_of : List Inst → ℕ → Marks
marks_of insts id = record {
  -- DescriptorSet, Binding
  set = number_of insts id 34;
  binding = number_of insts id 33;
  -- Block
  block = list_any (is_decoration id 2) insts;
  first_offset = list_any (is_first_offset id) insts;
  stride = list_any (is_stride id) insts;
  built_in = list_any (is_built_in id) insts;
  -- NonWritable
  non_writable = list_any (is_decoration id 24) insts;
}

abbrev pub unmarked : Marks
unmarked = record { set = None; binding = None; block = false; first_offset = false; stride = false; built_in = false; non_writable = false }

-- a table has the marks of each id
pub record AreMarksOf (marks : ℕ → Option Marks) (insts : List Inst) : Type 0 where
  pub are : (id : ℕ) → unwrap_or (marks id) unmarked ≡ marks_of insts id

-- ---- one instruction more

-- the id that an instruction decorates
abbrev pub target : Inst → Option ℕ
target x = if x.opcode == 71 then Some (operand x 0) else if x.opcode == 72 then Some (operand x 0) else None

-- the number that is there, or that of the decoration
abbrev pub or_number : Option ℕ → ℕ → ℕ → Inst → Option ℕ
or_number o id kind x = option_or o (if is_numbered id kind x then Some (operand x 2) else None)

-- the marks with what an instruction says of the id
unfoldable pub add : ℕ → Inst → Marks → Marks
add id x m = record {
  set = or_number m.set id 34 x;
  binding = or_number m.binding id 33 x;
  block = m.block || is_decoration id 2 x;
  first_offset = m.first_offset || is_first_offset id x;
  stride = m.stride || is_stride id x;
  built_in = m.built_in || is_built_in id x;
  non_writable = m.non_writable || is_decoration id 24 x;
}

-- each id has the marks that it had, with what the instruction says of it
pub record IsMarked (old new : ℕ → Option Marks) (x : Inst) : Type 0 where
  pub marked : (id : ℕ) → unwrap_or (new id) unmarked ≡ add id x (unwrap_or (old id) unmarked)
