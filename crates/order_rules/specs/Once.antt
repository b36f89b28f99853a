-- V2 and V11: the instructions that stand exactly once, and the place of variables.
use Rattle.std.specs.Prelude.{ℕ, ◌≡◌, ◌+◌, ◌-◌, ◌==◌, ◌||◌, ◌&&◌, nat_lt, nat_le, not, List, length, drop, Bool, true, false, Option, IfSome, option_and_then, ◌<◌, position, if◌then◌else◌}
use Rattle.std.specs.List.{list_any}
use Rattle.std.specs.Option.{option_map_or}
use Rattle.spv_form.specs.declared.module.Inst.{Inst}
use Rattle.spv_ids.specs.Roles.{operand}
use Rattle.spv_ids.specs.Places.{is_op, stands_before}

-- MemoryModel, EntryPoint, ExecutionMode, Capability
abbrev pub is_once : ℕ → Bool
is_once op = op == 14 || op == 15 || op == 16 || op == 17

-- MemoryModel 0 1, an EntryPoint 5, an ExecutionMode 17, Capability 1
unfoldable pub has_numbers : Inst → Bool
has_numbers x =
    if x.opcode == 14 then operand x 0 == 0 && operand x 1 == 1 else
    if x.opcode == 15 then operand x 0 == 5 else
    if x.opcode == 16 then operand x 1 == 17 else
    if x.opcode == 17 then operand x 0 == 1 else
    true

-- V2: it has other numbers, or one of its opcode stands before it.
unfoldable pub is_wrong_once : List Inst → ℕ → Inst → Bool
is_wrong_once insts at x = is_once x.opcode && (not (has_numbers x) || stands_before (is_op x.opcode) insts at)

-- The first label stands before the place, and between them there are only variables.
unfoldable pub is_at_head : List Inst → ℕ → Bool
is_at_head insts at = option_map_or (λ p. nat_lt p at && not (stands_before (λ x. not (is_op 59 x)) (drop (p + 1) insts) (at - (p + 1)))) (position (is_op 248) insts) false

-- V11: a Variable (type, result, storage class) of class Function stands at the first block's head and has an initializer; another has none.
unfoldable pub is_placed : List Inst → ℕ → Inst → Bool
is_placed insts at x =
    if x.opcode == 59 then (if operand x 2 == 7 then is_at_head insts at && nat_lt 3 (length x.operands) else nat_le (length x.operands) 3)
    else true

-- the number of the first rule of which an instruction is missing in the module: V1 a FunctionEnd, V2 one of the four, V10 a block
abbrev pub has : List Inst → ℕ → Bool
has insts op = list_any (is_op op) insts

unfoldable pub has_four : List Inst → Bool
has_four insts = has insts 14 && (has insts 15 && (has insts 16 && has insts 17))

-- ---- where some instructions first stand

abbrev pub once_before : List Inst → ℕ → ℕ → Bool
once_before insts at op = is_once op && stands_before (is_op op) insts at

abbrev pub IsWithin : Option ℕ → List Inst → Type 0
IsWithin o insts = IfSome o (λ p. p < length insts)

-- how far behind a place the first instruction stands that is no variable
abbrev pub other_behind : List Inst → Option ℕ → Option ℕ
other_behind insts o = option_and_then (λ p. position (λ x. not (is_op 59 x)) (drop (p + 1) insts)) o

pub record AreLandmarks (insts : List Inst) (memory_model entry_point execution_mode capability function_end label other : Option ℕ) : Type 0 where
  pub memory_model_is : memory_model ≡ position (is_op 14) insts
  pub entry_point_is : entry_point ≡ position (is_op 15) insts
  pub execution_mode_is : execution_mode ≡ position (is_op 16) insts
  pub capability_is : capability ≡ position (is_op 17) insts
  pub function_end_is : function_end ≡ position (is_op 56) insts
  pub label_is : label ≡ position (is_op 248) insts
  pub other_is : other ≡ other_behind insts label
