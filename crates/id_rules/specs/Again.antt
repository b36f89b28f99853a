-- V7: types that are declared twice.
use Rattle.std.specs.Prelude.{ℕ, ◌≡◌, ◌<◌, ◌==◌, ◌||◌, ◌&&◌, List, drop, slice_get, Bool, true, Option, Some, None, position, All, if◌then◌else◌}
use Rattle.std.specs.Option.{option_or}
use Rattle.std.specs.Ordering.{nat_cmp, ordering_then}
use Rattle.std.specs.declared.cmp.Ordering.{Ordering}
use Rattle.spv_form.specs.declared.module.Inst.{Inst}
use Rattle.spv_form.specs.Formed.{IsFormedInst}
use Rattle.spv_ids.specs.Roles.{operand}
use Rattle.spv_ids.specs.Places.{stands_before}

-- a type other than an array or a structure: TypeVoid, TypeBool, TypeInt, TypeVector, TypePointer, TypeFunction
abbrev pub is_single : ℕ → Bool
is_single op = op == 19 || op == 20 || op == 21 || op == 23 || op == 32 || op == 33

-- Such a type with the same operands behind the result stands before the place.
pub record IsDeclaredAgain (insts : List Inst) (at : ℕ) (x : Inst) : Type 0 where
  pub single : is_single x.opcode ≡ true
  pub place : ℕ
  pub other : Inst
  pub there : slice_get insts place ≡ Some other
  pub before : place < at
  pub same_opcode : other.opcode ≡ x.opcode
  pub same_operands : drop 1 other.operands ≡ drop 1 x.operands

-- each instruction is as its opcode says, with ids below some bound
pub record AreFormed (insts : List Inst) : Type 0 where
  pub bound : ℕ
  pub all : All (IsFormedInst bound) insts

-- ---- a table of the first declarations, by opcode and the first two operands behind the result

abbrev pub Key : Type 0
Key = ℕ × ℕ × ℕ

abbrev pub key_cmp : Key → Key → Ordering
key_cmp p q = ordering_then (ordering_then (nat_cmp p.0 q.0) (nat_cmp p.1 q.1)) (nat_cmp p.2 q.2)

unfoldable pub has_key : Key → Inst → Bool
has_key key x = is_single x.opcode && (x.opcode == key.0 && (operand x 1 == key.1 && operand x 2 == key.2))

unfoldable pub is_key_before : List Inst → ℕ → Inst → Bool
is_key_before insts at x = is_single x.opcode && stands_before (has_key (x.opcode, operand x 1, operand x 2)) insts at

pub record AreFirst (first : Key → Option ℕ) (insts : List Inst) : Type 0 where
  pub are : (key : Key) → first key ≡ position (has_key key) insts

-- the place is kept for the instruction's key, unless there was one
pub record IsKept (old new : Key → Option ℕ) (x : Inst) (at : ℕ) : Type 0 where
  pub kept : (key : Key) → new key ≡ option_or (old key) (if has_key key x then Some at else None)

abbrev pub key_of : Inst → Key
key_of x = (x.opcode, operand x 1, operand x 2)

abbrev pub first_key : List Inst → Key → Option ℕ
first_key insts key = position (has_key key) insts
