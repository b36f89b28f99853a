-- V9, V10, V12 and V15: the entry point, its size, and the pairs of a switch.
use Rattle.std.specs.Prelude.{ℕ, ◌≡◌, ◌+◌, ◌*◌, ◌==◌, ◌||◌, ◌&&◌, nat_le, nat_lt, not, List, [], drop, length, count_by, slice_get, position, Bool, false, Option, option_and_then, if◌then◌else◌}
use Rattle.std.specs.List.{list_all}
use Rattle.std.specs.Option.{option_map_or, unwrap_or}
use Rattle.spv_form.specs.declared.module.Inst.{Inst}
use Rattle.spv_form.specs.declared.module.Version.{Version}
use Rattle.spv_form.specs.declared.module.Version.TheVariants.{V13, V16}
use Rattle.spv_form.specs.Operands.{string_last}
use Rattle.spv_ids.specs.Roles.{operand}
use Rattle.spv_ids.specs.Places.{is_op}
use Rattle.type_rules.specs.Types.{is_defined_as, is_void}

-- EntryPoint: execution model, function, name, and the ids of its interface, which stand behind the name
unfoldable pub interface : Inst → List ℕ
interface x = option_map_or (λ last. drop (last + 1) x.operands) (string_last x.operands 2) []

-- Variable: type, result, storage class. It is one that an interface lists: at version 1.6 a global variable, whose class is not Function; at version 1.3
-- an Input variable.
abbrev pub is_listed_variable : Version → Inst → Bool
is_listed_variable V16 x = x.opcode == 59 && not (operand x 2 == 7)
is_listed_variable V13 x = x.opcode == 59 && operand x 2 == 1

-- each such variable is in this list exactly once
abbrev pub lists_each_once : Version → List Inst → List ℕ → Bool
lists_each_once version insts ids = list_all (λ y. not (is_listed_variable version y) || count_by (λ id. id == operand y 1) ids == 1) insts

-- the id is an Input variable
unfoldable pub is_input : List Inst → ℕ → Bool
is_input insts id = is_defined_as insts id (is_listed_variable V13)

-- at version 1.3 an id in the list is no Input variable; at version 1.6 other ids may stand there
abbrev pub lists_another : Version → List Inst → List ℕ → Bool
lists_another V16 insts ids = false
lists_another V13 insts ids = not (list_all (is_input insts) ids)

-- V9: at version 1.6 the interface of an EntryPoint does not list each global variable exactly once; at version 1.3 it does not list each Input variable
-- exactly once, or it lists another id.
unfoldable pub is_wrong_interface : Version → List Inst → Inst → Bool
is_wrong_interface version insts x = x.opcode == 15 && (not (lists_each_once version insts (interface x)) || lists_another version insts (interface x))

-- the id is a TypeFunction (result, parameters) of void without parameters
unfoldable pub is_void_function : List Inst → ℕ → Bool
is_void_function insts t = is_defined_as insts t (λ f. f.opcode == 33 && (length f.operands == 2 && is_void insts (operand f 1)))

-- the first Function: type, result, control and function type
abbrev pub function : List Inst → Option Inst
function insts = option_and_then (slice_get insts) (position (is_op 54) insts)

-- the id is the function's result, and its type is such a function type
unfoldable pub is_entry : List Inst → ℕ → Bool
is_entry insts id = option_map_or (λ f. operand f 1 == id && is_void_function insts (operand f 3)) (function insts) false

-- V10: the entry id of an EntryPoint is not the function, or the function's type is not `void ()`.
unfoldable pub is_wrong_entry : List Inst → Inst → Bool
is_wrong_entry insts x = x.opcode == 15 && not (is_entry insts (operand x 1))

-- a thread count from 1 to the greatest
abbrev pub is_count : ℕ → ℕ → Bool
is_count most n = nat_le 1 n && nat_le n most

abbrev pub is_size : ℕ → ℕ → ℕ → Bool
is_size x y z = is_count 1024 x && (is_count 1024 y && (is_count 64 z && nat_le (x * y * z) 1024))

-- V12: a LocalSize (entry point, mode, then three numbers) with a number that is 0, the first or second above 1024, the third above 64, or the product above 1024.
unfoldable pub is_wrong_size : Inst → Bool
is_wrong_size x = x.opcode == 16 && not (is_size (operand x 2) (operand x 3) (operand x 4))

-- V15: a Switch (selector, default, then pairs) with more than 16,383 pairs.
unfoldable pub has_many_pairs : Inst → Bool
has_many_pairs x = x.opcode == 251 && nat_lt (2 + 2 * 16383) (length x.operands)

-- ---- a table that counts the ids of an interface
pub record AreCounts (count : ℕ → Option ℕ) (ids : List ℕ) : Type 0 where
  pub are : (q : ℕ) → unwrap_or (count q) 0 ≡ count_by (λ id. id == q) ids

-- one more of the id
pub record IsCounted (old new : ℕ → Option ℕ) (id : ℕ) : Type 0 where
  pub counted : (q : ℕ) → unwrap_or (new q) 0 ≡ unwrap_or (old q) 0 + (if id == q then 1 else 0)

-- by such a table: it is no variable that is listed, or stands once
abbrev pub is_listed_once : Version → (ℕ → Option ℕ) → Inst → Bool
is_listed_once version count y = not (is_listed_variable version y) || unwrap_or (count (operand y 1)) 0 == 1
