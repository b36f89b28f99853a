-- The types that a module may have, by the first definitions of its ids.
use Rattle.std.specs.Prelude.{ℕ, ◌==◌, ◌&&◌, ◌||◌, List, Bool, true, false, length, if◌then◌else◌}
use Rattle.std.specs.Option.{option_map_or}
use Rattle.spv_form.specs.declared.module.Inst.{Inst}
use Rattle.spv_ids.specs.Roles.{operand}
use Rattle.spv_ids.specs.Ids.{definition}

-- the id is defined, and its definition passes the test
abbrev pub is_defined_as : List Inst → ℕ → (Inst → Bool) → Bool
is_defined_as insts id test = option_map_or test (definition insts id) false

unfoldable pub is_void : List Inst → ℕ → Bool
is_void insts t = is_defined_as insts t (λ x. x.opcode == 19)

unfoldable pub is_bool : List Inst → ℕ → Bool
is_bool insts t = is_defined_as insts t (λ x. x.opcode == 20)

-- an integer of 32 bits; its signedness is 0
unfoldable pub is_int : List Inst → ℕ → Bool
is_int insts t = is_defined_as insts t (λ x. x.opcode == 21 && (operand x 1 == 32 && operand x 2 == 0))

-- a vector of so many integers
unfoldable pub is_vector : List Inst → ℕ → ℕ → Bool
is_vector insts n t = is_defined_as insts t (λ x. x.opcode == 23 && (operand x 2 == n && is_int insts (operand x 1)))

-- what an array may hold: integers or vectors of 4
unfoldable pub is_element : List Inst → ℕ → Bool
is_element insts t = is_int insts t || is_vector insts 4 t

-- an array or a runtime array
unfoldable pub is_array : List Inst → ℕ → Bool
is_array insts t = is_defined_as insts t (λ x. (x.opcode == 28 || x.opcode == 29) && is_element insts (operand x 1))

-- TypeVoid, TypeBool, TypeInt, TypeVector, TypeArray, TypeRuntimeArray, TypeStruct, TypePointer, TypeFunction
abbrev pub declares_type : ℕ → Bool
declares_type op = op == 19 || (op == 20 || (op == 21 || (op == 23 || (op == 28 || (op == 29 || (op == 30 || (op == 32 || op == 33)))))))

unfoldable pub is_type : List Inst → ℕ → Bool
is_type insts t = is_defined_as insts t (λ x. declares_type x.opcode)

-- V5: a type is one of void, bool, integer 32 0, vectors of 3 or 4 integers, arrays and runtime arrays of integers or 4-vectors, structures of one
-- such array, pointers, function of void without parameters. What is no type has nothing asked.
unfoldable pub is_listed : List Inst → Inst → Bool
is_listed insts x =
    -- TypeInt: width, signedness
    if x.opcode == 21 then operand x 1 == 32 && operand x 2 == 0 else
    -- TypeVector: component, count
    if x.opcode == 23 then is_int insts (operand x 1) && (operand x 2 == 3 || operand x 2 == 4) else
    -- TypeArray: element, length; TypeRuntimeArray: element
    if x.opcode == 28 then is_element insts (operand x 1) else
    if x.opcode == 29 then is_element insts (operand x 1) else
    -- TypeStruct: members
    if x.opcode == 30 then length x.operands == 2 && is_array insts (operand x 1) else
    -- TypePointer: storage class, pointee
    if x.opcode == 32 then is_type insts (operand x 2) else
    -- TypeFunction: result, parameters
    if x.opcode == 33 then length x.operands == 2 && is_void insts (operand x 1) else
    true
