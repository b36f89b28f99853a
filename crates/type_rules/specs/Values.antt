-- What the values of a module are, by the first definitions of their ids.
use Rattle.std.specs.Prelude.{ℕ, ◌==◌, ◌&&◌, List, [], ◌∷◌, Bool, false, length, Option, Some, None, if◌then◌else◌, option_and_then}
use Rattle.std.specs.Option.{option_map_or}
use Rattle.spv_form.specs.declared.module.Inst.{Inst}
use Rattle.spv_ids.specs.Roles.{operand, type_of}
use Rattle.spv_ids.specs.Ids.{definition}
use Rattle.type_rules.specs.Types.{is_defined_as, is_int, is_bool}

-- the type of a value
unfoldable pub value_type : List Inst → ℕ → Option ℕ
value_type insts v = option_and_then type_of (definition insts v)

unfoldable pub has_type : List Inst → ℕ → ℕ → Bool
has_type insts t v = option_map_or (λ u. u == t) (value_type insts v) false

unfoldable pub is_int_value : List Inst → ℕ → Bool
is_int_value insts v = option_map_or (is_int insts) (value_type insts v) false

unfoldable pub is_bool_value : List Inst → ℕ → Bool
is_bool_value insts v = option_map_or (is_bool insts) (value_type insts v) false

-- an integer constant
unfoldable pub is_constant : List Inst → ℕ → Bool
is_constant insts v = is_defined_as insts v (λ x. x.opcode == 43 && is_int insts (operand x 0))

-- the integer constant 0
unfoldable pub is_zero : List Inst → ℕ → Bool
is_zero insts v = is_defined_as insts v (λ x. x.opcode == 43 && (is_int insts (operand x 0) && operand x 2 == 0))

unfoldable pub is_label : List Inst → ℕ → Bool
is_label insts l = is_defined_as insts l (λ x. x.opcode == 248)

-- the type is a pointer type: it, with storage class and pointee behind its result
unfoldable pub pointer_type : List Inst → ℕ → Option Inst
pointer_type insts t = option_and_then (λ x. if x.opcode == 32 then Some x else None) (definition insts t)

-- the pointer type of a value that is a pointer
unfoldable pub pointer_of : List Inst → ℕ → Option Inst
pointer_of insts v = option_and_then (pointer_type insts) (value_type insts v)

-- the value is a pointer to this type
unfoldable pub points_to : List Inst → ℕ → ℕ → Bool
points_to insts t v = option_map_or (λ p. operand p 2 == t) (pointer_of insts v) false

unfoldable pub points_to_int : List Inst → ℕ → Bool
points_to_int insts v = option_map_or (λ p. is_int insts (operand p 2)) (pointer_of insts v) false

unfoldable pub is_runtime_array : List Inst → ℕ → Bool
is_runtime_array insts t = is_defined_as insts t (λ x. x.opcode == 29)

-- TypeStruct: result, members. It has one, which is a runtime array.
unfoldable pub holds_runtime_array : List Inst → ℕ → Bool
holds_runtime_array insts t = is_defined_as insts t (λ x. x.opcode == 30 && (length x.operands == 2 && is_runtime_array insts (operand x 1)))

-- the value is a pointer to such a structure
unfoldable pub points_to_runtime_array : List Inst → ℕ → Bool
points_to_runtime_array insts v = option_map_or (λ p. holds_runtime_array insts (operand p 2)) (pointer_of insts v) false

-- The type behind one index: a structure's one member, by the constant 0; an array's or a vector's element, by an integer.
unfoldable pub behind : List Inst → ℕ → ℕ → Option ℕ
behind insts t v = option_and_then (λ x.
    if x.opcode == 30 then (if is_zero insts v then Some (operand x 1) else None) else
    if x.opcode == 23 then (if is_int_value insts v then Some (operand x 1) else None) else
    if x.opcode == 28 then (if is_int_value insts v then Some (operand x 1) else None) else
    if x.opcode == 29 then (if is_int_value insts v then Some (operand x 1) else None) else
    None) (definition insts t)

-- the type that the indices lead to
abbrev pub leads : List Inst → ℕ → List ℕ → Option ℕ
leads insts t [] = Some t
leads insts t (v ∷ vs) = option_and_then (λ u. leads insts u vs) (behind insts t v)
