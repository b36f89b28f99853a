-- The types of a module by number (LLVM 3.7 bitcode file format, "TYPE_BLOCK Contents"): the entry with number i is the i-th record that takes a number.
use Rattle.std.specs.Prelude.{ℕ, ◌==◌, ◌&&◌, ◌||◌, List, [], take, drop, get_or, map, Bool, true, false, if◌then◌else◌, nat_lt}
use Rattle.std.specs.List.{filter}
use Rattle.llvm_items.specs.Sites.{Site, sites, is_record_of, code_of, fields_of}
use Rattle.bitstream_spelling.specs.declared.item.Item.{Item}
use Rattle.llvm_types.specs.declared.kind.LlvmType.{LlvmType}
use Rattle.llvm_types.specs.declared.kind.LlvmType.TheVariants.{Void, Float, Double, Half, Label, Opaque, Metadata, Integer, Pointer, Array, Vector, Struct, Function}

-- The records that take a number: VOID, FLOAT, DOUBLE, LABEL, OPAQUE, INTEGER, POINTER, HALF, ARRAY, VECTOR, METADATA, STRUCT_ANON, STRUCT_NAMED and
-- FUNCTION.
abbrev pub takes_number : ℕ → Bool
takes_number code =
    if code == 2 then true
    else if code == 3 then true
    else if code == 4 then true
    else if code == 5 then true
    else if code == 6 then true
    else if code == 7 then true
    else if code == 8 then true
    else if code == 10 then true
    else if code == 11 then true
    else if code == 12 then true
    else if code == 16 then true
    else if code == 18 then true
    else if code == 20 then true
    else if code == 21 then true
    else false

-- NUMENTRY and STRUCT_NAME take none
abbrev pub is_listed : ℕ → Bool
is_listed code = code == 1 || code == 19 || takes_number code

-- How many fields a record has at least: INTEGER its width; POINTER its type and space; ARRAY and VECTOR their count and type; STRUCT_ANON and
-- STRUCT_NAMED their flag; FUNCTION its flag and its result's type.
abbrev pub least_of : ℕ → ℕ
least_of code =
    if code == 7 then 1
    else if code == 8 then 2
    else if code == 11 then 2
    else if code == 12 then 2
    else if code == 18 then 1
    else if code == 20 then 1
    else if code == 21 then 2
    else 0

-- The type numbers among a record's fields: a POINTER's first field, the second of an ARRAY or VECTOR, and all behind the flag of a STRUCT_ANON,
-- STRUCT_NAMED or FUNCTION.
abbrev pub type_numbers : ℕ → List ℕ → List ℕ
type_numbers code fields =
    if code == 8 then take 1 fields
    else if code == 11 then take 1 (drop 1 fields)
    else if code == 12 then take 1 (drop 1 fields)
    else if code == 18 then drop 1 fields
    else if code == 20 then drop 1 fields
    else if code == 21 then drop 1 fields
    else []

-- The type that a record with these fields states; `types` are its type numbers. A FUNCTION takes a variable number of arguments where its flag
-- is not 0, its first type is that of its result, and the others are those of its parameters.
abbrev pub stated : ℕ → List ℕ → List ℕ → LlvmType
stated code fields types =
    if code == 3 then Float
    else if code == 4 then Double
    else if code == 5 then Label
    else if code == 6 then Opaque
    else if code == 7 then Integer (get_or fields 0 0)
    else if code == 8 then Pointer (get_or types 0 0) (get_or fields 1 0)
    else if code == 10 then Half
    else if code == 11 then Array (get_or fields 0 0) (get_or types 0 0)
    else if code == 12 then Vector (get_or fields 0 0) (get_or types 0 0)
    else if code == 16 then Metadata
    else if code == 18 then Struct types
    else if code == 20 then Struct types
    else if code == 21 then Function (nat_lt 0 (get_or fields 0 0)) (get_or types 0 0) (drop 1 types)
    else Void

unfoldable pub type_of : ℕ → List ℕ → LlvmType
type_of code fields = stated code fields (type_numbers code fields)

-- a record of a block 17 of the module that takes a number
abbrev pub is_numbered : Site → Bool
is_numbered s = is_record_of 17 s && takes_number (code_of s.item)

abbrev pub numbered : List Item → List Site
numbered is = filter is_numbered (sites is)

abbrev pub types_of : List Item → List ℕ → List LlvmType
types_of is fs = map (λ s. type_of (code_of s.item) (fields_of fs s.item)) (numbered is)
