-- The values of a module by number (LLVM 3.7 bitcode file format, "MODULE_BLOCK Contents", "CONSTANTS_BLOCK Contents" and "VALUE_SYMTAB_BLOCK
-- Contents"): the entry with number i is that of the i-th record that takes a number, whatever rule is broken. Fields that are missing read as 0, and
-- numbers of types and values count modulo 2 ^ 32.
use Rattle.std.specs.Prelude.{ℕ, ℤ, pos, negsuc, neg_ℤ, ◌+◌, ◌-◌, ◌*◌, ◌/◌, ◌%◌, ◌^◌, ◌==◌, ◌&&◌, ◌||◌, List, [], ◌∷◌, ◌++◌, length, get_or, slice_get, drop, map, reverse, Bool, not, nat_lt, if◌then◌else◌, Option, Some, None}
use Rattle.std.specs.List.{list_any, count_by, find, range_with_len}
use Rattle.std.specs.Option.{option_map}
use Rattle.bitstream_spelling.specs.Framed.{bit_of}
use Rattle.bitstream_spelling.specs.declared.item.Item.{Item}
use Rattle.llvm_items.specs.Sites.{Site, sites, is_record_of, is_record_of_module, is_record_inside, enters, enters_inside, code_of, fields_of}
use Rattle.llvm_types.specs.declared.kind.LlvmType.{LlvmType}
use Rattle.llvm_types.specs.declared.kind.LlvmType.TheVariants.{Pointer}
use Rattle.llvm_values.specs.declared.global.Global.{Global}
use Rattle.llvm_values.specs.declared.global.Global.TheVariants.{Variable, Function, Constant}
use Rattle.llvm_values.specs.declared.global.ConstKind.{ConstKind}
use Rattle.llvm_values.specs.declared.global.ConstKind.TheVariants.{Null, Undef, Integer, Gep, Other}

-- a field of a record, 0 where it is missing
abbrev pub field_of : List ℕ → Item → ℕ → ℕ
field_of fs item at = get_or (fields_of fs item) at 0

-- ---- constants, of the module and of bodies

-- a record of a block 11 that stands directly in the module or in a body
abbrev pub is_of_constants : Site → Bool
is_of_constants s = is_record_of 11 s || is_record_inside 12 11 s

-- the entry of such a block
abbrev pub enters_constants : Site → Bool
enters_constants s = enters 11 s || enters_inside 12 11 s

-- SETTYPE
abbrev pub sets_type : Site → Bool
sets_type s = is_of_constants s && code_of s.item == 1

-- the type number that a SETTYPE states
abbrev pub type_set : List ℕ → Site → ℕ
type_set fs s = field_of fs s.item 0 % 2 ^ 32

-- the sites behind the last one that passes the test, and all where none does
abbrev pub since : (Site → Bool) → List Site → List Site
since test [] = []
since test (s ∷ ss) = if test s || list_any test ss then since test ss else s ∷ since test ss

-- The type of a constant behind these sites: that of the last SETTYPE of its block. Before the first one it is None, which means i32.
abbrev pub type_behind : List ℕ → List Site → Option ℕ
type_behind fs before = option_map (type_set fs) (find sets_type (reverse (since enters_constants before)))

-- what a site makes of the type of the constants behind it
abbrev pub type_after : List ℕ → Option ℕ → Site → Option ℕ
type_after fs ty s = if enters_constants s then None else if sets_type s then Some (type_set fs s) else ty

-- An INTEGER's number in signed form: bit 0 is the sign. Zero with a sign is the least number of 64 bits.
abbrev pub signed : ℕ → ℤ
signed n = if n % 2 == 0 then pos (n / 2) else if n == 1 then negsuc (2 ^ 63 - 1) else neg_ℤ (pos (n / 2))

-- the fields two by two
abbrev pub pair_at : List ℕ → ℕ → ℕ × ℕ
pair_at fields k = (get_or fields (2 * k) 0 % 2 ^ 32, get_or fields (2 * k + 1) 0 % 2 ^ 32)

abbrev pub pairs : List ℕ → List (ℕ × ℕ)
pairs fields = map (pair_at fields) (range_with_len 0 (length fields / 2))

-- CE_GEP or CE_INBOUNDS_GEP: one of an odd number of fields begins with its source type; then come pairs of a type and a value.
abbrev pub place_of : List ℕ → ConstKind
place_of fields = if length fields % 2 == 1 then Gep (Some (get_or fields 0 0 % 2 ^ 32)) (pairs (drop 1 fields)) else Gep None (pairs fields)

-- NULL, UNDEF, INTEGER, CE_GEP and CE_INBOUNDS_GEP
abbrev pub kind_of : ℕ → List ℕ → ConstKind
kind_of code fields =
    if code == 2 then Null
    else if code == 3 then Undef
    else if code == 4 then Integer (signed (get_or fields 0 0))
    else if code == 12 then place_of fields
    else if code == 20 then place_of fields
    else Other

-- a constant record, where this type holds
unfoldable pub constant_of : Option ℕ → ℕ → List ℕ → ℕ → Global
constant_of ty code fields bit = Constant ty (kind_of code fields) bit

-- ---- variables and functions

-- A type that a record states by number: what it points to and in which space, where it is a pointer; else the type itself, and space 0.
abbrev pub through : Option LlvmType → ℕ → ℕ × ℕ
through (Some (Pointer to space)) number = (to, space)
through other number = (number % 2 ^ 32, 0)

-- GLOBALVAR: bit 1 of the flags says that the type is the variable's own, and the space stands above it. The initializer is a value number plus one.
abbrev pub has_own_type : List ℕ → Bool
has_own_type fields = get_or fields 1 0 / 2 % 2 == 1

abbrev pub place_stated : List LlvmType → List ℕ → ℕ × ℕ
place_stated types fields = if has_own_type fields then (get_or fields 0 0 % 2 ^ 32, get_or fields 1 0 / 4) else through (slice_get types (get_or fields 0 0)) (get_or fields 0 0)

abbrev pub number_less_one : ℕ → Option ℕ
number_less_one n = if n == 0 then None else Some ((n - 1) % 2 ^ 32)

unfoldable pub variable_of : List LlvmType → List ℕ → ℕ → Global
variable_of types fields bit = Variable (place_stated types fields).0 (place_stated types fields).1 (number_less_one (get_or fields 2 0)) bit

-- FUNCTION: one whose declaration flag is 0 has a body. Its type is a function type or a pointer to one.
abbrev pub is_defined : List ℕ → Bool
is_defined fields = get_or fields 2 0 == 0

unfoldable pub function_of : List LlvmType → List ℕ → ℕ → List ℕ → ℕ → Global
function_of types fields bodies name bit = Function (through (slice_get types (get_or fields 0 0)) (get_or fields 0 0)).0 (if is_defined fields then Some bodies else None) name bit

-- ---- the list

abbrev pub states_variable : Site → Bool
states_variable s = is_record_of_module s && code_of s.item == 7

abbrev pub states_function : Site → Bool
states_function s = is_record_of_module s && code_of s.item == 8

-- a constant of the module
abbrev pub states_constant : Site → Bool
states_constant s = is_record_of 11 s && not (code_of s.item == 1)

-- the records that take a number
abbrev pub takes_value : Site → Bool
takes_value s = states_variable s || states_function s || states_constant s

-- the functions that have a body
abbrev pub has_body : List ℕ → Site → Bool
has_body fs s = states_function s && is_defined (fields_of fs s.item)

-- VST_ENTRY, a record of code 1 of a block 14 of the module: a value number, and the characters of its name. Without a field it names nothing.
abbrev pub is_symbol : Site → Bool
is_symbol s = is_record_of 14 s && code_of s.item == 1

abbrev pub names : List ℕ → ℕ → Site → Bool
names fs number s = is_symbol s && nat_lt 0 (length (fields_of fs s.item)) && field_of fs s.item 0 % 2 ^ 32 == number

-- the first symbol of a value
abbrev pub symbol_of : List ℕ → List Site → ℕ → Option Item
symbol_of fs ss number = option_map (λ (s : Site). s.item) (find (names fs number) ss)

-- the name that a value's first symbol gives it; without one its name is empty
abbrev pub name_in : List ℕ → Option Item → List ℕ
name_in fs (Some item) = map (λ c. c % 2 ^ 8) (drop 1 (fields_of fs item))
name_in fs None = []

abbrev pub name_of : List Item → List ℕ → ℕ → List ℕ
name_of is fs number = name_in fs (symbol_of fs (sites is) number)

-- the value of a record that takes a number, by the type that holds there, the number of bodies before it, and the value's name
abbrev pub value_stated : List ℕ → List LlvmType → Option ℕ → ℕ → List ℕ → Site → Global
value_stated fs types ty bodies name s =
    if states_variable s then variable_of types (fields_of fs s.item) (bit_of s.item)
    else if states_function s then function_of types (fields_of fs s.item) bodies name (bit_of s.item)
    else constant_of ty (code_of s.item) (fields_of fs s.item) (bit_of s.item)

-- the value of a record that takes a number and stands behind these sites
abbrev pub value_of : List Item → List ℕ → List LlvmType → List Site → Site → Global
value_of is fs types before s = value_stated fs types (type_behind fs before) (count_by (has_body fs) before) (name_of is fs (count_by takes_value before)) s

-- the values of these sites in order, behind those before them
abbrev pub values_from : List Item → List ℕ → List LlvmType → List Site → List Site → List Global
values_from is fs types before [] = []
values_from is fs types before (s ∷ ss) = (if takes_value s then value_of is fs types before s ∷ [] else []) ++ values_from is fs types (before ++ s ∷ []) ss

-- the values of the module by number
abbrev pub values_of : List Item → List ℕ → List LlvmType → List Global
values_of is fs types = values_from is fs types [] (sites is)

-- how many values the module has, and how many bodies
abbrev pub value_count : List Item → ℕ
value_count is = count_by takes_value (sites is)

abbrev pub body_count : List Item → List ℕ → ℕ
body_count is fs = count_by (has_body fs) (sites is)
