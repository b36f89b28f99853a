-- The rules of the records that make a module's values, M1 to M6: which of them is broken, at which bit. Where several are, the one of least bit
-- counts, and at one bit the one of least number. Fields that are missing read as 0.
use Rattle.std.specs.Prelude.{ℕ, ◌+◌, ◌==◌, ◌&&◌, ◌||◌, List, [], ◌∷◌, length, drop, slice_get, Bool, true, false, not, nat_lt, if◌then◌else◌, Option, Some, None}
use Rattle.std.specs.List.{list_any}
use Rattle.bitstream_spelling.specs.declared.item.Item.{Item}
use Rattle.dx_base.specs.First.{IsBroken}
use Rattle.dx_base.specs.Sentences.{Stated}
use Rattle.llvm_items.specs.Sites.{Site, sites, is_end, is_record, is_record_of, is_record_of_module, enters, enters_inside, ends_module, code_of, fields_of, bit_at}
use Rattle.llvm_types.specs.Types.{types_of}
use Rattle.llvm_types.specs.declared.kind.LlvmType.{LlvmType}
use Rattle.llvm_types.specs.declared.kind.LlvmType.TheVariants.{Integer, Pointer, Function}
use Rattle.llvm_values.specs.declared.rule.State.{State}
use Rattle.llvm_values.specs.Values.{field_of, has_own_type, is_of_constants, sets_type, since, states_function, states_variable, type_behind}

-- ---- types by number

abbrev pub is_integer : Option LlvmType → Bool
is_integer (Some (Integer width)) = true
is_integer other = false

abbrev pub is_pointer : Option LlvmType → Bool
is_pointer (Some (Pointer to space)) = true
is_pointer other = false

abbrev pub is_function : Option LlvmType → Bool
is_function (Some (Function vararg ret params)) = true
is_function other = false

-- a function type, or a pointer to one
abbrev pub leads_to_function : List LlvmType → Option LlvmType → Bool
leads_to_function types (Some (Function vararg ret params)) = true
leads_to_function types (Some (Pointer to space)) = is_function (slice_get types to)
leads_to_function types other = false

-- the type that a block of constants has set is an integer; before the first SETTYPE it is i32
abbrev pub sets_integer : List LlvmType → Option ℕ → Bool
sets_integer types (Some ty) = is_integer (slice_get types ty)
sets_integer types None = true

-- ---- places

-- VERSION
abbrev pub is_version : Site → Bool
is_version s = is_record_of_module s && code_of s.item == 1

-- GLOBALVAR and FUNCTION
abbrev pub is_global : Site → Bool
is_global s = states_variable s || states_function s

-- a record of a body but DECLAREBLOCKS and the two debug places
abbrev pub is_instruction : Site → Bool
is_instruction s = is_record_of 12 s && not (code_of s.item == 1 || code_of s.item == 33 || code_of s.item == 35)

abbrev pub states_integer : Site → Bool
states_integer s = is_of_constants s && code_of s.item == 4

-- A record of a block of constants takes a number unless it is a SETTYPE. No block in it is read, so what stands behind its entry is its content up
-- to the first end.
abbrev pub numbers_one : Item → Bool
numbers_one item = is_record item && not (code_of item == 1)

abbrev pub numbers_some : List Item → Bool
numbers_some [] = false
numbers_some (i ∷ is) = if is_end i then false else (numbers_one i || numbers_some is)

-- What stands before a place, as far as the rules ask: a VERSION, a body, an instruction of the last body; and the type that the constants have.
abbrev pub state_behind : List ℕ → List Site → State
state_behind fs before = record {
  versioned = list_any is_version before;
  bodied = list_any (enters 12) before;
  instructed = list_any is_instruction (since (enters 12) before);
  ty = type_behind fs before;
}

-- ---- the rules

-- M1: the first VERSION is not 1, or the module ends and has none.
abbrev pub m1 : List ℕ → State → Site → Bool
m1 fs state s = not state.versioned && ((is_version s && not (field_of fs s.item 0 == 1)) || ends_module s)

-- M2: the code of a record of the module is 0, 9 or above 13.
abbrev pub m2 : Site → Bool
m2 s = is_record_of_module s && (code_of s.item == 0 || code_of s.item == 9 || nat_lt 13 (code_of s.item))

-- M3: a GLOBALVAR or FUNCTION has fewer than three fields.
abbrev pub m3 : List ℕ → Site → Bool
m3 fs s = is_global s && nat_lt (length (fields_of fs s.item)) 3

-- M4: the type of a GLOBALVAR is no type number, or neither its own nor a pointer; that of a FUNCTION is neither a function type nor a pointer to one.
abbrev pub suits_variable : List LlvmType → ℕ → List ℕ → Bool
suits_variable types ty fields = nat_lt ty (length types) && (has_own_type fields || is_pointer (slice_get types ty))

abbrev pub suits_function : List LlvmType → ℕ → Bool
suits_function types ty = leads_to_function types (slice_get types ty)

abbrev pub m4 : List ℕ → List LlvmType → Site → Bool
m4 fs types s = (states_variable s && not (suits_variable types (field_of fs s.item 0) (fields_of fs s.item))) || (states_function s && not (suits_function types (field_of fs s.item 0)))

-- M5: a SETTYPE has no field or no type number, or an INTEGER has no field or a type that is not an integer.
abbrev pub m5 : List ℕ → List LlvmType → State → Site → Bool
m5 fs types state s =
    (sets_type s && not (nat_lt 0 (length (fields_of fs s.item)) && nat_lt (field_of fs s.item 0) (length types)))
    || (states_integer s && not (nat_lt 0 (length (fields_of fs s.item)) && sets_integer types state.ty))

-- M6: a GLOBALVAR or FUNCTION stands behind the first body, or a block of constants of the module does that numbers a value, or a block of constants
-- of a body behind an instruction of it. The items behind the place are `behind`.
abbrev pub m6 : State → List Item → Site → Bool
m6 state behind s = (state.bodied && (is_global s || (enters 11 s && numbers_some behind))) || (state.instructed && enters_inside 12 11 s)

abbrev pub tests : List ℕ → List LlvmType → State → List Item → Site → List Bool
tests fs types state behind s = m1 fs state s ∷ m2 s ∷ m3 fs s ∷ m4 fs types s ∷ m5 fs types state s ∷ m6 state behind s ∷ []

-- the sentences at a place behind these sites of the items
abbrev pub sentences : List Item → List ℕ → List LlvmType → List Site → Site → List Bool
sentences is fs types before s = tests fs types (state_behind fs before) (drop (length before + 1) is) s

-- A rule is broken at a bit of a file's items.
abbrev pub Broken : List Item → List ℕ → ℕ → ℕ → Type 0
Broken is fs rule bit = IsBroken bit_at (Stated (sentences is fs (types_of is fs))) (sites is) rule bit
