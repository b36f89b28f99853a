-- The kinds that the operand places of a line ask.
use Rattle.std.specs.Prelude.{ℕ, ◌+◌, ◌==◌, ◌&&◌, ◌||◌, List, [], ◌∷◌, length, drop, map, slice_get, filter, Bool, true, false, not, nat_lt, if◌then◌else◌, Option, Some, None}
use Rattle.std.specs.List.{list_all}
use Rattle.dxil_form.specs.declared.op.OpKind.{OpKind}
use Rattle.llvm_types.specs.declared.kind.LlvmType.{LlvmType}
use Rattle.llvm_types.specs.declared.kind.LlvmType.TheVariants as types
use Rattle.llvm_bodies.specs.declared.line.Line.{Line}
use Rattle.profile_lines.specs.Pool.{Pool, stated}
use Rattle.profile_lines.specs.Calls.{operand, carried, operation, arguments, outcome}
use Rattle.profile_lines.specs.Values.{kind_by, call_type, is_variable}
use Rattle.profile_lines.specs.declared.call.Argument.{Argument}
use Rattle.profile_lines.specs.declared.call.Argument.TheVariants.{Number}
use Rattle.profile_lines.specs.declared.call.Outcome.{Outcome}
use Rattle.profile_lines.specs.declared.call.Outcome.TheVariants as gives
use Rattle.profile_lines.specs.declared.known.ValueKind.{ValueKind}
use Rattle.profile_lines.specs.declared.known.ValueKind.TheVariants.{Int, Bool as BoolKind, Parts, Place, Other}
use Rattle.profile_lines.specs.declared.known.ValueType.{ValueType}
use Rattle.profile_lines.specs.declared.known.ValueType.TheVariants.{Numbered}
use Rattle.profile_tables.specs.EntryBody.{EntryBody, kind_at}
use Rattle.profile_tables.specs.Kinds.{is_kind, is_plain}
use Rattle.profile_tables.specs.Places.{is_i32}
use Rattle.profile_tables.specs.Parts.{pairs_of, entries_of}

-- ---- operands

-- The value numbers of a line: the condition of a BR; the value and the cases of a SWITCH and the entries of a PHI, each of which has a block behind it; every operand of
-- any other line.
abbrev pub value_numbers : Line → List ℕ
value_numbers line =
    if line.code == 11 then drop 2 line.numbers
    else if line.code == 12 then map (λ p. p.0) (pairs_of line.numbers)
    else if line.code == 16 then map (λ p. p.0) (pairs_of line.numbers)
    else line.numbers

-- each is below the body's values
abbrev pub are_values : EntryBody → Line → Bool
are_values x line = list_all (λ v. nat_lt v x.values) (value_numbers line)

-- a type that the record carries suits the kind of its operand: i32 or i1 where that is the kind, and neither of them elsewhere
abbrev pub suits : ValueKind → ValueKind → Bool
suits kind ty = if is_plain kind then is_kind kind ty else not (is_plain ty)

-- The types that a record carries for its operands. Those of a SWITCH, a PHI and a CALL, that of a CAST's or LOAD's result and the source type of a GEP stand for no operand.
abbrev pub stands_for : Line → List (ℕ × ℕ)
stands_for line =
    if line.code == 12 then []
    else if line.code == 16 then []
    else if line.code == 34 then []
    else if line.code == 43 then drop 1 line.types
    else filter (λ p. nat_lt p.0 (length line.numbers)) line.types

abbrev pub do_types_suit : EntryBody → Line → Bool
do_types_suit x line = list_all (λ p. suits (kind_at x (operand line p.0)) (kind_by x.pool p.1)) (stands_for line)

-- the operand at a place is of this kind
abbrev pub is_of_kind : EntryBody → Line → ℕ → ValueKind → Bool
is_of_kind x line place kind = is_kind (kind_at x (operand line place)) kind

-- the operand at a place is an i32 or an i1
abbrev pub is_plain_at : EntryBody → Line → ℕ → Bool
is_plain_at x line place = is_plain (kind_at x (operand line place))

-- two operands are of one kind, i32 or i1
abbrev pub are_alike : EntryBody → Line → Bool
are_alike x line = is_plain_at x line 0 && is_kind (kind_at x (operand line 0)) (kind_at x (operand line 1))

-- ---- phis

-- the type that a PHI, a SWITCH or a CAST states
abbrev pub kind_stated : EntryBody → Option ℕ → ValueKind
kind_stated x None = Other
kind_stated x (Some ty) = kind_by x.pool ty

abbrev pub phi_kind : EntryBody → Line → ValueKind
phi_kind x line = kind_stated x (carried line 0)

abbrev pub are_entries : EntryBody → Line → Bool
are_entries x line = not (is_plain (phi_kind x line)) || list_all (λ p. is_kind (kind_at x p.0) (phi_kind x line)) (entries_of line)

-- ---- calls

abbrev pub is_struct : Option LlvmType → Bool
is_struct (Some (types.Struct fields)) = true
is_struct other = false

abbrev pub is_void : Option LlvmType → Bool
is_void (Some types.Void) = true
is_void other = false

abbrev pub is_word : Pool → Option ℕ → Bool
is_word x None = false
is_word x (Some ty) = is_i32 (slice_get x.types ty)

-- a structure that begins with four i32
abbrev pub has_parts : Pool → Option LlvmType → Bool
has_parts x (Some (types.Struct fields)) = is_word x (slice_get fields 0) && is_word x (slice_get fields 1) && is_word x (slice_get fields 2) && is_word x (slice_get fields 3)
has_parts x other = false

abbrev pub is_result : Pool → Outcome → Option LlvmType → Bool
is_result x gives.Number ty = is_i32 ty
is_result x gives.Handle ty = is_struct ty
is_result x gives.Parts ty = has_parts x ty
is_result x gives.Nothing ty = is_void ty

abbrev pub type_behind : Pool → ValueType → Option LlvmType
type_behind x (Numbered ty) = slice_get x.types ty
type_behind x other = None

-- a call has as many arguments as its operation takes behind the opcode, and the result that it gives
abbrev pub fits : Pool → Line → OpKind → Bool
fits x line op = length line.numbers == length (arguments op) + 2 && is_result x (outcome op) (type_behind x (call_type x line))

abbrev pub is_number : Argument → Bool
is_number Number = true
is_number other = false

-- the arguments from a place on that have to be i32
abbrev pub are_numbers : EntryBody → Line → ℕ → List Argument → Bool
are_numbers x line place [] = true
are_numbers x line place (a ∷ rest) = (not (is_number a) || is_of_kind x line place Int) && are_numbers x line (place + 1) rest

-- the kinds of a call's arguments are asked where it is a call of a listed operation that fits
abbrev pub are_arguments : EntryBody → Line → Option OpKind → Bool
are_arguments x line None = true
are_arguments x line (Some op) = not (fits x.pool line op) || are_numbers x line 2 (arguments op)

-- ---- by code

-- BINOP, CAST, BR, SWITCH, PHI, LOAD, EXTRACTVAL, CMP2, VSELECT, CALL, ATOMICRMW, GEP, STORE and CMPXCHG
abbrev pub are_asked : EntryBody → Line → Bool
are_asked x line =
    if line.code == 2 then are_alike x line
    else if line.code == 3 then is_plain_at x line 0
    else if line.code == 11 then (length line.numbers == 1 || is_of_kind x line 2 BoolKind)
    else if line.code == 12 then is_of_kind x line 0 Int
    else if line.code == 16 then are_entries x line
    else if line.code == 20 then is_of_kind x line 0 Place
    else if line.code == 26 then is_of_kind x line 0 Parts
    else if line.code == 28 then are_alike x line
    else if line.code == 29 then are_alike x line && is_of_kind x line 2 BoolKind
    else if line.code == 34 then are_arguments x line (operation x.pool line)
    else if line.code == 38 then is_of_kind x line 0 Place && is_of_kind x line 1 Int
    else if line.code == 43 then is_variable (stated x.pool (operand line 0))
    else if line.code == 44 then is_of_kind x line 0 Place && is_of_kind x line 1 Int
    else if line.code == 46 then is_of_kind x line 0 Place && is_of_kind x line 1 Int && is_of_kind x line 2 Int
    else true
