-- The groupshared variables that a body names, and the places in them.
use Rattle.std.specs.Prelude.{ℕ, ◌-◌, ◌==◌, ◌&&◌, List, length, get_or, slice_get, Bool, true, false, nat_lt, if◌then◌else◌, Option, Some, None, is_some, unwrap_or, filter}
use Rattle.std.specs.List.{list_any, sum_by, count_by, range_with_len}
use Rattle.llvm_types.specs.declared.kind.LlvmType.{LlvmType}
use Rattle.llvm_types.specs.declared.kind.LlvmType.TheVariants as types
use Rattle.llvm_bodies.specs.declared.line.Line.{Line}
use Rattle.llvm_values.specs.declared.global.Global.{Global}
use Rattle.llvm_values.specs.declared.global.Global.TheVariants.{Variable, Function, Constant}
use Rattle.llvm_values.specs.declared.global.ConstKind.TheVariants.{Undef, Gep}
use Rattle.profile_lines.specs.Pool.{Pool, stated, is_zero}
use Rattle.profile_lines.specs.Calls.{operand, carried}
use Rattle.profile_lines.specs.Values.{is_variable}
use Rattle.profile_lines.specs.declared.known.ValueKind.TheVariants.{Int}
use Rattle.profile_tables.specs.EntryBody.{EntryBody, kind_at, setter}
use Rattle.profile_tables.specs.Kinds.{is_kind}
use Rattle.profile_tables.specs.declared.place.Place.{Place}

-- ---- variables

abbrev pub is_i32 : Option LlvmType → Bool
is_i32 (Some (types.Integer width)) = width == 32
is_i32 other = false

-- how many elements an array of i32 has
abbrev pub array_in : List LlvmType → Option LlvmType → Option ℕ
array_in all (Some (types.Array count of)) = if is_i32 (slice_get all of) then Some count else None
array_in all other = None

abbrev pub array_of : List LlvmType → ℕ → Option ℕ
array_of all ty = array_in all (slice_get all ty)

abbrev pub at_least_one : Option ℕ → Option ℕ
at_least_one None = None
at_least_one (Some count) = if nat_lt 0 count then Some count else None

-- the words of a variable, which is an i32 or an array of at least one i32
abbrev pub words_of : List LlvmType → ℕ → Option ℕ
words_of all ty = if is_i32 (slice_get all ty) then Some 1 else at_least_one (array_of all ty)

abbrev pub words_in : List LlvmType → Option Global → ℕ
words_in all (Some (Variable ty space init bit)) = unwrap_or (words_of all ty) 0
words_in all other = 0

abbrev pub words_at : Pool → ℕ → ℕ
words_at x v = words_in x.types (slice_get x.globals v)

abbrev pub is_undef : Option Global → Bool
is_undef (Some (Constant ty Undef bit)) = true
is_undef other = false

-- an initializer, if there is one, is undef
abbrev pub may_begin_with : List Global → Option ℕ → Bool
may_begin_with globals None = true
may_begin_with globals (Some v) = is_undef (slice_get globals v)

-- A variable is of space 3, an i32 or an array of at least one i32, and has no initializer but undef.
abbrev pub is_shared : Pool → Option Global → Bool
is_shared x (Some (Variable ty space init bit)) = space == 3 && is_some (words_of x.types ty) && may_begin_with x.globals init
is_shared x other = false

-- ---- places

abbrev pub type_of_variable : Option Global → Option ℕ
type_of_variable (Some (Variable ty space init bit)) = Some ty
type_of_variable other = None

abbrev pub are_same_arrays : Option ℕ → Option ℕ → Bool
are_same_arrays None other = false
are_same_arrays (Some n) None = false
are_same_arrays (Some n) (Some m) = n == m

-- the source type of a GEP is the array type of its variable; a constant GEP without a source type counts as one with it
abbrev pub is_source : List LlvmType → ℕ → Option ℕ → Bool
is_source all ty None = is_some (array_of all ty)
is_source all ty (Some source) = are_same_arrays (array_of all ty) (array_of all source)

abbrev pub has_source : List LlvmType → Option ℕ → Option ℕ → Bool
has_source all None source = false
has_source all (Some ty) source = is_source all ty source

-- A GEP on a variable is sound where the variable is, its source type is the variable's array type, and its indices, of which there are so many, are a constant zero
-- and an i32.
abbrev pub is_sound : EntryBody → ℕ → Option ℕ → ℕ → ℕ → ℕ → Bool
is_sound x variable source count first second =
    is_shared x.pool (stated x.pool variable)
    && has_source x.pool.types (type_of_variable (stated x.pool variable)) source
    && count == 2 && is_zero x.pool first && is_kind (kind_at x second) Int

-- the place that a GEP makes, where its base is a variable; its index is the value that it gives
abbrev pub place_at : EntryBody → Line → Place
place_at x line = record {
  variable = operand line 0;
  index = line.value;
  sound = is_sound x (operand line 0) (carried line 0) (length line.numbers - 1) (operand line 1) (operand line 2);
}

abbrev pub place_made : EntryBody → Line → Option Place
place_made x line = if is_variable (stated x.pool (operand line 0)) then Some (place_at x line) else None

-- The place of a constant GEP; its index is its second index, which is a constant like every operand of a constant.
abbrev pub argument_of : List (ℕ × ℕ) → ℕ → ℕ
argument_of args n = (get_or args n (0, 0)).1

abbrev pub constant_place_at : EntryBody → Option ℕ → List (ℕ × ℕ) → Place
constant_place_at x source args = record {
  variable = argument_of args 0;
  index = Some (argument_of args 2);
  sound = is_some (stated x.pool (argument_of args 2)) && is_sound x (argument_of args 0) source (length args - 1) (argument_of args 1) (argument_of args 2);
}

abbrev pub constant_place : EntryBody → Option ℕ → List (ℕ × ℕ) → Option Place
constant_place x source args = if is_variable (stated x.pool (argument_of args 0)) then Some (constant_place_at x source args) else None

abbrev pub place_set : EntryBody → Option Line → Option Place
place_set x None = None
place_set x (Some line) = if line.code == 43 then place_made x line else None

abbrev pub place_by : EntryBody → ℕ → Option Global → Option Place
place_by x v None = place_set x (setter x v)
place_by x v (Some (Variable ty space init bit)) = Some (record { variable = v; index = None; sound = is_shared x.pool (stated x.pool v) })
place_by x v (Some (Function ty body name bit)) = None
place_by x v (Some (Constant ty (Gep source args) bit)) = constant_place x source args
place_by x v (Some (Constant ty _ bit)) = None

-- The place that a value is: a variable itself, whose index is none, a constant GEP on one, or a GEP on one.
unfoldable pub place_of : EntryBody → ℕ → Option Place
place_of x v = place_by x v (stated x.pool v)

-- LOAD, ATOMICRMW, STORE and CMPXCHG name a place by their first operand
abbrev pub accesses : ℕ → Bool
accesses code =
    if code == 20 then true
    else if code == 38 then true
    else if code == 44 then true
    else if code == 46 then true
    else false

-- the place that a line names: a GEP its own
unfoldable pub place_named : EntryBody → Line → Option Place
place_named x line =
    if line.code == 43 then place_made x line
    else if accesses line.code then place_of x (operand line 0)
    else None

-- ---- the variables of a body

abbrev pub is_of : ℕ → Option Place → Bool
is_of v None = false
is_of v (Some place) = place.variable == v

abbrev pub names : EntryBody → ℕ → Line → Bool
names x v line = is_of v (place_named x line)

abbrev pub is_named_by : EntryBody → List Line → ℕ → Bool
is_named_by x lines v = list_any (names x v) lines

-- the words of the groupshared variables that some lines name
abbrev pub words_named : EntryBody → List Line → ℕ
words_named x lines = sum_by (λ v. if is_named_by x lines v then words_at x.pool v else 0) (range_with_len 0 (length x.pool.globals))

-- the variables that the body names, in module order
abbrev pub variables : EntryBody → List ℕ
variables x = filter (is_named_by x x.lines) (range_with_len 0 (length x.pool.globals))

-- the place of a variable among them
abbrev pub place_among : EntryBody → ℕ → ℕ
place_among x v = count_by (is_named_by x x.lines) (range_with_len 0 v)
