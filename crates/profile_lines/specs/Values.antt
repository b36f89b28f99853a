-- The LLVM types and the kinds of the values of a body, by number.
use Rattle.std.specs.Prelude.{ℕ, ◌==◌, List, [], ◌∷◌, ◌++◌, length, get_or, slice_get, drop, map, Bool, true, false, nat_lt, if◌then◌else◌, Option, Some, None, fold}
use Rattle.dxil_form.specs.declared.op.OpKind.{OpKind}
use Rattle.llvm_types.specs.declared.kind.LlvmType.{LlvmType}
use Rattle.llvm_types.specs.declared.kind.LlvmType.TheVariants as types
use Rattle.llvm_bodies.specs.declared.line.Line.{Line}
use Rattle.llvm_values.specs.declared.global.Global.{Global}
use Rattle.llvm_values.specs.declared.global.Global.TheVariants.{Variable, Function, Constant}
use Rattle.llvm_values.specs.declared.global.ConstKind.{ConstKind}
use Rattle.llvm_values.specs.declared.global.ConstKind.TheVariants.{Null, Undef, Integer, Gep, Other as OtherConstant}
use Rattle.profile_lines.specs.Pool.{Pool, stated, constant}
use Rattle.profile_lines.specs.Calls.{operand, carried, operation, outcome}
use Rattle.profile_lines.specs.Setters.{setter_in}
use Rattle.profile_lines.specs.declared.call.Outcome.{Outcome}
use Rattle.profile_lines.specs.declared.call.Outcome.TheVariants as gives
use Rattle.profile_lines.specs.declared.known.ValueKind.{ValueKind}
use Rattle.profile_lines.specs.declared.known.ValueKind.TheVariants.{Int, Bool as BoolKind, Handle, Parts, Place, Other}
use Rattle.profile_lines.specs.declared.known.ValueType.{ValueType}
use Rattle.profile_lines.specs.declared.known.ValueType.TheVariants.{Numbered, Word, Flag, Pointer, Exchanged, Unknown}
use Rattle.profile_lines.specs.declared.known.Known.{Known}

-- ---- types

-- i32, i1, or another type
abbrev pub kind_of_width : ℕ → ValueKind
kind_of_width width = if width == 32 then Int else if width == 1 then BoolKind else Other

abbrev pub kind_of_type : Option LlvmType → ValueKind
kind_of_type (Some (types.Integer width)) = kind_of_width width
kind_of_type other = Other

-- the kind of the values of a type, by the type's number
abbrev pub kind_by : Pool → ℕ → ValueKind
kind_by x ty = kind_of_type (slice_get x.types ty)

abbrev pub kind_in : Pool → ValueType → ValueKind
kind_in x (Numbered ty) = kind_by x ty
kind_in x Word = Int
kind_in x Flag = BoolKind
kind_in x (Pointer ty) = Other
kind_in x Exchanged = Other
kind_in x Unknown = Other

-- the type with a number, if the record states one
abbrev pub numbered : Option ℕ → ValueType
numbered None = Unknown
numbered (Some ty) = Numbered ty

-- the type of a constant, which is i32 before the first SETTYPE
abbrev pub constant_type : Option ℕ → ValueType
constant_type None = Word
constant_type (Some ty) = Numbered ty

-- what a pointer points to
abbrev pub pointee_in : Option LlvmType → ValueType
pointee_in (Some (types.Pointer to space)) = Numbered to
pointee_in other = Unknown

abbrev pub pointee : Pool → ValueType → ValueType
pointee x (Numbered ty) = pointee_in (slice_get x.types ty)
pointee x (Pointer ty) = Numbered ty
pointee x other = Unknown

-- a member of a structure or an array
abbrev pub member_in : Option LlvmType → ℕ → ValueType
member_in (Some (types.Struct fields)) n = numbered (slice_get fields n)
member_in (Some (types.Array count of)) n = Numbered of
member_in other n = Unknown

-- What a CMPXCHG gives has two members: an i32, which it has to compare, and an i1.
abbrev pub member : Pool → ValueType → ℕ → ValueType
member x (Numbered ty) n = member_in (slice_get x.types ty) n
member x Exchanged n = if n == 0 then Word else if n == 1 then Flag else Unknown
member x other n = Unknown

-- what an EXTRACTVAL takes: member by member
abbrev pub members : Pool → ValueType → List ℕ → ValueType
members x ty ns = fold (member x) ty ns

-- what an index of a GEP goes into: an element, or the member of a structure that a constant tells
abbrev pub element_in : Option LlvmType → Option ℕ → Option ℕ
element_in (Some (types.Array count of)) n = Some of
element_in (Some (types.Vector count of)) n = Some of
element_in (Some (types.Struct fields)) (Some n) = slice_get fields n
element_in other n = None

abbrev pub element : Pool → Option ℕ → ℕ → Option ℕ
element x None v = None
element x (Some ty) v = element_in (slice_get x.types ty) (constant x 32 v)

abbrev pub elements : Pool → Option ℕ → List ℕ → Option ℕ
elements x ty vs = fold (element x) ty vs

abbrev pub pointer_to : Option ℕ → ValueType
pointer_to None = Unknown
pointer_to (Some ty) = Pointer ty

-- a compare of vectors gives a vector
abbrev pub compared_in : Option LlvmType → ValueType
compared_in (Some (types.Vector count of)) = Unknown
compared_in other = Flag

abbrev pub compared : Pool → ValueType → ValueType
compared x (Numbered ty) = compared_in (slice_get x.types ty)
compared x other = Flag

-- the result of a function type
abbrev pub result_in : Option LlvmType → ValueType
result_in (Some (types.Function vararg ret params)) = Numbered ret
result_in other = Unknown

abbrev pub function_type : Option Global → Option ℕ
function_type (Some (Function ty body name bit)) = Some ty
function_type other = None

abbrev pub result_by : Pool → Option ℕ → ValueType
result_by x None = Unknown
result_by x (Some ty) = result_in (slice_get x.types ty)

-- a CALL has the type that it states, or that of its callee
abbrev pub first_some : Option ℕ → Option ℕ → Option ℕ
first_some None other = other
first_some (Some ty) other = Some ty

abbrev pub call_type : Pool → Line → ValueType
call_type x line = result_by x (first_some (carried line 0) (function_type (stated x (operand line 0))))

-- ---- values that stand before the instructions

abbrev pub unknown : Known
unknown = record { ty = Unknown; kind = Other }

abbrev pub is_variable : Option Global → Bool
is_variable (Some (Variable ty space init bit)) = true
is_variable other = false

-- a constant GEP on a variable of the module is a place; NULL, UNDEF and INTEGER have their type's kind
abbrev pub constant_kind : Pool → Option ℕ → ConstKind → ValueKind
constant_kind x ty Null = kind_in x (constant_type ty)
constant_kind x ty Undef = kind_in x (constant_type ty)
constant_kind x ty (Integer number) = kind_in x (constant_type ty)
constant_kind x ty (Gep source args) = if is_variable (stated x (get_or args 0 (0, 0)).1) then Place else Other
constant_kind x ty OtherConstant = Other

abbrev pub known_of : Pool → Global → Known
known_of x (Variable ty space init bit) = record { ty = Pointer ty; kind = Place }
known_of x (Function ty body name bit) = record { ty = Pointer ty; kind = Other }
known_of x (Constant ty kind bit) = record { ty = constant_type ty; kind = constant_kind x ty kind }

-- ---- values of instructions

-- The type of an operand: that of its value, where this stands before the line; else the one that the record carries.
abbrev pub operand_type : List Known → Line → ℕ → ValueType
operand_type known line place = if nat_lt (operand line place) (length known) then (get_or known (operand line place) unknown).ty else numbered (carried line place)

-- a LOAD states its type, or has the one that its pointer points to
abbrev pub load_type : Pool → List Known → Line → Option ℕ → ValueType
load_type x known line None = pointee x (operand_type known line 0)
load_type x known line (Some ty) = Numbered ty

-- What a line gives that an EXTRACTVAL before it names: the result of a CALL or of a CMPXCHG.
abbrev pub given_type : Pool → Option Line → ValueType
given_type x None = Unknown
given_type x (Some line) = if line.code == 34 then call_type x line else if line.code == 46 then Exchanged else Unknown

module _ (x : Pool) (all : List Line) (values : ℕ) (known : List Known) (line : Line) where
  -- The operand of an EXTRACTVAL has the type of its value, also where this stands behind the line; what the record carries decides nothing.
  abbrev pub source_type : ValueType
  source_type = if nat_lt (operand line 0) (length known) then (get_or known (operand line 0) unknown).ty else given_type x (setter_in all values (operand line 0))

  -- An ATOMICRMW gives what its value is: an i32 where this stands behind the line.
  abbrev pub atomic_type : ValueType
  atomic_type = if nat_lt (operand line 1) (length known) then (get_or known (operand line 1) unknown).ty else Word

  -- The LLVM type of what a line gives: BINOP, CAST, PHI, LOAD, EXTRACTVAL, CMP2, VSELECT, CALL, ATOMICRMW, GEP, CMPXCHG.
  abbrev pub line_type : ValueType
  line_type =
      if line.code == 2 then operand_type known line 0
      else if line.code == 3 then numbered (carried line 1)
      else if line.code == 16 then numbered (carried line 0)
      else if line.code == 20 then load_type x known line (carried line 1)
      else if line.code == 26 then members x source_type line.plain
      else if line.code == 28 then compared x (operand_type known line 0)
      else if line.code == 29 then operand_type known line 0
      else if line.code == 34 then call_type x line
      else if line.code == 38 then atomic_type
      else if line.code == 43 then pointer_to (elements x (carried line 0) (drop 2 line.numbers))
      else if line.code == 46 then Exchanged
      else Unknown

abbrev pub kind_of_outcome : Outcome → ValueKind
kind_of_outcome gives.Number = Int
kind_of_outcome gives.Handle = Handle
kind_of_outcome gives.Parts = Parts
kind_of_outcome gives.Nothing = Other

-- a CALL has the kind of its operation's result
abbrev pub kind_of_call : Option OpKind → ValueKind
kind_of_call None = Other
kind_of_call (Some op) = kind_of_outcome (outcome op)

-- A GEP on a variable of the module is a place, and a CMPXCHG has parts; any other line but a CALL has the kind of its type.
abbrev pub line_kind : Pool → ValueType → Line → ValueKind
line_kind x ty line =
    if line.code == 34 then kind_of_call (operation x line)
    else if line.code == 43 then (if is_variable (stated x (operand line 0)) then Place else kind_in x ty)
    else if line.code == 46 then Parts
    else kind_in x ty

module _ (x : Pool) (all : List Line) (values : ℕ) where
  abbrev pub known_line : List Known → Line → Known
  known_line known line = record { ty = line_type x all values known line; kind = line_kind x (line_type x all values known line) line }

  -- ---- the values by number

  abbrev pub with_value : List Known → Line → Option ℕ → List Known
  with_value known line None = known
  with_value known line (Some v) = known ++ known_line known line ∷ []

  -- the values behind some lines: each line that gives one adds it
  abbrev pub known_from : List Known → List Line → List Known
  known_from known [] = known
  known_from known (line ∷ lines) = known_from (with_value known line line.value) lines

-- The values of a body, of which there are so many, by number: those of the module, the constants of the body, and those of the lines.
unfoldable pub known_values : Pool → ℕ → List Line → List Known
known_values x values lines = known_from x lines values (map (known_of x) x.globals ++ map (known_of x) x.constants) lines
