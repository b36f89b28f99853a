-- What stands before the instructions of a body: the types, and the values that the module and the body's constants state.
use Rattle.std.specs.Prelude.{ℕ, ◌-◌, ◌%◌, ◌^◌, ◌==◌, List, length, slice_get, Bool, false, nat_lt, if◌then◌else◌, Option, Some, None}
use Rattle.llvm_types.specs.declared.kind.LlvmType.{LlvmType}
use Rattle.llvm_values.specs.declared.global.Global.{Global}
use Rattle.llvm_values.specs.declared.global.Global.TheVariants.{Variable, Function, Constant}
use Rattle.llvm_facts.specs.Values.{width_of, bits_of}

-- the types of the module and its values, by number; the constants of the body, which have the numbers behind those of the module
pub record Pool : Type 0 where
  pub types : List LlvmType
  pub globals : List Global
  pub constants : List Global

-- the variable, function or constant with a number; None for the number of an instruction's value, or of no value
abbrev pub stated : Pool → ℕ → Option Global
stated x v = if nat_lt v (length x.globals) then slice_get x.globals v else slice_get x.constants (v - length x.globals)

-- ---- constants

-- the width of a constant's type, where it is an integer type; before the first SETTYPE it is 32
abbrev pub width : Pool → Option ℕ → Option ℕ
width x None = Some 32
width x (Some ty) = width_of (slice_get x.types ty)

-- Bits of a type of so many bits, where that is the width that is asked: they count modulo 2 to it.
abbrev pub cut : ℕ → Option ℕ → Option ℕ → Option ℕ
cut asked None bits = None
cut asked (Some of_type) None = None
cut asked (Some of_type) (Some bits) = if of_type == asked then Some (bits % 2 ^ asked) else None

abbrev pub number_in : Pool → ℕ → Option Global → Option ℕ
number_in x asked None = None
number_in x asked (Some (Variable ty space init bit)) = None
number_in x asked (Some (Function ty body name bit)) = None
number_in x asked (Some (Constant ty kind bit)) = cut asked (width x ty) (bits_of kind)

-- The number of a constant of the integer type of a width: that of an INTEGER, and 0 for a NULL. An UNDEF has none.
abbrev pub constant : Pool → ℕ → ℕ → Option ℕ
constant x asked v = number_in x asked (stated x v)

-- that of the value that an operand names, if there is an operand
abbrev pub constant_given : Pool → ℕ → Option ℕ → Option ℕ
constant_given x asked None = None
constant_given x asked (Some v) = constant x asked v

abbrev pub are_zeros : Option ℕ → Option ℕ → Bool
are_zeros None bits = false
are_zeros (Some of_type) None = false
are_zeros (Some of_type) (Some bits) = bits % 2 ^ of_type == 0

abbrev pub is_zero_in : Pool → Option Global → Bool
is_zero_in x None = false
is_zero_in x (Some (Variable ty space init bit)) = false
is_zero_in x (Some (Function ty body name bit)) = false
is_zero_in x (Some (Constant ty kind bit)) = are_zeros (width x ty) (bits_of kind)

-- a value is the constant 0 of an integer type
abbrev pub is_zero : Pool → ℕ → Bool
is_zero x v = is_zero_in x (stated x v)
