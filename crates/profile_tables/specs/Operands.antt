-- What the operands of a body mean in the program: constants and registers.
use Rattle.std.specs.Prelude.{ℕ, ◌%◌, ◌^◌, ◌==◌, ◌&&◌, Bool, true, false, Option, Some, None}
use Rattle.std.specs.Int.{cast_unsigned, w64}
use Rattle.dxil_form.specs.declared.value.Operand.{Operand}
use Rattle.dxil_form.specs.declared.value.Operand.TheVariants as operand
use Rattle.dxil_form.specs.declared.value.Reg.{Reg}
use Rattle.dxil_form.specs.declared.value.Ty.{Ty}
use Rattle.dxil_form.specs.declared.value.Ty.TheVariants as ty
use Rattle.llvm_values.specs.declared.global.Global.{Global}
use Rattle.llvm_values.specs.declared.global.Global.TheVariants.{Variable, Function, Constant}
use Rattle.llvm_values.specs.declared.global.ConstKind.{ConstKind}
use Rattle.llvm_values.specs.declared.global.ConstKind.TheVariants.{Null, Undef, Integer, Gep, Other}
use Rattle.profile_lines.specs.Pool.{stated}
use Rattle.profile_tables.specs.EntryBody.{EntryBody, kind_at}
use Rattle.profile_tables.specs.Kinds.{ty_of}

-- the number or truth value of an INTEGER, by its low bits
abbrev pub number_operand : Ty → ℕ → Operand
number_operand ty.Int n = operand.Int (n % 2 ^ 32)
number_operand ty.Bool n = operand.Bool (n % 2 == 1)

-- A NULL is 0 or false, and an UNDEF is undefined.
abbrev pub constant_operand : Ty → ConstKind → Operand
constant_operand t Null = number_operand t 0
constant_operand t Undef = operand.Undef t
constant_operand t (Integer number) = number_operand t (cast_unsigned w64 number)
constant_operand t (Gep source args) = operand.Undef t
constant_operand t Other = operand.Undef t

-- the register of a value: its number, and part 0
abbrev pub register : ℕ → Reg
register v = record { value = v; part = 0 }

abbrev pub operand_by : ℕ → Ty → Option Global → Operand
operand_by v t None = operand.Reg (register v) t
operand_by v t (Some (Variable ty space init bit)) = operand.Undef t
operand_by v t (Some (Function ty body name bit)) = operand.Undef t
operand_by v t (Some (Constant ty kind bit)) = constant_operand t kind

-- what the operand with a number means: a constant, or the register of an instruction's value
unfoldable pub operand_of : EntryBody → ℕ → Operand
operand_of x v = operand_by v (ty_of (kind_at x v)) (stated x.pool v)

abbrev pub is_ty : Ty → Ty → Bool
is_ty ty.Int ty.Int = true
is_ty ty.Bool ty.Bool = true
is_ty a b = false

abbrev pub is_bool : Bool → Bool → Bool
is_bool true b = b
is_bool false true = false
is_bool false false = true

-- two operands are the same
abbrev pub is_same : Operand → Operand → Bool
is_same (operand.Reg r t) (operand.Reg s u) = r.value == s.value && r.part == s.part && is_ty t u
is_same (operand.Int n) (operand.Int m) = n == m
is_same (operand.Bool a) (operand.Bool b) = is_bool a b
is_same (operand.Undef t) (operand.Undef u) = is_ty t u
is_same a b = false
