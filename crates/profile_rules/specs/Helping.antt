-- Words of the rules' code.
use Rattle.std.specs.Prelude.{ℕ, ◌≤◌, Bool, true, false, if◌then◌else◌, Option, Some, None}
use Rattle.dxil_form.specs.declared.value.Operand.{Operand}
use Rattle.profile_tables.specs.Operands.{is_same}
use Rattle.profile_lines.specs.declared.call.Argument.{Argument}
use Rattle.profile_lines.specs.declared.call.Argument.TheVariants.{Handle, Number, Constant}

-- a constant argument has at most 32 bits
abbrev pub IsSmall : Argument → Type 0
IsSmall Handle = Unit {0}
IsSmall Number = Unit {0}
IsSmall (Constant width) = width ≤ 32

-- a number is one of those that were seen
abbrev pub hits : (ℕ → Bool) → Option ℕ → Bool
hits seen None = false
hits seen (Some n) = seen n

-- an operand is that of the first entry of its block, where there was one
abbrev pub agrees_with : Option Operand → Operand → Bool
agrees_with None operand = true
agrees_with (Some first) operand = is_same first operand

-- the first operand of a block; an entry of the block is one more
abbrev pub first_kept : Option Operand → Bool → Operand → Option Operand
first_kept (Some first) here operand = Some first
first_kept None here operand = if here then Some operand else None
