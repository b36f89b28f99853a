-- What an operand of a definition came to.
use Rattle.std.specs.Prelude.{ℕ, ◌≡◌, ◌<◌, ◌≤◌, ◌^◌, ◌-◌, ◌==◌, Bool, true, false, Option, Some, None, if◌then◌else◌}
use Rattle.dx_base.specs.Cursor.{Cursor, moved}
use Rattle.bitstream_spelling.specs.Layout.{IsWritten}
use Rattle.bitstream_spelling.specs.Rules.{IsSmallOperand}
use Rattle.bitstream_spelling.specs.declared.operand.Operand.{Operand}
use Rattle.bitstream_spelling.specs.declared.operand.Operand.TheVariants.{Literal, Fixed, Vbr, Array, Char6, Blob, Faulty}
use Rattle.bitstream_values.specs.declared.definition.Given.{Given}
use Rattle.bitstream_values.specs.declared.number.Seen.{Seen}
use Rattle.bitstream_values.specs.declared.number.Seen.TheVariants.{Small, Large, Short}

-- the operand with a number that was seen
abbrev pub made : (ℕ → Operand) → Seen → Option Given
made form (Small v) = Some (record { operand = form v; wide = false })
made form Large = Some (record { operand = form (2 ^ 64 - 1); wide = true })
made form Short = None

-- the operand of an encoding without a width
abbrev pub encoded : ℕ → Operand
encoded n = if n == 3 then Array else if n == 4 then Char6 else if n == 5 then Blob else Faulty

-- an operand whose number is 2 ^ 64 or more, kept with the greatest number below that
abbrev pub IsWide : Operand → Operand → Type 0
IsWide (Literal v) op = (n : ℕ) × (op ≡ Literal n) × (2 ^ 64 ≤ n) × (v ≡ 2 ^ 64 - 1)
IsWide (Fixed v) op = (n : ℕ) × (op ≡ Fixed n) × (2 ^ 64 ≤ n) × (v ≡ 2 ^ 64 - 1)
IsWide (Vbr v) op = (n : ℕ) × (op ≡ Vbr n) × (2 ^ 64 ≤ n) × (v ≡ 2 ^ 64 - 1)
IsWide _ op = ⊥

abbrev pub IsGiven : Operand → Bool → Operand → Type 0
IsGiven kept false op = (kept ≡ op) × IsSmallOperand op
IsGiven kept true op = IsWide kept op

-- an operand was taken
pub record IsOperand (old new : Cursor) (given : Given) : Type 0 where
  pub operand : Operand
  pub lays : IsWritten old.bytes old.start old.place operand new.place
  pub is : IsGiven given.operand given.wide operand
  pub moves : new ≡ moved old new.place
  pub within : new.place ≤ old.end

-- every operand passes the end
pub record NoOperand (c : Cursor) : Type 0 where
  pub none : (op : Operand) (after : ℕ) → IsWritten c.bytes c.start c.place op after → c.end < after

abbrev pub GivenAnswer : Option Given → Cursor → Cursor → Type 0
GivenAnswer (Some given) old new = IsOperand old new given
GivenAnswer None old new = NoOperand old
