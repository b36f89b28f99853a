-- What a number or a value came to, which is read to its end whatever it is.
use Rattle.std.specs.Prelude.{ℕ, ◌≡◌, ◌<◌, ◌≤◌, ◌^◌}
use Rattle.dx_base.specs.Bits.{IsVbr}
use Rattle.dx_base.specs.Cursor.{Cursor, moved, NoVbr}
use Rattle.bitstream_spelling.specs.Layout.{IsValue}
use Rattle.bitstream_spelling.specs.declared.operand.Operand.{Operand}
use Rattle.bitstream_values.specs.declared.number.Seen.{Seen}
use Rattle.bitstream_values.specs.declared.number.Seen.TheVariants.{Small, Large, Short}

abbrev pub SeenAnswer : Seen → Cursor → Cursor → ℕ → Type 0
SeenAnswer (Small n) old new w = (after : ℕ) × IsVbr old.bytes w old.place n after × (after ≤ old.end) × (new ≡ moved old after) × (n < 2 ^ 64)
SeenAnswer Large old new w = (after n : ℕ) × IsVbr old.bytes w old.place n after × (after ≤ old.end) × (new ≡ moved old after) × (2 ^ 64 ≤ n)
SeenAnswer Short old new w = NoVbr old.bytes old.end old.place w

-- every value by the operand passes the end
pub record NoValue (c : Cursor) (op : Operand) : Type 0 where
  pub none : (n after : ℕ) → IsValue c.bytes c.start op c.place n after → c.end < after

abbrev pub ValueAnswer : Seen → Cursor → Cursor → Operand → Type 0
ValueAnswer (Small n) old new op = (after : ℕ) × IsValue old.bytes old.start op old.place n after × (after ≤ old.end) × (new ≡ moved old after) × (n < 2 ^ 64)
ValueAnswer Large old new op = (after n : ℕ) × IsValue old.bytes old.start op old.place n after × (after ≤ old.end) × (new ≡ moved old after) × (2 ^ 64 ≤ n)
ValueAnswer Short old new op = NoValue old op
