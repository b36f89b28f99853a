-- What a cursor over bits is, and what its reads answer.
use Rattle.std.specs.Prelude.{ℕ, ◌≡◌, ◌+◌, ◌-◌, ◌*◌, ◌/◌, ◌^◌, ◌<◌, ◌≤◌, List, Option, Some, None}
use Rattle.dx_base.specs.Bits.{num, char6, IsVbr}
use Rattle.dx_base.specs.declared.bits.Vbr.{Vbr}
use Rattle.dx_base.specs.declared.bits.Chunks.{Chunks}
use Rattle.dx_base.specs.declared.bits.Chunks.TheVariants as chunks
use Rattle.dx_base.specs.declared.bits.Vbr.TheVariants.{Value, End, Wide}

-- a place between a start and an end, in bits of a byte list
pub record Cursor : Type 0 where
  pub bytes : List ℕ
  pub start : ℕ
  pub place : ℕ
  pub end : ℕ

-- the same cursor at another place
abbrev pub moved : Cursor → ℕ → Cursor
moved c place = record c { place = place }

-- the least multiple of 32 bits from the start that is not before the place
abbrev pub aligned : Cursor → ℕ
aligned c = c.start + (c.place - c.start + 31) / 32 * 32

abbrev pub FixedAnswer : Option ℕ → Cursor → Cursor → ℕ → Type 0
FixedAnswer (Some n) old new w = (old.place + w ≤ old.end) × (n ≡ num old.bytes old.place w) × (new ≡ moved old (old.place + w))
FixedAnswer None old new w = (old.end < old.place + w) × (new ≡ old)

abbrev pub Char6Answer : Option ℕ → Cursor → Cursor → Type 0
Char6Answer (Some c) old new = (old.place + 6 ≤ old.end) × (c ≡ char6 (num old.bytes old.place 6)) × (new ≡ moved old (old.place + 6))
Char6Answer None old new = (old.end < old.place + 6) × (new ≡ old)

abbrev pub AlignAnswer : Option (Unit {0}) → Cursor → Cursor → Type 0
AlignAnswer (Some _) old new = (aligned old ≤ old.end) × (new ≡ moved old (aligned old))
AlignAnswer None old new = (old.end < aligned old) × (new ≡ old)

-- a move by so many bits
abbrev pub ForwardAnswer : Option (Unit {0}) → Cursor → Cursor → ℕ → Type 0
ForwardAnswer (Some _) old new bits = (old.place + bits ≤ old.end) × (new ≡ moved old (old.place + bits))
ForwardAnswer None old new bits = (old.end < old.place + bits) × (new ≡ old)

-- every vbr of width w at bit i passes the end
pub record NoVbr (bytes : List ℕ) (end i w : ℕ) : Type 0 where
  pub none : (n after : ℕ) → IsVbr bytes w i n after → end < after

abbrev pub VbrAnswer : Vbr → Cursor → Cursor → ℕ → Type 0
VbrAnswer (Value n) old new w = (after : ℕ) × IsVbr old.bytes w old.place n after × (after ≤ old.end) × (new ≡ moved old after)
VbrAnswer End old new w = NoVbr old.bytes old.end old.place w × (new ≡ old)
VbrAnswer Wide old new w = (n : ℕ) × (after : ℕ) × IsVbr old.bytes w old.place n after × (after ≤ old.end) × (2 ^ 64 ≤ n) × (new ≡ old)

abbrev pub PassAnswer : Option (Unit {0}) → Cursor → Cursor → ℕ → Type 0
PassAnswer (Some _) old new w = (n after : ℕ) × IsVbr old.bytes w old.place n after × (after ≤ old.end) × (new ≡ moved old after)
PassAnswer None old new w = NoVbr old.bytes old.end old.place w × (new ≡ old)

-- a number that is kept while it is below 2 ^ 64
abbrev pub IsValue : Option ℕ → ℕ → Type 0
IsValue (Some v) n = v ≡ n
IsValue None n = 2 ^ 64 ≤ n

-- the same of a function over the bytes
abbrev pub ChunksAnswer : Chunks → List ℕ → ℕ → ℕ → ℕ → Type 0
ChunksAnswer (chunks.Value n after) bytes from end w = IsVbr bytes w from n after × (after ≤ end)
ChunksAnswer chunks.End bytes from end w = NoVbr bytes end from w
ChunksAnswer (chunks.Wide after) bytes from end w = (n : ℕ) × IsVbr bytes w from n after × (after ≤ end) × (2 ^ 64 ≤ n)
