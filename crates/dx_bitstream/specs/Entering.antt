-- What a block's entry came to.
use Rattle.std.specs.Prelude.{ℕ, ◌≡◌, ◌+◌, Option, Some, None}
use Rattle.dx_base.specs.Bits.{num}
use Rattle.bitstream_spelling.specs.Spelling.{IsEntry}
use Rattle.bitstream_values.specs.Entries.{IsSeen}
use Rattle.bitstream_values.specs.declared.entry.Entry.{Entry}
use Rattle.bitstream_values.specs.declared.number.Seen.{Seen}
use Rattle.bitstream_values.specs.declared.number.Seen.TheVariants.{Small}
use Rattle.dx_bitstream.specs.declared.reader.Reader.{Reader}

-- an entry was taken, whose id stands at a bit
pub record IsEntryAt (r : Reader) (bit : ℕ) (e : Entry) : Type 0 where
  pub id : ℕ
  pub width : ℕ
  pub seen_id : IsSeen e.id id
  pub seen_width : IsSeen e.width width
  pub is : num r.cursor.bytes bit r.here.width ≡ 1
  pub lays : IsEntry r.cursor.bytes r.cursor.start (bit + r.here.width) id width e.words r.cursor.place

-- a number is not small
pub record NoSmall (seen : Seen) : Type 0 where
  pub none : (n : ℕ) → seen ≡ Small n → ⊥

abbrev pub SmallAnswer : Option ℕ → Seen → Type 0
SmallAnswer (Some n) seen = seen ≡ Small n
SmallAnswer None seen = NoSmall seen
