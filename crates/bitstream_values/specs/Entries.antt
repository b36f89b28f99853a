-- What a block's entry came to.
use Rattle.std.specs.Prelude.{ℕ, ◌≡◌, ◌<◌, ◌≤◌, ◌^◌, Option, Some, None}
use Rattle.dx_base.specs.Cursor.{Cursor, moved}
use Rattle.bitstream_spelling.specs.Spelling.{IsEntry}
use Rattle.bitstream_values.specs.declared.entry.Entry.{Entry}
use Rattle.bitstream_values.specs.declared.number.Seen.{Seen}
use Rattle.bitstream_values.specs.declared.number.Seen.TheVariants.{Small, Large, Short}

-- a number that was seen
abbrev pub IsSeen : Seen → ℕ → Type 0
IsSeen (Small v) n = (v ≡ n) × (n < 2 ^ 64)
IsSeen Large n = 2 ^ 64 ≤ n
IsSeen Short n = ⊥

-- an entry was taken
pub record IsTaken (old new : Cursor) (e : Entry) : Type 0 where
  pub id : ℕ
  pub width : ℕ
  pub seen_id : IsSeen e.id id
  pub seen_width : IsSeen e.width width
  pub lays : IsEntry old.bytes old.start old.place id width e.words new.place
  pub moves : new ≡ moved old new.place
  pub within : new.place ≤ old.end

-- every entry passes the end
pub record NoEntry (c : Cursor) : Type 0 where
  pub none : (id width words after : ℕ) → IsEntry c.bytes c.start c.place id width words after → c.end < after

abbrev pub EntryAnswer : Option Entry → Cursor → Cursor → Type 0
EntryAnswer (Some e) old new = IsTaken old new e
EntryAnswer None old new = NoEntry old
