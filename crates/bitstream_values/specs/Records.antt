-- What a record came to: its code, and its fields behind the fields before.
use Rattle.std.specs.Prelude.{ℕ, ◌≡◌, ◌<◌, ◌≤◌, ◌^◌, List, ◌∷◌, ◌++◌, length, All, Result, Ok, Err}
use Rattle.dx_base.specs.Cursor.{Cursor, moved}
use Rattle.bitstream_spelling.specs.Layout.{Abbreviation, AreCounted, AreSpelled, IsPlain}
use Rattle.bitstream_spelling.specs.Spelling.{first_of_all, rest_of}
use Rattle.bitstream_spelling.specs.Rules.{counted}
use Rattle.bitstream_spelling.specs.declared.operand.Operand.TheVariants.{Vbr}
use Rattle.bitstream_values.specs.Rows.{Adds, NoneSpelled}
use Rattle.bitstream_values.specs.declared.record.Coded.{Coded}
use Rattle.bitstream_values.specs.declared.row.Row.{Row}
use Rattle.bitstream_values.specs.declared.row.Row.TheVariants.{Taken, Wide, Many}
use Rattle.bitstream_values.specs.declared.row.Stop.{Stop}
use Rattle.bitstream_values.specs.declared.row.Stop.TheVariants.{Ends, OutOfMemory}

-- The values of a record, of which the first is its code and the others are its fields.
abbrev pub IsCoded : Row → ℕ → ℕ → List ℕ → List ℕ → List ℕ → ℕ → Type 0
IsCoded Taken code most fields new_fields values count =
    (first_of_all values ≡ code) × All (λ v. v < 2 ^ 64) values × (count < 2 ^ 64) × (new_fields ≡ fields ++ rest_of values) × (length new_fields ≤ most)
IsCoded Many code most fields new_fields values count =
    (first_of_all values ≡ code) × All (λ v. v < 2 ^ 64) values × (count < 2 ^ 64) × (most < length (fields ++ rest_of values))
IsCoded Wide code most fields new_fields values count = All (λ v. v < 2 ^ 64) values → count < 2 ^ 64 → ⊥

-- a record by an abbreviation was taken
pub record IsRecord (old new : Cursor) (ops : Abbreviation) (most : ℕ) (coded : Coded) (fields new_fields : List ℕ) : Type 0 where
  pub values : List ℕ
  pub lays : AreSpelled old.bytes old.start ops old.place values new.place
  pub is : IsCoded coded.row coded.code most fields new_fields values (counted ops values)
  pub moves : new ≡ moved old new.place
  pub within : new.place ≤ old.end

abbrev pub RecordAnswer : Result Coded Stop → Cursor → Cursor → Abbreviation → ℕ → List ℕ → List ℕ → Type 0
RecordAnswer (Ok coded) old new ops most fields new_fields = IsRecord old new ops most coded fields new_fields
RecordAnswer (Err Ends) old new ops most fields new_fields = NoneSpelled old ops
RecordAnswer (Err OutOfMemory) old new ops most fields new_fields = Unit {0}

-- the counted fields of a record without an abbreviation were taken
pub record AreFields (old new : Cursor) (most : ℕ) (row new_row : Row) (fields new_fields : List ℕ) : Type 0 where
  pub values : List ℕ
  pub lays : AreCounted old.bytes old.start (Vbr 6) old.place values new.place
  pub adds : Adds most row new_row fields new_fields values (length values)
  pub moves : new ≡ moved old new.place
  pub within : new.place ≤ old.end

pub record NoFields (c : Cursor) : Type 0 where
  pub none : (values : List ℕ) (after : ℕ) → AreCounted c.bytes c.start (Vbr 6) c.place values after → c.end < after

abbrev pub FieldsAnswer : Result Row Stop → Cursor → Cursor → ℕ → Row → List ℕ → List ℕ → Type 0
FieldsAnswer (Ok new_row) old new most row fields new_fields = AreFields old new most row new_row fields new_fields
FieldsAnswer (Err Ends) old new most row fields new_fields = NoFields old
FieldsAnswer (Err OutOfMemory) old new most row fields new_fields = Unit {0}

-- a record without an abbreviation was taken
pub record IsPlainRecord (old new : Cursor) (most : ℕ) (coded : Coded) (fields new_fields : List ℕ) : Type 0 where
  pub code : ℕ
  pub row : List ℕ
  pub lays : IsPlain old.bytes old.start old.place code row new.place
  pub is : IsCoded coded.row coded.code most fields new_fields (code ∷ row) (length row)
  pub moves : new ≡ moved old new.place
  pub within : new.place ≤ old.end

-- every record without an abbreviation passes the end
pub record NoPlain (c : Cursor) : Type 0 where
  pub none : (code : ℕ) (row : List ℕ) (after : ℕ) → IsPlain c.bytes c.start c.place code row after → c.end < after

abbrev pub PlainAnswer : Result Coded Stop → Cursor → Cursor → ℕ → List ℕ → List ℕ → Type 0
PlainAnswer (Ok coded) old new most fields new_fields = IsPlainRecord old new most coded fields new_fields
PlainAnswer (Err Ends) old new most fields new_fields = NoPlain old
PlainAnswer (Err OutOfMemory) old new most fields new_fields = Unit {0}
