-- What the values of a record came to, which are read to their end whatever they are.
use Rattle.std.specs.Prelude.{ℕ, ◌≡◌, ◌<◌, ◌≤◌, ◌^◌, List, [], ◌∷◌, ◌++◌, length, All, Result, Ok, Err}
use Rattle.dx_base.specs.Cursor.{Cursor, moved}
use Rattle.bitstream_spelling.specs.Layout.{Abbreviation, aligned, IsValue, AreValues, AreSpelled}
use Rattle.bitstream_spelling.specs.Rules.{AreSound, counted as counted_of}
use Rattle.bitstream_values.specs.Numbers.{NoValue}
use Rattle.bitstream_spelling.specs.declared.operand.Operand.{Operand}
use Rattle.bitstream_spelling.specs.declared.operand.Operand.TheVariants.{Fixed, Vbr}
use Rattle.bitstream_values.specs.declared.row.Row.{Row}
use Rattle.bitstream_values.specs.declared.row.Row.TheVariants.{Taken, Wide, Many}
use Rattle.bitstream_values.specs.declared.row.Stop.{Stop}
use Rattle.bitstream_values.specs.declared.row.Stop.TheVariants.{Ends, OutOfMemory}

-- Values behind the fields before, where at most so many fields may be. `counted` is the count of an array's elements or a blob's bytes.
abbrev pub IsRow : Row → ℕ → List ℕ → List ℕ → List ℕ → ℕ → Type 0
IsRow Taken most before after values counted = All (λ v. v < 2 ^ 64) values × (counted < 2 ^ 64) × (after ≡ before ++ values) × (length after ≤ most)
IsRow Many most before after values counted = All (λ v. v < 2 ^ 64) values × (counted < 2 ^ 64) × (most < length (before ++ values))
IsRow Wide most before after values counted = All (λ v. v < 2 ^ 64) values → counted < 2 ^ 64 → ⊥

-- values were added to those before
pub record Adds (most : ℕ) (row new_row : Row) (fields new_fields values : List ℕ) (counted : ℕ) : Type 0 where
  pub adds : (before earlier : List ℕ) → IsRow row most before fields earlier 0 → IsRow new_row most before new_fields (earlier ++ values) counted

abbrev pub AddAnswer : Result Row Stop → ℕ → Row → List ℕ → List ℕ → ℕ → Type 0
AddAnswer (Ok new_row) most row fields new_fields value = Adds most row new_row fields new_fields (value ∷ []) 0
AddAnswer (Err Ends) most row fields new_fields value = ⊥
AddAnswer (Err OutOfMemory) most row fields new_fields value = Unit {0}

-- so many values by one operand were taken
pub record IsTaken (old new : Cursor) (op : Operand) (count most : ℕ) (row new_row : Row) (fields new_fields : List ℕ) : Type 0 where
  pub values : List ℕ
  pub lays : AreValues old.bytes old.start op old.place values new.place
  pub counted : length values ≡ count
  pub adds : Adds most row new_row fields new_fields values 0
  pub moves : new ≡ moved old new.place
  pub within : new.place ≤ old.end

-- every row of so many values passes the end
pub record NoRow (c : Cursor) (op : Operand) (count : ℕ) : Type 0 where
  pub none : (values : List ℕ) (after : ℕ) → AreValues c.bytes c.start op c.place values after → length values ≡ count → c.end < after

abbrev pub RowAnswer : Result Row Stop → Cursor → Cursor → Operand → ℕ → ℕ → Row → List ℕ → List ℕ → Type 0
RowAnswer (Ok new_row) old new op count most row fields new_fields = IsTaken old new op count most row new_row fields new_fields
RowAnswer (Err Ends) old new op count most row fields new_fields = NoRow old op count
RowAnswer (Err OutOfMemory) old new op count most row fields new_fields = Unit {0}

-- the values of a record by the operands were taken
pub record IsSpelled (old new : Cursor) (ops : Abbreviation) (most : ℕ) (row new_row : Row) (fields new_fields : List ℕ) : Type 0 where
  pub values : List ℕ
  pub lays : AreSpelled old.bytes old.start ops old.place values new.place
  pub adds : Adds most row new_row fields new_fields values (counted_of ops values)
  pub moves : new ≡ moved old new.place
  pub within : new.place ≤ old.end

-- whatever the operands spell passes the end
pub record NoneSpelled (c : Cursor) (ops : Abbreviation) : Type 0 where
  pub none : (values : List ℕ) (after : ℕ) → AreSpelled c.bytes c.start ops c.place values after → c.end < after

abbrev pub SpelledAnswer : Result Row Stop → Cursor → Cursor → Abbreviation → ℕ → Row → List ℕ → List ℕ → Type 0
SpelledAnswer (Ok new_row) old new ops most row fields new_fields = IsSpelled old new ops most row new_row fields new_fields
SpelledAnswer (Err Ends) old new ops most row fields new_fields = NoneSpelled old ops
SpelledAnswer (Err OutOfMemory) old new ops most row fields new_fields = Unit {0}

-- a value by the operand takes no bits
abbrev pub TakesNothing : Operand → Type 0
TakesNothing (Fixed w) = w ≡ 0
TakesNothing (Vbr w) = w ≡ 0
TakesNothing _ = ⊥

-- a row with so many values that there are too many
abbrev pub too_many_of : Row → Row
too_many_of Taken = Many
too_many_of Wide = Wide
too_many_of Many = Many

-- so many bytes between alignments
pub record AreBytes (old new : Cursor) (count most : ℕ) (row new_row : Row) (fields new_fields : List ℕ) : Type 0 where
  pub values : List ℕ
  pub ends : ℕ
  pub lays : AreValues old.bytes old.start (Fixed 8) (aligned old.start old.place) values ends
  pub place : new.place ≡ aligned old.start ends
  pub counted : length values ≡ count
  pub adds : Adds most row new_row fields new_fields values 0
  pub moves : new ≡ moved old new.place
  pub within : new.place ≤ old.end

pub record NoBytes (c : Cursor) (count : ℕ) : Type 0 where
  pub none : (values : List ℕ) (ends : ℕ) → AreValues c.bytes c.start (Fixed 8) (aligned c.start c.place) values ends → length values ≡ count → c.end < aligned c.start ends

abbrev pub BytesAnswer : Result Row Stop → Cursor → Cursor → ℕ → ℕ → Row → List ℕ → List ℕ → Type 0
BytesAnswer (Ok new_row) old new count most row fields new_fields = AreBytes old new count most row new_row fields new_fields
BytesAnswer (Err Ends) old new count most row fields new_fields = NoBytes old count
BytesAnswer (Err OutOfMemory) old new count most row fields new_fields = Unit {0}

-- one value was taken
pub record IsOne (old new : Cursor) (op : Operand) (most : ℕ) (row new_row : Row) (fields new_fields : List ℕ) : Type 0 where
  pub value : ℕ
  pub is : IsValue old.bytes old.start op old.place value new.place
  pub adds : Adds most row new_row fields new_fields (value ∷ []) 0
  pub moves : new ≡ moved old new.place
  pub within : new.place ≤ old.end

abbrev pub OneAnswer : Result Row Stop → Cursor → Cursor → Operand → ℕ → Row → List ℕ → List ℕ → Type 0
OneAnswer (Ok new_row) old new op most row fields new_fields = IsOne old new op most row new_row fields new_fields
OneAnswer (Err Ends) old new op most row fields new_fields = NoValue old op
OneAnswer (Err OutOfMemory) old new op most row fields new_fields = Unit {0}

-- Some values by the first operands were taken, and the rest of the operands is left.
pub record IsPart (old mid : Cursor) (ops rest : Abbreviation) (most : ℕ) (row mid_row : Row) (fields mid_fields : List ℕ) : Type 0 where
  pub values : List ℕ
  pub joins : (more : List ℕ) (after : ℕ) → AreSpelled mid.bytes mid.start rest mid.place more after → AreSpelled old.bytes old.start ops old.place (values ++ more) after
  pub splits : (all : List ℕ) (after : ℕ) → AreSpelled old.bytes old.start ops old.place all after → (more : List ℕ) × (all ≡ values ++ more) × AreSpelled mid.bytes mid.start rest mid.place more after
  pub counts : (more : List ℕ) → counted_of ops (values ++ more) ≡ counted_of rest more
  pub sound : AreSound rest
  pub adds : Adds most row mid_row fields mid_fields values 0
  pub moves : mid ≡ moved old mid.place
  pub within : mid.place ≤ old.end
