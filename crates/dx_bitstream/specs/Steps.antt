-- What one step of a reader is.
use Rattle.std.specs.Prelude.{ℕ, ◌≡◌, ◌+◌, ◌-◌, ◌<◌, ◌≤◌, ◌^◌, List, [], ◌∷◌, ◌++◌, length, All, Bool, false, Some, Result, Ok, Err}
use Rattle.dx_base.specs.declared.fault.Fault.{Fault}
use Rattle.dx_base.specs.declared.fault.Fault.TheVariants.{Refused, Limit, OutOfMemory}
use Rattle.dx_base.specs.declared.fault.Rule.TheVariants.{B}
use Rattle.dx_base.specs.declared.fault.Which.TheVariants.{Records, Fields}
use Rattle.bitstream_spelling.specs.Layout.{Shape}
use Rattle.bitstream_spelling.specs.Spelling.{Place, Lays, next, item, fields as fields_of, operands as operands_of, naming, reach, first_of_all, rest_of}
use Rattle.bitstream_spelling.specs.Rules.{IsKnown, IsSoundShape, IsInside, HasStatedLength, IsNamed, IsSmall, StandsRight, Within, IsFine, Breaks, IsOpen, IsWhole, PassesEnd}
use Rattle.bitstream_spelling.specs.declared.item.Item.{Item}
use Rattle.bitstream_spelling.specs.declared.item.Item.TheVariants.{Record}
use Rattle.bitstream_values.specs.Records.{IsCoded}
use Rattle.bitstream_values.specs.declared.record.Coded.{Coded}
use Rattle.bitstream_values.specs.declared.row.Row.TheVariants.{Taken}
use Rattle.dx_bitstream.specs.Answers.{ItemsAnswer}
use Rattle.dx_bitstream.specs.Places.{IsAt, IsSteady}
use Rattle.dx_bitstream.specs.declared.reader.Reader.{Reader}

module _ (bytes : List ℕ) (start end : ℕ) (p : Place) (is : List Item) (fs : List ℕ) where
  -- what stands at a place does not pass the end, and this is the least rule that it breaks or limit that it passes
  pub record IsLeast (rule bit : ℕ) : Type 0 where
    pub shape : Shape
    pub after : ℕ
    pub lays : Lays bytes start p shape after
    pub within : Within end p shape after
    pub breaks : Breaks p is fs shape after rule bit
    pub least : (other at : ℕ) → Breaks p is fs shape after other at → (bit ≡ at) × (rule ≤ other)

  -- the reading ends at a place with this rule or limit
  pub data Halts : ℕ → ℕ → Type 0 where
    short : PassesEnd bytes start end p → Halts 2 p.at
    least : {rule bit : ℕ} → IsLeast rule bit → Halts rule bit

abbrev pub HaltAnswer : Fault → Reader → Place → Type 0
HaltAnswer (Refused (B n) bit) r p = (n ≤ 8) × Halts r.cursor.bytes r.cursor.start r.cursor.end p r.list r.fields n bit
HaltAnswer (Refused _ bit) r p = ⊥
HaltAnswer (Limit Records bit) r p = Halts r.cursor.bytes r.cursor.start r.cursor.end p r.list r.fields 9 bit
HaltAnswer (Limit Fields bit) r p = Halts r.cursor.bytes r.cursor.start r.cursor.end p r.list r.fields 10 bit
HaltAnswer (Limit _ bit) r p = ⊥
HaltAnswer OutOfMemory r p = Unit {0}

-- the same bits
pub record IsSameRead (old new : Reader) : Type 0 where
  pub bytes : new.cursor.bytes ≡ old.cursor.bytes
  pub start : new.cursor.start ≡ old.cursor.start
  pub end : new.cursor.end ≡ old.cursor.end

-- the reader took what stands at a place
pub record IsStep (old : Reader) (p : Place) (new : Reader) (over : Bool) : Type 0 where
  pub shape : Shape
  pub after : ℕ
  pub lays : Lays old.cursor.bytes old.cursor.start p shape after
  pub fine : IsFine old.cursor.end p shape after
  pub at : IsAt new (next p shape after) new.cursor.place
  pub ends : (next p shape after).over ≡ over
  pub list : new.list ≡ old.list ++ item p shape (length old.fields)
  pub fields : new.fields ≡ old.fields ++ fields_of shape
  pub steady : IsSteady new

-- the reader took what stands at a bit, whichever place it has come to
pub record IsStepped (old : Reader) (bit : ℕ) (new : Reader) (over : Bool) : Type 0 where
  pub same : IsSameRead old new
  pub forward : bit < new.cursor.place
  pub within : new.cursor.place ≤ new.cursor.end
  pub steps : (p : Place) → IsAt old p bit → p.over ≡ false → IsStep old p new over

-- the reading ends there
pub record NoStep (old : Reader) (bit : ℕ) (fault : Fault) : Type 0 where
  pub halts : (p : Place) → IsAt old p bit → p.over ≡ false → HaltAnswer fault old p

abbrev pub StepAnswer : Result Bool Fault → Reader → ℕ → Reader → Type 0
StepAnswer (Ok over) old bit new = IsStepped old bit new over
StepAnswer (Err OutOfMemory) old bit new = Unit {0}
StepAnswer (Err fault) old bit new = NoStep old bit fault

-- a record, by an abbreviation or without one, with its values
pub record IsRecordOf (p : Place) (shape : Shape) (values : List ℕ) (count : ℕ) : Type 0 where
  pub known : IsKnown shape
  pub sound : IsSoundShape shape
  pub stated : (after : ℕ) → HasStatedLength p shape after
  pub reached : (after : ℕ) → reach p shape after ≡ after
  pub named : (p.here.id ≡ Some 0 → values ≡ 1 ∷ [] → ⊥) → IsNamed p shape
  pub unnamed : IsNamed p shape → p.here.id ≡ Some 0 → values ≡ 1 ∷ [] → ⊥
  pub small : All (λ v. v < 2 ^ 64) values → count < 2 ^ 64 → IsSmall p shape
  pub all_small : IsSmall p shape → All (λ v. v < 2 ^ 64) values × (count < 2 ^ 64)
  pub right : IsInside p.around → StandsRight p shape
  pub inside : StandsRight p shape → IsInside p.around
  pub is_item : (before : ℕ) → item p shape before ≡ Record (first_of_all values) before (length (rest_of values)) p.at ∷ []
  pub is_next : (after : ℕ) → next p shape after ≡ record p { at = after; here = naming p.here values }
  pub are_fields : fields_of shape ≡ rest_of values
  pub no_operands : operands_of shape ≡ 0
  pub some : (code : ℕ) (row : List ℕ) → first_of_all values ≡ code → rest_of values ≡ row → values ≡ code ∷ row
  pub few : count ≤ length values

-- a record was taken at a place
pub record IsRecordAt (old : Reader) (p : Place) (new : Reader) (coded : Coded) : Type 0 where
  pub shape : Shape
  pub values : List ℕ
  pub count : ℕ
  pub lays : Lays old.cursor.bytes old.cursor.start p shape new.cursor.place
  pub is : IsRecordOf p shape values count
  pub coded_is : IsCoded coded.row coded.code (2 ^ 24 - old.operands) old.fields new.fields values count

-- a record was taken, and nothing but its fields was added to the reader
pub record IsRecordTaken (old : Reader) (bit : ℕ) (new : Reader) (coded : Coded) : Type 0 where
  pub same : IsSameRead old new
  pub forward : bit < new.cursor.place
  pub within : new.cursor.place ≤ new.cursor.end
  pub here : new.here ≡ old.here
  pub around : new.around ≡ old.around
  pub info : new.info ≡ old.info
  pub operands : new.operands ≡ old.operands
  pub records : new.records ≡ old.records
  pub list : new.list ≡ old.list
  pub grows : coded.row ≡ Taken → (length old.fields ≤ length new.fields) × (length new.fields + old.operands ≤ 2 ^ 24)
  pub stands : (p : Place) → IsAt old p bit → IsRecordAt old p new coded

abbrev pub TakenAnswer : Result Coded Fault → Reader → ℕ → Reader → Type 0
TakenAnswer (Ok coded) old bit new = IsRecordTaken old bit new coded
TakenAnswer (Err OutOfMemory) old bit new = Unit {0}
TakenAnswer (Err fault) old bit new = NoStep old bit fault

-- the reader stands behind items that spell the bits up to its place
pub record IsAtFront (r : Reader) : Type 0 where
  pub place : Place
  pub at : IsAt r place r.cursor.place
  pub front : IsOpen r.cursor.bytes r.cursor.start r.cursor.end place r.list r.fields
  pub steady : IsSteady r

abbrev pub WholeAnswer : Result (Unit {0}) Fault → Reader → Reader → Type 0
WholeAnswer (Ok _) old new = IsWhole old.cursor.bytes old.cursor.start old.cursor.end new.list new.fields
WholeAnswer (Err fault) old new = ItemsAnswer (Err fault) old.cursor.bytes old.cursor.start old.cursor.end
