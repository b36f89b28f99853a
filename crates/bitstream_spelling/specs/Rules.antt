-- The rules and limits of the bitstream, B1 to B8, and the items that spell the bits up to a place or the whole bitstream.
use Rattle.std.specs.Prelude.{ℕ, ◌≡◌, ◌+◌, ◌*◌, ◌^◌, ◌<◌, ◌≤◌, ◌⊎◌, List, [], ◌∷◌, ◌++◌, length, Some, None, true, false, IsTrue, All, IsSome, slice_get}
use Rattle.std.specs.List.{sum_by}
use Rattle.bitstream_spelling.specs.declared.operand.Operand.{Operand}
use Rattle.bitstream_spelling.specs.declared.operand.Operand.TheVariants.{Literal, Fixed, Vbr, Array, Char6, Blob, Faulty}
use Rattle.dx_base.specs.Bits.{num}
use Rattle.bitstream_spelling.specs.Layout.{Abbreviation, Shape, closes, enters, defines, plain, by, unknown}
use Rattle.bitstream_spelling.specs.Spelling.{Block, Place, Lays, next, item, fields, operands, reach, reads, rest_of}
use Rattle.bitstream_spelling.specs.declared.item.Item.{Item}
use Rattle.bitstream_spelling.specs.declared.item.Item.TheVariants.{Record}

-- an operand that takes one value, and so may stand anywhere and be an array's element
abbrev pub IsScalar : Operand → Type 0
IsScalar (Literal n) = ⊥
IsScalar (Fixed w) = w ≤ 64
IsScalar (Vbr w) = (w ≡ 0) ⊎ ((2 ≤ w) × (w ≤ 32))
IsScalar Char6 = Unit {0}
IsScalar Array = ⊥
IsScalar Blob = ⊥
IsScalar Faulty = ⊥

abbrev pub IsPlainOperand : Operand → Type 0
IsPlainOperand (Literal n) = Unit {0}
IsPlainOperand op = IsScalar op

-- what may follow the first operand
abbrev pub AreSound : Abbreviation → Type 0
AreSound [] = Unit {0}
AreSound (Array ∷ element ∷ []) = IsScalar element
AreSound (Blob ∷ []) = Unit {0}
AreSound (op ∷ ops) = IsPlainOperand op × AreSound ops

abbrev pub IsSound : Abbreviation → Type 0
IsSound [] = ⊥
IsSound (op ∷ ops) = IsPlainOperand op × AreSound ops

-- each vbr value of a definition is below 2 ^ 64
abbrev pub IsSmallOperand : Operand → Type 0
IsSmallOperand (Literal n) = n < 2 ^ 64
IsSmallOperand (Fixed w) = w < 2 ^ 64
IsSmallOperand (Vbr w) = w < 2 ^ 64
IsSmallOperand _ = Unit {0}

-- B2: it passes the end, a skipped block's content with it
abbrev pub Within : ℕ → Place → Shape → ℕ → Type 0
Within end p shape after = reach p shape after ≤ end

-- B3: no abbreviation in force has the id
abbrev pub IsKnown : Shape → Type 0
IsKnown (unknown k) = ⊥
IsKnown _ = Unit {0}

-- B4: a definition is at fault
abbrev pub IsSoundShape : Shape → Type 0
IsSoundShape (defines ops) = IsSound ops
IsSoundShape _ = Unit {0}

-- a place that is not at the top
abbrev pub IsInside : List Block → Type 0
IsInside [] = ⊥
IsInside (outer ∷ rest) = Unit {0}

-- B5: a block's stated length is not the number of words from its content to its aligned end
abbrev pub HasStatedLength : Place → Shape → ℕ → Type 0
HasStatedLength p closes after = IsInside p.around → after ≡ p.here.content + 32 * p.here.words
HasStatedLength p _ after = Unit {0}

-- B6: in a block 0 a definition stands before the first SETBID, or a SETBID has no field
abbrev pub IsNamed : Place → Shape → Type 0
IsNamed p (defines ops) = p.here.id ≡ Some 0 → IsSome p.here.named
IsNamed p (plain code row) = p.here.id ≡ Some 0 → code ≡ 1 → row ≡ [] → ⊥
IsNamed p (by k values) = p.here.id ≡ Some 0 → values ≡ 1 ∷ [] → ⊥
IsNamed p _ = Unit {0}

-- the count of the elements of an array or of the bytes of a blob, in a record by an abbreviation
abbrev pub counted : Abbreviation → List ℕ → ℕ
counted [] values = 0
counted (Array ∷ ops) values = length values
counted (Blob ∷ ops) values = length values
counted (op ∷ ops) values = counted ops (rest_of values)

-- B7: a variable bit rate number is 2 ^ 64 or more
abbrev pub IsSmall : Place → Shape → Type 0
IsSmall p (enters id width words) = (id < 2 ^ 64) × (width < 2 ^ 64)
IsSmall p (defines ops) = (length ops < 2 ^ 64) × All IsSmallOperand ops
IsSmall p (plain code row) = (code < 2 ^ 64) × (length row < 2 ^ 64) × All (λ v. v < 2 ^ 64) row
IsSmall p (by k values) = All (λ v. v < 2 ^ 64) values × ((form : Abbreviation) → slice_get p.here.forms k ≡ Some form → counted form values < 2 ^ 64)
IsSmall p _ = Unit {0}

-- B8: at the top no block's entry stands, or a block that is read has a width that is not 2 to 32
abbrev pub StandsRight : Place → Shape → Type 0
StandsRight p (enters id width words) = IsTrue (reads p.here.id id) → (2 ≤ width) × (width ≤ 32)
StandsRight p _ = IsInside p.around

-- None of the rules B2 to B8 is broken by what stands at a place. Each field says that one rule's sentence does not hold.
pub record IsFine (end : ℕ) (p : Place) (shape : Shape) (after : ℕ) : Type 0 where
  pub b2 : Within end p shape after
  pub b3 : IsKnown shape
  pub b4 : IsSoundShape shape
  pub b5 : HasStatedLength p shape after
  pub b6 : IsNamed p shape
  pub b7 : IsSmall p shape
  pub b8 : StandsRight p shape

abbrev pub is_record : Item → ℕ
is_record (Record code first count bit) = 1
is_record _ = 0

-- how many records there are
abbrev pub records : List Item → ℕ
records is = sum_by is_record is

-- at most so many records, and at most so many fields of records and operands of definitions
pub record AreWithin (p : Place) (is : List Item) (fs : List ℕ) : Type 0 where
  pub records_few : records is ≤ 2 ^ 22
  pub fields_few : length fs + p.operands ≤ 2 ^ 24

-- Which rule is broken by what stands at a place behind items and fields and does not pass the end, and at which bit. Behind the rules come the
-- limits: number 9 is that of records, and 10 that of fields.
pub data Breaks (p : Place) (is : List Item) (fs : List ℕ) (shape : Shape) (after : ℕ) : ℕ → ℕ → Type 0 where
  b3 : (IsKnown shape → ⊥) → Breaks p is fs shape after 3 p.at
  b4 : (IsSoundShape shape → ⊥) → Breaks p is fs shape after 4 p.at
  b5 : (HasStatedLength p shape after → ⊥) → Breaks p is fs shape after 5 p.here.bit
  b6 : (IsNamed p shape → ⊥) → Breaks p is fs shape after 6 p.at
  b7 : (IsSmall p shape → ⊥) → Breaks p is fs shape after 7 p.at
  b8 : (StandsRight p shape → ⊥) → Breaks p is fs shape after 8 p.at
  too_many_records : 2 ^ 22 < records (is ++ item p shape (length fs)) → Breaks p is fs shape after 9 p.at
  too_many_fields : 2 ^ 24 < length (fs ++ fields shape) + (p.operands + operands shape) → Breaks p is fs shape after 10 p.at

module _ (bytes : List ℕ) (start end : ℕ) where
  abbrev pub top : Block
  top = record { id = None; width = 2; forms = []; named = None; words = 0; bit = start; content = start }

  abbrev pub beginning : Place
  beginning = record { at = start + 32; here = top; around = []; given = []; operands = 0; over = false }

  -- the magic stands at the start
  abbrev pub HasMagic : Type 0
  HasMagic = (start + 32 ≤ end) × (num bytes start 32 ≡ 0xDEC04342)

  -- A front: the items and fields that spell the bits up to a place, with open blocks allowed, and break no rule.
  pub data IsFront : Place → List Item → List ℕ → Type 0 where
    begins : HasMagic → IsFront beginning [] []
    goes_on : {p : Place} {is : List Item} {fs : List ℕ} {shape : Shape} {after : ℕ} → IsFront p is fs → p.over ≡ false → Lays bytes start p shape after
        → IsFine end p shape after → IsFront (next p shape after) (is ++ item p shape (length fs)) (fs ++ fields shape)

  -- the items and fields of the whole bitstream: the front at which the first block 8 has ended, within the limits
  pub record IsWhole (is : List Item) (fs : List ℕ) : Type 0 where
    pub place : Place
    pub front : IsFront place is fs
    pub over : place.over ≡ true
    pub few : AreWithin place is fs

  -- a front within the limits that is not the whole bitstream
  pub record IsOpen (p : Place) (is : List Item) (fs : List ℕ) : Type 0 where
    pub front : IsFront p is fs
    pub going : p.over ≡ false
    pub few : AreWithin p is fs

  -- B2: whatever stands at a place passes the end
  pub record PassesEnd (p : Place) : Type 0 where
    pub none : (shape : Shape) (after : ℕ) → Lays bytes start p shape after → Within end p shape after → ⊥

  -- Layer B: a rule that is broken or a limit that is passed, at a bit. B1: the magic is missing. The other rules are asked behind fronts within the
  -- limits: behind a passed limit no bit is the least. So B5 is asked only where a block's content is whole and breaks nothing.
  pub data IsBroken : ℕ → ℕ → Type 0 where
    no_magic : (HasMagic → ⊥) → IsBroken 1 start
    too_short : (p : Place) (is : List Item) (fs : List ℕ) → IsOpen p is fs → PassesEnd p → IsBroken 2 p.at
    by_rule : {rule bit : ℕ} (p : Place) (is : List Item) (fs : List ℕ) (shape : Shape) (after : ℕ) → IsOpen p is fs → Lays bytes start p shape after → Within end p shape after
        → Breaks p is fs shape after rule bit → IsBroken rule bit
