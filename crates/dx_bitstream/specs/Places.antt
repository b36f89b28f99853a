-- A reader as the place that it has come to.
use Rattle.std.specs.Prelude.{ℕ, ◌≡◌, ◌+◌, ◌<◌, ◌≤◌, ◌^◌, List, [], ◌∷◌, ◌++◌, length, take, slice_get, Option, Some, None}
use Rattle.dx_base.specs.Bits.{num}
use Rattle.bitstream_spelling.specs.Layout.{Abbreviation}
use Rattle.bitstream_spelling.specs.Spelling.{Block, Place, given_to}
use Rattle.bitstream_spelling.specs.Rules.{records}
use Rattle.dx_bitstream.specs.Kinds.{number, id_of}
use Rattle.dx_bitstream.specs.Given.{given_of}
use Rattle.dx_bitstream.specs.declared.info.Info.{Info}
use Rattle.dx_bitstream.specs.declared.kind.BlockKind.{BlockKind}
use Rattle.dx_bitstream.specs.declared.reader.Open.{Open}
use Rattle.dx_bitstream.specs.declared.reader.Reader.{Reader}

abbrev pub given_in : Info → Option BlockKind → List Abbreviation
given_in g None = []
given_in g (Some kind) = given_of g kind

-- an open block is a block of the place
pub record IsBlockOf (g : Info) (o : Open) (b : Block) : Type 0 where
  pub id : b.id ≡ id_of o.kind
  pub width : b.width ≡ o.width
  pub enough : o.given ≤ length (given_in g o.kind)
  pub forms : b.forms ≡ take o.given (given_in g o.kind) ++ o.own
  pub named : b.named ≡ o.named
  pub words : b.words ≡ o.words
  pub bit : b.bit ≡ o.bit
  pub content : b.content ≡ o.content
  pub low : 2 ≤ o.width
  pub high : o.width ≤ 32
  pub room : o.content < 2 ^ 60

abbrev pub AreBlocksOf : Info → List Open → List Block → Type 0
AreBlocksOf g [] [] = Unit {0}
AreBlocksOf g (o ∷ os) (b ∷ bs) = IsBlockOf g o b × AreBlocksOf g os bs
AreBlocksOf g _ _ = ⊥

-- what was given to each kind of block is what was given to its id
pub record IsGivenOf (g : Info) (given : List (ℕ × Abbreviation)) : Type 0 where
  pub is : (kind : BlockKind) → given_of g kind ≡ given_to (number kind) given

-- the open blocks and what was given are those of a place
pub record IsPlaceOf (g : Info) (o : Open) (os : List Open) (p : Place) : Type 0 where
  pub here : IsBlockOf g o p.here
  pub around : AreBlocksOf g os p.around
  pub given : IsGivenOf g p.given

-- a reader has come to a place at a bit
pub record IsAt (r : Reader) (p : Place) (bit : ℕ) : Type 0 where
  pub is : IsPlaceOf r.info r.here r.around p
  pub at : p.at ≡ bit
  pub operands : p.operands ≡ r.operands
  pub count : records r.list ≡ r.records

-- what a reader keeps within bounds
pub record IsSteady (r : Reader) : Type 0 where
  pub within : r.cursor.place ≤ r.cursor.end
  pub end : r.cursor.end < 2 ^ 60
  pub low : 2 ≤ r.here.width
  pub high : r.here.width ≤ 32
  pub room : r.here.content < 2 ^ 60
  pub few_records : r.records ≤ 2 ^ 22
  pub few_fields : length r.fields + r.operands ≤ 2 ^ 24

-- the id at a bit was read
pub record IsAfterId (r : Reader) (bit id : ℕ) : Type 0 where
  pub is : num r.cursor.bytes bit r.here.width ≡ id
  pub place : r.cursor.place ≡ bit + r.here.width

-- the abbreviation of a block with a number
pub record FindAnswer (found : Option Abbreviation) (g : Info) (o : Open) (k : ℕ) : Type 0 where
  pub finds : (b : Block) → IsBlockOf g o b → slice_get b.forms k ≡ found
