-- What holds of the items of every bitstream in themselves.
use Rattle.std.specs.Prelude.{ℕ, ◌≡◌, ◌+◌, ◌<◌, ◌≤◌, ◌^◌, List, [], ◌∷◌, length, take, slice_get, Option, Some, None, false, IsTrue}
use Rattle.bitstream_spelling.specs.Spelling.{reads, rest_of}
use Rattle.bitstream_spelling.specs.Rules.{records}
use Rattle.bitstream_spelling.specs.declared.item.Item.{Item}
use Rattle.bitstream_spelling.specs.declared.item.Item.TheVariants.{Enter, Record, Skip, End}

abbrev pub bit_of : Item → ℕ
bit_of (Enter id width bit) = bit
bit_of (Record code first count bit) = bit
bit_of (Skip id words bit) = bit
bit_of (End bit) = bit

-- a record's fields lie in the field list
abbrev pub LiesIn : List ℕ → Item → Type 0
LiesIn fs (Enter id width bit) = Unit {0}
LiesIn fs (Record code first count bit) = first + count ≤ length fs
LiesIn fs (Skip id words bit) = Unit {0}
LiesIn fs (End bit) = Unit {0}

-- the ids of the open blocks behind an item, from the innermost out
abbrev pub open_after : List ℕ → Item → List ℕ
open_after ids (Enter id width bit) = id ∷ ids
open_after ids (Record code first count bit) = ids
open_after ids (Skip id words bit) = ids
open_after ids (End bit) = rest_of ids

-- behind a list of items
abbrev pub open_behind : List ℕ → List Item → List ℕ
open_behind ids [] = ids
open_behind ids (i ∷ is) = open_behind (open_after ids i) is

abbrev pub innermost : List ℕ → Option ℕ
innermost [] = None
innermost (id ∷ ids) = Some id

-- some block is open
abbrev pub IsInBlock : List ℕ → Type 0
IsInBlock [] = ⊥
IsInBlock (id ∷ ids) = Unit {0}

-- A block is entered where it is read, and skipped where it is not; a record and an end stand in a block.
abbrev pub StandsIn : List ℕ → Item → Type 0
StandsIn ids (Enter id width bit) = IsTrue (reads (innermost ids) id)
StandsIn ids (Record code first count bit) = IsInBlock ids
StandsIn ids (Skip id words bit) = reads (innermost ids) id ≡ false
StandsIn ids (End bit) = IsInBlock ids

-- The module block is entered at this place of the list, outside any block, and one of its blocks or it is open up to the end of the list. No other
-- item is the entry of a block 8.
pub record IsModule (is : List Item) (at : ℕ) : Type 0 where
  pub width : ℕ
  pub bit : ℕ
  pub enters : slice_get is at ≡ Some (Enter 8 width bit)
  pub outside : open_behind [] (take at is) ≡ []
  pub inside : (i : ℕ) → at < i → i < length is → IsInBlock (open_behind [] (take i is))
  pub one : (i w b : ℕ) → slice_get is i ≡ Some (Enter 8 w b) → i ≡ at

-- Blocks nest and stand where they are read, and each has its end; the list ends with the end of its one module block; the fields of each
-- record lie in the list, the bits rise, and the numbers of records and fields are within the limits.
pub record IsFramed (is : List Item) (fs : List ℕ) : Type 0 where
  pub stands : (i : ℕ) (x : Item) → slice_get is i ≡ Some x → StandsIn (open_behind [] (take i is)) x
  pub ends : open_behind [] is ≡ []
  pub at : ℕ
  pub module_block : IsModule is at
  pub lies : (i : ℕ) (x : Item) → slice_get is i ≡ Some x → LiesIn fs x
  pub rises : (i j : ℕ) (x y : Item) → i < j → slice_get is i ≡ Some x → slice_get is j ≡ Some y → bit_of x < bit_of y
  pub few_items : length is < 2 ^ 32
  pub few_records : records is ≤ 2 ^ 22
  pub few_fields : length fs ≤ 2 ^ 24
