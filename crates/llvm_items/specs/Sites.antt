-- Where an item stands: the blocks that are open around it.
use Rattle.std.specs.Prelude.{ℕ, ◌==◌, ◌&&◌, List, [], ◌∷◌, length, take, drop, get_or, Bool, true, false}
use Rattle.bitstream_spelling.specs.Framed.{bit_of, open_after}
use Rattle.bitstream_spelling.specs.declared.item.Item.{Item}
use Rattle.bitstream_spelling.specs.declared.item.Item.TheVariants.{Enter, Record, Skip, End}

-- an item, and the ids of the blocks that are open before it, from the innermost out
pub record Site : Type 0 where
  pub around : List ℕ
  pub item : Item

-- the items in order, each with the blocks that are open before it, behind these blocks
abbrev pub sites_from : List ℕ → List Item → List Site
sites_from around [] = []
sites_from around (i ∷ is) = record { around = around; item = i } ∷ sites_from (open_after around i) is

-- the items of a whole list
abbrev pub sites : List Item → List Site
sites is = sites_from [] is

abbrev pub bit_at : Site → ℕ
bit_at s = bit_of s.item

-- The module is the block 8 that stands in no other. Its content stands directly in it, or directly in a block of it.
abbrev pub is_module : List ℕ → Bool
is_module around = length around == 1 && get_or around 0 0 == 8

abbrev pub is_within : ℕ → List ℕ → Bool
is_within id around = length around == 2 && get_or around 0 0 == id && get_or around 1 0 == 8

-- a block of the second id, which stands directly in a block of the first id of the module, is the innermost one
abbrev pub is_inside : ℕ → ℕ → List ℕ → Bool
is_inside outer id around = length around == 3 && get_or around 0 0 == id && get_or around 1 0 == outer && get_or around 2 0 == 8

-- a record's code and its fields; 0 and none for any other item
abbrev pub code_of : Item → ℕ
code_of (Enter id width bit) = 0
code_of (Record code first count bit) = code
code_of (Skip id words bit) = 0
code_of (End bit) = 0

abbrev pub fields_of : List ℕ → Item → List ℕ
fields_of fs (Enter id width bit) = []
fields_of fs (Record code first count bit) = take count (drop first fs)
fields_of fs (Skip id words bit) = []
fields_of fs (End bit) = []

abbrev pub is_record : Item → Bool
is_record (Enter id width bit) = false
is_record (Record code first count bit) = true
is_record (Skip id words bit) = false
is_record (End bit) = false

abbrev pub is_entry : ℕ → Item → Bool
is_entry id (Enter i width bit) = i == id
is_entry id (Record code first count bit) = false
is_entry id (Skip i words bit) = false
is_entry id (End bit) = false

abbrev pub is_end : Item → Bool
is_end (Enter id width bit) = false
is_end (Record code first count bit) = false
is_end (Skip id words bit) = false
is_end (End bit) = true

-- a record that stands directly in a block of this id of the module
abbrev pub is_record_of : ℕ → Site → Bool
is_record_of id s = is_record s.item && is_within id s.around

-- the entry of a block of this id in the module
abbrev pub enters : ℕ → Site → Bool
enters id s = is_entry id s.item && is_module s.around

-- the end of the module
abbrev pub ends_module : Site → Bool
ends_module s = is_end s.item && is_module s.around

-- the end of a block of this id in the module
abbrev pub ends : ℕ → Site → Bool
ends id s = is_end s.item && is_within id s.around

-- a record that stands directly in the module
abbrev pub is_record_of_module : Site → Bool
is_record_of_module s = is_record s.item && is_module s.around

-- a record of a block of the second id that stands directly in a block of the first id of the module
abbrev pub is_record_inside : ℕ → ℕ → Site → Bool
is_record_inside outer id s = is_record s.item && is_inside outer id s.around

-- the entry of a block of the second id directly in a block of the first id of the module
abbrev pub enters_inside : ℕ → ℕ → Site → Bool
enters_inside outer id s = is_entry id s.item && is_within outer s.around
