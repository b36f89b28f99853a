-- The metadata of a module (LLVM 3.7 bitcode file format, "METADATA_BLOCK Contents"): the record with number i is the i-th one that takes a number, over
-- all blocks of metadata.
use Rattle.std.specs.Prelude.{ℕ, ◌≡◌, ◌==◌, ◌&&◌, ◌||◌, ◌%◌, List, [], ◌∷◌, ◌++◌, get_or, map, Bool, true, false, Option, Some, None, unwrap_or, if◌then◌else◌}
use Rattle.std.specs.List.{filter}
use Rattle.llvm_items.specs.Sites.{Site, sites, is_record_of, code_of, fields_of, bit_at, ends_module}
use Rattle.bitstream_spelling.specs.declared.item.Item.{Item}
use Rattle.bitstream_spelling.specs.declared.item.Item.TheVariants.{Enter, Record, Skip, End}
use Rattle.llvm_nodes.specs.declared.item.MetaItem.{MetaItem}
use Rattle.llvm_nodes.specs.declared.item.MetaItem.TheVariants.{Text, Value, Node}
use Rattle.llvm_nodes.specs.declared.item.Named.{Named}
use Rattle.llvm_nodes.specs.declared.item.Meta.{Meta}

-- STRING, VALUE, NODE and DISTINCT_NODE take a number
abbrev pub takes_number : ℕ → Bool
takes_number code =
    if code == 1 then true
    else if code == 2 then true
    else if code == 3 then true
    else if code == 5 then true
    else false

-- NAME, KIND and NAMED_NODE take none
abbrev pub is_listed : ℕ → Bool
is_listed code = code == 4 || code == 6 || code == 10 || takes_number code

-- a character counts modulo 256
abbrev pub chars : List ℕ → List ℕ
chars fields = map (λ c. c % 256) fields

-- What a record with these fields states. The ids of a node stand plus one, with 0 for null.
unfoldable pub item_of : ℕ → List ℕ → MetaItem
item_of code fields =
    if code == 1 then Text (chars fields)
    else if code == 2 then Value (get_or fields 0 0) (get_or fields 1 0)
    else Node fields

-- a record of a block of metadata that takes a number
abbrev pub is_numbered : Site → Bool
is_numbered s = is_record_of 15 s && takes_number (code_of s.item)

abbrev pub numbered : List Item → List Site
numbered is = filter is_numbered (sites is)

abbrev pub items_of : List Item → List ℕ → List MetaItem
items_of is fs = map (λ s. item_of (code_of s.item) (fields_of fs s.item)) (numbered is)

abbrev pub bits_of : List Item → List ℕ
bits_of is = map bit_at (numbered is)

abbrev pub is_skip : Item → Bool
is_skip (Enter id width bit) = false
is_skip (Record code first count bit) = false
is_skip (Skip id words bit) = true
is_skip (End bit) = false

-- a NAME
abbrev pub is_name : Site → Bool
is_name s = is_record_of 15 s && code_of s.item == 4

-- a NAMED_NODE
abbrev pub is_named : Site → Bool
is_named s = is_record_of 15 s && code_of s.item == 10

-- The characters of the NAME that stands directly before what follows, if one does. A skipped block does not count.
abbrev pub name_after : List ℕ → Option (List ℕ) → Site → Option (List ℕ)
name_after fs name s = if is_skip s.item then name else if is_name s then Some (chars (fields_of fs s.item)) else None

abbrev pub name_behind : List ℕ → Option (List ℕ) → List Site → Option (List ℕ)
name_behind fs name [] = name
name_behind fs name (s ∷ ss) = name_behind fs (name_after fs name s) ss

-- a NAMED_NODE with the name that stands directly before it
abbrev pub named_at : List ℕ → Option (List ℕ) → Site → Named
named_at fs name s = record { name = unwrap_or name []; nodes = fields_of fs s.item; bit = bit_at s }

abbrev pub named_from : List ℕ → Option (List ℕ) → List Site → List Named
named_from fs name [] = []
named_from fs name (s ∷ ss) = (if is_named s then named_at fs name s ∷ [] else []) ++ named_from fs (name_after fs name s) ss

-- the named nodes in record order
abbrev pub named_of : List Item → List ℕ → List Named
named_of is fs = named_from fs None (sites is)

-- the bit of the module's end, behind items of which the last such end has a bit
abbrev pub end_from : ℕ → List Site → ℕ
end_from bit [] = bit
end_from bit (s ∷ ss) = end_from (if ends_module s then bit_at s else bit) ss

-- the metadata that the items state
pub record IsMeta (meta : Meta) (is : List Item) (fs : List ℕ) : Type 0 where
  pub list : meta.list ≡ items_of is fs
  pub bits : meta.bits ≡ bits_of is
  pub named : meta.named ≡ named_of is fs
  pub end : meta.end ≡ end_from 0 (sites is)
