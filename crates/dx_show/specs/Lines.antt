-- The lines of a file: of its parts, and then of its items.
use Rattle.std.specs.Prelude.{ℕ, List, [], ◌∷◌, ◌++◌, ◌&&◌, map, codes, nat_le, if◌then◌else◌}
use Rattle.std.specs.List.{flat_map}
use Rattle.std.specs.Fmt.{decimal}
use Rattle.dxbc_container.specs.declared.part.Part.{Part}
use Rattle.bitstream_spelling.specs.declared.item.Item.{Item}
use Rattle.bitstream_spelling.specs.declared.item.Item.TheVariants.{Enter, Record, Skip, End}

-- a character of a name as it is, or as a dot, 46, where it is no visible one of ASCII
abbrev pub shown : ℕ → ℕ
shown c = if nat_le 0x21 c && nat_le c 0x7E then c else 46

-- `part NAME at BYTE size SIZE`; 10 is the line feed
abbrev pub part_line : Part → List ℕ
part_line p = codes "part " ++ (map shown p.name ++ (codes " at " ++ (decimal p.at ++ (codes " size " ++ (decimal p.size ++ 10 ∷ [])))))

-- a word and a block's id
abbrev pub block_line : List ℕ → ℕ → ℕ → List ℕ
block_line word id bit = word ++ (decimal id ++ (codes " bit " ++ (decimal bit ++ 10 ∷ [])))

-- `record CODE fields F bit N`
abbrev pub record_line : ℕ → ℕ → ℕ → List ℕ
record_line code count bit = codes "record " ++ (decimal code ++ (codes " fields " ++ (decimal count ++ (codes " bit " ++ (decimal bit ++ 10 ∷ [])))))

-- `block ID bit N`, a record's line, or `skip ID bit N`; a block's end has no line
abbrev pub item_line : Item → List ℕ
item_line (Enter id width bit) = block_line (codes "block ") id bit
item_line (Record code first count bit) = record_line code count bit
item_line (Skip id words bit) = block_line (codes "skip ") id bit
item_line (End bit) = []

-- the lines of the parts in their order, and then of the items
abbrev pub lines : List Part → List Item → List ℕ
lines parts is = flat_map part_line parts ++ flat_map item_line is
