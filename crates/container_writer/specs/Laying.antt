-- The bytes of a container piece by piece.
use Rattle.std.specs.Prelude.{ℕ, ◌+◌, ◌/◌, List, [], ◌∷◌, ◌++◌, length, replicate, codes}
use Rattle.std.specs.List.{flat_map}
use Rattle.std.specs.Int.{to_le_bytes, w32}
use Rattle.dxbc_container.specs.Layout.{entry}
use Rattle.container_writer.specs.declared.part.NewPart.{NewPart}
use Rattle.container_writer.specs.Writing.{room, container_size}

-- a number in four bytes, the least significant first
unfoldable pub word : ℕ → List ℕ
word n = to_le_bytes w32 n

-- a part's name, size and data
unfoldable pub part_bytes : NewPart → List ℕ
part_bytes part = part.name ++ (word (length part.content) ++ part.content)

-- the places of parts that stand one behind the other from a byte on
abbrev pub places_from : ℕ → List NewPart → List ℕ
places_from at [] = []
places_from at (part ∷ parts) = at ∷ places_from (at + room part) parts

-- the six numbers before the bitcode, of which the second is the size of the data in words
unfoldable pub shader_head : ℕ → ℕ → List ℕ
shader_head minor size = word (0x00050060 + minor) ++ (word ((size + 27) / 4) ++ (codes "DXIL" ++ (word (0x100 + minor) ++ (word 16 ++ word size))))

abbrev pub shader_part : ℕ → List ℕ → NewPart
shader_part minor bitcode = record { name = codes "DXIL"; content = shader_head minor (length bitcode) ++ bitcode }

unfoldable pub fixed : ℕ → ℕ → List ℕ
fixed size count = codes "DXBC" ++ (replicate 16 0 ++ (word 1 ++ (word size ++ word count)))

abbrev pub all_parts : ℕ → List NewPart → List ℕ → List NewPart
all_parts minor others bitcode = others ++ shader_part minor bitcode ∷ []

-- the whole container
abbrev pub container : ℕ → List NewPart → List ℕ → List ℕ
container minor others bitcode =
    fixed (container_size others bitcode) (length others + 1)
    ++ (flat_map word (places_from (entry (length others + 1)) (all_parts minor others bitcode)) ++ flat_map part_bytes (all_parts minor others bitcode))
