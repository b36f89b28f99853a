-- Where the parts of a DXBC container stand. Bytes past the last one read as 0, so a number stands at each byte; whether it passes the end is
-- asked apart.
use Rattle.std.specs.Prelude.{ℕ, ◌≡◌, ◌+◌, ◌*◌, ◌<◌, ◌≤◌, List, [], ◌∷◌, length, get_or, slice_get, Some, codes}
use Rattle.dx_base.specs.Bits.{num}
use Rattle.dxbc_container.specs.declared.part.Part.{Part}
use Rattle.dxbc_container.specs.declared.part.Parts.{Parts}

-- The numbers of a program for compute shaders, of kind 5, in shader model 6.0, 6.1 or 6.2, as kind << 16 | major << 4 | minor.
abbrev pub IsProgram : ℕ → Type 0
IsProgram version = (0x00050060 ≤ version) × (version ≤ 0x00050062)

-- The numbers of DXIL 1.0, 1.1 and 1.2, as major << 8 | minor.
abbrev pub IsDxilVersion : ℕ → Type 0
IsDxilVersion version = (0x100 ≤ version) × (version ≤ 0x102)

-- the byte at which entry i of the offset table stands
abbrev pub entry : ℕ → ℕ
entry i = 32 + 4 * i

module _ (bytes : List ℕ) where
  -- the number of 32 bits in the four bytes from a byte on, the least significant first
  abbrev pub number : ℕ → ℕ
  number at = num bytes (8 * at) 32

  -- the four characters from a byte on
  abbrev pub characters : ℕ → List ℕ
  characters at = get_or bytes at 0 ∷ get_or bytes (at + 1) 0 ∷ get_or bytes (at + 2) 0 ∷ get_or bytes (at + 3) 0 ∷ []

  -- the version, the major number in the low half: 1.0 is 1
  abbrev pub version : ℕ
  version = number 20

  -- the container's size in bytes
  abbrev pub size : ℕ
  size = number 24

  -- the number of parts
  abbrev pub count : ℕ
  count = number 28

  -- the byte at which the offset table ends
  abbrev pub table_end : ℕ
  table_end = entry count

  -- The byte at which the header of part i stands: its name, and behind that the size of its data, which follow.
  abbrev pub header : ℕ → ℕ
  header i = number (entry i)

  -- the size of the data of the part whose header stands at a byte
  abbrev pub data_size : ℕ → ℕ
  data_size at = number (at + 4)

  -- a header stands behind the table and in the container
  pub record IsPlaced (at : ℕ) : Type 0 where
    pub behind : table_end ≤ at
    pub within : at + 8 ≤ size

  -- the part whose header stands at a byte has the name of the part that holds the shader
  pub record IsNamedDxil (at : ℕ) : Type 0 where
    pub name : characters at ≡ codes "DXIL"

  -- The six numbers that begin the data of the DXIL part whose header stands at a byte: the program's version; its size in words, which is
  -- not compared; the magic; the DXIL version; the bitcode's offset from the magic; and the bitcode's size.
  abbrev pub program_version : ℕ → ℕ
  program_version at = number (at + 8)

  abbrev pub dxil_version : ℕ → ℕ
  dxil_version at = number (at + 20)

  abbrev pub bitcode_offset : ℕ → ℕ
  bitcode_offset at = number (at + 24)

  abbrev pub bitcode_size : ℕ → ℕ
  bitcode_size at = number (at + 28)

  -- what stands at the header of part i, whose data lie in the container
  pub record IsPart (i : ℕ) (part : Part) : Type 0 where
    pub placed : IsPlaced (header i)
    pub at : part.at ≡ header i
    pub name : part.name ≡ characters (header i)
    pub size_is : part.size ≡ data_size (header i)
    pub within : header i + 8 + data_size (header i) ≤ size

  -- the data of the DXIL part whose header stands at a byte
  pub record IsShader (at : ℕ) : Type 0 where
    pub long : 24 ≤ data_size at
    pub program : IsProgram (program_version at)
    pub magic : characters (at + 16) ≡ codes "DXIL"
    pub dxil : IsDxilVersion (dxil_version at)
    pub within : 8 + bitcode_offset at + bitcode_size at ≤ data_size at

  -- The bytes carry these parts, in the order of the offset table, with one DXIL part, whose place in the list and whose bitcode are told. Parts may
  -- overlap, and one may have several entries in the table.
  pub record Carries (parts : Parts) : Type 0 where
    pub long : 32 ≤ length bytes
    pub magic : characters 0 ≡ codes "DXBC"
    pub version_is : version ≡ 1
    pub size_low : 32 ≤ size
    pub size_high : size ≤ length bytes
    pub table : table_end ≤ size
    pub counted : length parts.list ≡ count
    pub each : (i : ℕ) (part : Part) → slice_get parts.list i ≡ Some part → IsPart i part
    pub dxil_below : parts.dxil < count
    pub dxil_named : IsNamedDxil (header parts.dxil)
    pub only : (i : ℕ) → i < count → IsNamedDxil (header i) → i ≡ parts.dxil
    pub shader : IsShader (header parts.dxil)
    pub from_is : parts.from ≡ header parts.dxil + 16 + bitcode_offset (header parts.dxil)
    pub to_is : parts.to ≡ parts.from + bitcode_size (header parts.dxil)
