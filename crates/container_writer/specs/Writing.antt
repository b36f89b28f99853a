-- What a written container is.
use Rattle.std.specs.Prelude.{ℕ, ◌≡◌, ◌+◌, List, length, take, drop, replicate, slice_get, Some}
use Rattle.std.specs.List.{sum_by}
use Rattle.dxbc_container.specs.Layout.{entry, header, size, program_version, dxil_version, bitcode_offset, bitcode_size, Carries}
use Rattle.dxbc_container.specs.declared.part.Part.{Part}
use Rattle.dxbc_container.specs.declared.part.Parts.{Parts}
use Rattle.container_writer.specs.declared.part.NewPart.{NewPart}

-- the eight bytes of a part's header and its data
abbrev pub room : NewPart → ℕ
room part = 8 + length part.content

-- The bytes of a container of these parts and the DXIL part: the fixed bytes, the offset table, the parts, and behind the last part's header its six
-- numbers and the bitcode.
abbrev pub container_size : List NewPart → List ℕ → ℕ
container_size others bitcode = entry (length others + 1) + sum_by room others + 32 + length bitcode

-- the bytes from a byte on begin with a list
abbrev pub Holds : List ℕ → ℕ → List ℕ → Type 0
Holds bytes at content = take (length content) (drop at bytes) ≡ content

-- a part of a container has the name, the size and the data of a part that was to be written
pub record IsCopy (bytes : List ℕ) (part : Part) (new : NewPart) : Type 0 where
  pub name : part.name ≡ new.name
  pub size_is : part.size ≡ length new.content
  pub content : Holds bytes (part.at + 8) new.content

-- The bytes are a container of the other parts in their order and behind them the DXIL part with the bitcode. The parts stand one behind the other,
-- from the table's end to the last byte.
pub record IsWritten (minor : ℕ) (others : List NewPart) (bitcode bytes : List ℕ) : Type 0 where
  pub parts : Parts
  pub carries : Carries bytes parts
  pub counted : length parts.list ≡ length others + 1
  pub long : length bytes ≡ container_size others bitcode
  pub size_is : size bytes ≡ length bytes
  pub digest : Holds bytes 4 (replicate 16 0)
  pub each : (i : ℕ) (new : NewPart) → slice_get others i ≡ Some new → (part : Part) × (slice_get parts.list i ≡ Some part) × IsCopy bytes part new
  pub places : (i : ℕ) (part : Part) → slice_get parts.list i ≡ Some part → part.at ≡ entry (length others + 1) + sum_by room (take i others)
  pub last : parts.dxil ≡ length others
  pub program : program_version bytes (header bytes parts.dxil) ≡ 0x00050060 + minor
  pub dxil : dxil_version bytes (header bytes parts.dxil) ≡ 0x100 + minor
  pub offset : bitcode_offset bytes (header bytes parts.dxil) ≡ 16
  pub bitcode_long : bitcode_size bytes (header bytes parts.dxil) ≡ length bitcode
  pub bitcode_is : Holds bytes parts.from bitcode
