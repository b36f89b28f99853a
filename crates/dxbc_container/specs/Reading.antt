-- What the reading of a container answers, and what its steps have seen.
use Rattle.std.specs.Prelude.{ℕ, ◌≡◌, ◌+◌, ◌*◌, ◌^◌, ◌<◌, ◌≤◌, ◌⊎◌, List, length, slice_get, Option, Some, None, Result, Ok, Err, if◌then◌else◌, nat_lt, codes}
use Rattle.dx_base.specs.First.{IsFirst, IsSound}
use Rattle.dx_base.specs.declared.fault.Fault.{Fault}
use Rattle.dx_base.specs.declared.fault.Fault.TheVariants.{Refused, Limit, OutOfMemory}
use Rattle.dx_base.specs.declared.fault.Rule.TheVariants.{C}
use Rattle.dxbc_container.specs.declared.part.Part.{Part}
use Rattle.dxbc_container.specs.declared.part.Parts.{Parts}
use Rattle.dxbc_container.specs.declared.read.Header.{Header}
use Rattle.dxbc_container.specs.declared.read.Table.{Table}
use Rattle.dxbc_container.specs.declared.read.Broken.{Broken}
use Rattle.dxbc_container.specs.Layout.{characters, version, size, count, table_end, header, data_size, IsPlaced, IsNamedDxil, IsShader, Carries}
use Rattle.dxbc_container.specs.Rules.{IsBroken, BreaksShader, IsLong}

-- a refusal is the first broken rule, of least bit, and there of least number
abbrev pub FaultAnswer : Fault → List ℕ → Type 0
FaultAnswer (Refused (C n) bit) bytes = IsFirst (IsBroken bytes) n bit
FaultAnswer (Refused _ bit) bytes = ⊥
FaultAnswer (Limit which bit) bytes = ⊥
FaultAnswer OutOfMemory bytes = Unit {0}

-- the bytes are no container
pub record NoContainer (bytes : List ℕ) : Type 0 where
  pub none : (parts : Parts) → Carries bytes parts → ⊥

-- no other parts are carried
pub record IsOnly (bytes : List ℕ) (parts : Parts) : Type 0 where
  pub only : (others : Parts) → Carries bytes others → others ≡ parts

-- Ok exactly where the bytes carry parts, and those parts, and then no rule is broken; else the first broken rule, or want of memory.
abbrev pub ContainerAnswer : Result Parts Fault → List ℕ → Type 0
ContainerAnswer (Ok parts) bytes = Carries bytes parts × IsOnly bytes parts × IsSound (IsBroken bytes)
ContainerAnswer (Err (Refused (C n) bit)) bytes = IsFirst (IsBroken bytes) n bit × NoContainer bytes
ContainerAnswer (Err (Refused _ bit)) bytes = ⊥
ContainerAnswer (Err (Limit which bit)) bytes = ⊥
ContainerAnswer (Err OutOfMemory) bytes = Unit {0}

-- the bitcode lies in the bytes, and below 2 ^ 32
pub record LiesIn (bytes : List ℕ) (parts : Parts) : Type 0 where
  pub order : parts.from ≤ parts.to
  pub within : parts.to ≤ length bytes
  pub small : parts.to < 2 ^ 32

-- the fixed bytes break no rule
pub record IsFixedSound (bytes : List ℕ) : Type 0 where
  pub long : 32 ≤ length bytes
  pub magic : characters bytes 0 ≡ codes "DXBC"
  pub version_is : version bytes ≡ 1
  pub size_low : 32 ≤ size bytes
  pub size_high : size bytes ≤ length bytes
  pub table : table_end bytes ≤ size bytes

abbrev pub HeaderAnswer : Result Header Fault → List ℕ → Type 0
HeaderAnswer (Ok h) bytes = IsFixedSound bytes × (h.size ≡ size bytes) × (h.count ≡ count bytes)
HeaderAnswer (Err fault) bytes = FaultAnswer fault bytes

-- the numbers of part i are its header's
pub record IsHeader (bytes : List ℕ) (i : ℕ) (part : Part) : Type 0 where
  pub at : part.at ≡ header bytes i
  pub name : part.name ≡ characters bytes (header bytes i)
  pub size_is : part.size ≡ data_size bytes (header bytes i)

-- the offset of part i is at fault
pub record NotPlaced (bytes : List ℕ) (i : ℕ) : Type 0 where
  pub none : IsPlaced bytes (header bytes i) → ⊥

abbrev pub PartAnswer : Option Part → List ℕ → ℕ → Type 0
PartAnswer (Some part) bytes i = IsPlaced bytes (header bytes i) × IsHeader bytes i part
PartAnswer None bytes i = NotPlaced bytes i

-- none of the first i parts is named DXIL
pub record NoneNamed (bytes : List ℕ) (i : ℕ) : Type 0 where
  pub none : (k : ℕ) → k < i → IsNamedDxil bytes (header bytes k) → ⊥

-- of the first i parts the one with this index alone is named DXIL
pub record OneNamed (bytes : List ℕ) (i index : ℕ) : Type 0 where
  pub below : index < i
  pub named : IsNamedDxil bytes (header bytes index)
  pub only : (k : ℕ) → k < i → IsNamedDxil bytes (header bytes k) → k ≡ index

abbrev pub NamedAnswer : Option ℕ → List ℕ → ℕ → Type 0
NamedAnswer None bytes i = NoneNamed bytes i
NamedAnswer (Some index) bytes i = OneNamed bytes i index

-- the data of none of the first i parts pass the container
pub record NoneLong (bytes : List ℕ) (i : ℕ) : Type 0 where
  pub none : (k : ℕ) → k < i → IsLong bytes (header bytes k) → ⊥

-- of the first i parts whose data pass the container the least bit of a size field
pub record LeastLong (bytes : List ℕ) (i bit : ℕ) : Type 0 where
  pub index : ℕ
  pub below : index < i
  pub long : IsLong bytes (header bytes index)
  pub is : bit ≡ 8 * (header bytes index + 4)
  pub least : (k : ℕ) → k < i → IsLong bytes (header bytes k) → bit ≤ 8 * (header bytes k + 4)

abbrev pub LongAnswer : Option ℕ → List ℕ → ℕ → Type 0
LongAnswer None bytes i = NoneLong bytes i
LongAnswer (Some bit) bytes i = LeastLong bytes i bit

-- the first i parts
pub record AreParts (bytes : List ℕ) (i : ℕ) (t : Table) : Type 0 where
  pub counted : length t.list ≡ i
  pub each : (k : ℕ) (part : Part) → slice_get t.list k ≡ Some part → IsHeader bytes k part
  pub placed : (k : ℕ) → k < i → IsPlaced bytes (header bytes k)
  pub named : NamedAnswer t.dxil bytes i
  pub long : LongAnswer t.long bytes i

abbrev pub TableAnswer : Result Table Fault → List ℕ → Type 0
TableAnswer (Ok t) bytes = AreParts bytes (count bytes) t
TableAnswer (Err fault) bytes = FaultAnswer fault bytes

-- part i was taken behind those before it
abbrev pub TakeAnswer : Result (Unit {0}) Fault → List ℕ → ℕ → Table → Type 0
TakeAnswer (Ok _) bytes i t = AreParts bytes (i + 1) t
TakeAnswer (Err fault) bytes i t = FaultAnswer fault bytes

-- the lesser of a bit so far and the bit of a size field, where its data pass the container
abbrev pub lesser : Option ℕ → ℕ → ℕ
lesser None bit = bit
lesser (Some before) bit = if nat_lt before bit then before else bit

abbrev pub long_with : Option ℕ → Part → ℕ → Option ℕ
long_with before part container = if nat_lt container (part.at + 8 + part.size) then Some (lesser before (8 * (part.at + 4))) else before

-- the first rule that the data of a DXIL part break, if they do not pass the container
abbrev pub ShaderAnswer : Option Broken → List ℕ → ℕ → Type 0
ShaderAnswer (Some b) bytes at = IsFirst (BreaksShader bytes at) b.rule b.bit
ShaderAnswer None bytes at = IsLong bytes at ⊎ IsShader bytes at

-- the earlier of a part that passes the container and a rule that the DXIL part breaks, at one bit the former
abbrev pub earlier : Option ℕ → Option Broken → Option Broken
earlier None b = b
earlier (Some bit) None = Some (record { rule = 5; bit = bit })
earlier (Some bit) (Some b) = if nat_lt b.bit bit then Some b else Some (record { rule = 5; bit = bit })

abbrev pub PartsAnswer : Result Parts Fault → List ℕ → Type 0
PartsAnswer (Ok parts) bytes = Carries bytes parts
PartsAnswer (Err fault) bytes = FaultAnswer fault bytes
