-- What the reading of a file answers.
use Rattle.std.specs.Prelude.{ℕ, ◌≡◌, List, Result, Ok, Err}
use Rattle.dx_base.specs.declared.fault.Fault.{Fault}
use Rattle.dx_base.specs.declared.fault.Fault.TheVariants.{Refused, Limit, OutOfMemory}
use Rattle.dxbc_container.specs.declared.part.Parts.{Parts}
use Rattle.bitstream_spelling.specs.declared.item.Item.{Item}
use Rattle.dx_file.specs.Layers.{Refusal, refused, limited, IsContent, IsFirstRefusal}
use Rattle.dx_file.specs.declared.read.File.{File}

-- nothing of the layers is broken, and no limit is passed
pub record NoRefusal (bytes : List ℕ) : Type 0 where
  pub none : (refusal : Refusal) → IsFirstRefusal bytes refusal → ⊥

-- the file has no content
pub record NoContent (bytes : List ℕ) : Type 0 where
  pub none : (parts : Parts) (is : List Item) (fs : List ℕ) → IsContent bytes parts is fs → ⊥

-- the first refusal, and no content
pub record IsRefused (bytes : List ℕ) (refusal : Refusal) : Type 0 where
  pub first : IsFirstRefusal bytes refusal
  pub nothing : NoContent bytes

-- every content of the file is this one
pub record IsOnly (bytes : List ℕ) (file : File) : Type 0 where
  pub only : (parts : Parts) (is : List Item) (fs : List ℕ) → IsContent bytes parts is fs → (parts ≡ file.parts) × (is ≡ file.items.list) × (fs ≡ file.items.fields)

-- what a fault says of the file
abbrev pub FaultAnswer : Fault → List ℕ → Type 0
FaultAnswer (Refused rule bit) bytes = IsRefused bytes (refused rule bit)
FaultAnswer (Limit which bit) bytes = IsRefused bytes (limited which bit)
FaultAnswer OutOfMemory bytes = Unit {0}

-- Ok exactly where the file has a content, and that content; else the first refusal, or want of memory.
abbrev pub FileAnswer : Result File Fault → List ℕ → Type 0
FileAnswer (Ok file) bytes = IsContent bytes file.parts file.items.list file.items.fields × NoRefusal bytes
FileAnswer (Err fault) bytes = FaultAnswer fault bytes
