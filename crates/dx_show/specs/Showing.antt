-- What the lines of a file are.
use Rattle.std.specs.Prelude.{ℕ, ◌≡◌, List, Result, Ok, Err}
use Rattle.dx_base.specs.declared.fault.Fault.{Fault}
use Rattle.dxbc_container.specs.declared.part.Parts.{Parts}
use Rattle.bitstream_spelling.specs.declared.item.Item.{Item}
use Rattle.dx_file.specs.Layers.{IsContent}
use Rattle.dx_file.specs.Reading.{FaultAnswer}
use Rattle.dx_show.specs.Lines.{lines}

-- the text is the lines of the file's parts and items
pub record IsShown (bytes text : List ℕ) : Type 0 where
  pub parts : Parts
  pub is : List Item
  pub fs : List ℕ
  pub content : IsContent bytes parts is fs
  pub text_is : text ≡ lines parts.list is

abbrev pub ShowAnswer : Result (List ℕ) Fault → List ℕ → Type 0
ShowAnswer (Ok text) bytes = IsShown bytes text
ShowAnswer (Err fault) bytes = FaultAnswer fault bytes
