-- The law of the entry body: what the readers of a module promise of it.
use Rattle.std.specs.Prelude.{ℕ, List}
use Rattle.bitstream_spelling.specs.Framed.{IsFramed}
use Rattle.bitstream_spelling.specs.declared.item.Item.{Item}
use Rattle.llvm_shader.specs.Shader.{IsShader, AreSound}
use Rattle.llvm_shader.specs.declared.read.Shader.{Shader}
use Rattle.profile_tables.specs.Read.{IsRead}
use Rattle.entry_read.specs.Entry.{entry_body}

abbrev pub EntryIsRead : Type 0
EntryIsRead = (is : List Item) (fs : List ℕ) (shader : Shader) → IsFramed is fs → IsShader is fs shader → AreSound is fs → IsRead (entry_body shader.types shader.records shader.facts) shader.facts.local
