-- A record of BLOCKINFO names a block.
use Rattle.std.specs.Prelude.{ℕ, ◌≡◌, List, ◌∷◌}
use Rattle.bitstream_spelling.specs.Spelling.{Block, naming}
use Rattle.dx_bitstream.specs.Places.{IsBlockOf}
use Rattle.dx_bitstream.specs.declared.info.Info.{Info}
use Rattle.dx_bitstream.specs.declared.reader.Open.{Open}

pub record IsNaming (old new : Open) (code : ℕ) (row : List ℕ) : Type 0 where
  pub width : new.width ≡ old.width
  pub content : new.content ≡ old.content
  pub names : (g : Info) (b : Block) → IsBlockOf g old b → IsBlockOf g new (naming b (code ∷ row))
