-- What BLOCKINFO gave to the blocks of each kind.
use Rattle.std.specs.Prelude.{◌≡◌, List, [], ◌∷◌, ◌++◌}
use Rattle.bitstream_spelling.specs.Layout.{Abbreviation}
use Rattle.dx_bitstream.specs.declared.info.Info.{Info}
use Rattle.dx_bitstream.specs.declared.kind.BlockKind.{BlockKind}
use Rattle.dx_bitstream.specs.declared.kind.BlockKind.TheVariants.{BlockInfo, Module, Constants, Function, SymbolTable, Metadata, Types}

abbrev pub given_of : Info → BlockKind → List Abbreviation
given_of g BlockInfo = g.info
given_of g Module = g.module
given_of g Constants = g.constants
given_of g Function = g.function
given_of g SymbolTable = g.symbols
given_of g Metadata = g.metadata
given_of g Types = g.types

-- one more abbreviation was given to the blocks of a kind
pub record IsGivenTo (old new : Info) (kind : BlockKind) (form : Abbreviation) : Type 0 where
  pub more : given_of new kind ≡ given_of old kind ++ form ∷ []
  pub others : (other : BlockKind) → (other ≡ kind → ⊥) → given_of new other ≡ given_of old other
