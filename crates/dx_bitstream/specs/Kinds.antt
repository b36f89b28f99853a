-- The kinds of blocks that are read, and their ids.
use Rattle.std.specs.Prelude.{ℕ, ◌≡◌, Option, Some, None, true, false}
use Rattle.bitstream_spelling.specs.Spelling.{reads}
use Rattle.bitstream_values.specs.Entries.{IsSeen}
use Rattle.bitstream_values.specs.declared.number.Seen.{Seen}
use Rattle.dx_bitstream.specs.declared.kind.BlockKind.{BlockKind}
use Rattle.dx_bitstream.specs.declared.kind.BlockKind.TheVariants.{BlockInfo, Module, Constants, Function, SymbolTable, Metadata, Types}

abbrev pub number : BlockKind → ℕ
number BlockInfo = 0
number Module = 8
number Constants = 11
number Function = 12
number SymbolTable = 14
number Metadata = 15
number Types = 17

abbrev pub id_of : Option BlockKind → Option ℕ
id_of None = None
id_of (Some kind) = Some (number kind)

-- no kind has the id
pub record NoKind (id : ℕ) : Type 0 where
  pub none : (kind : BlockKind) → number kind ≡ id → ⊥

abbrev pub KindAnswer : Option BlockKind → ℕ → Type 0
KindAnswer (Some kind) id = number kind ≡ id
KindAnswer None id = NoKind id

-- the block is read
pub record IsReadKind (outer : Option BlockKind) (seen : Seen) (kind : BlockKind) : Type 0 where
  pub is : (id : ℕ) → IsSeen seen id → number kind ≡ id
  pub read : reads (id_of outer) (number kind) ≡ true

-- the block is passed over
pub record IsPassed (outer : Option BlockKind) (seen : Seen) : Type 0 where
  pub passed : (id : ℕ) → IsSeen seen id → reads (id_of outer) id ≡ false

abbrev pub ReadAnswer : Option BlockKind → Option BlockKind → Seen → Type 0
ReadAnswer (Some kind) outer seen = IsReadKind outer seen kind
ReadAnswer None outer seen = IsPassed outer seen
