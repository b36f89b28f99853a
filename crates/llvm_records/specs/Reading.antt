-- What the reader of a module's records answers.
use Rattle.std.specs.Prelude.{ℕ, ◌≡◌, ◌⊎◌, List, Result, Ok, Err, nat_lt, if◌then◌else◌}
use Rattle.bitstream_spelling.specs.declared.item.Item.{Item}
use Rattle.dx_base.specs.declared.fault.Fault.{Fault}
use Rattle.dx_base.specs.declared.fault.Fault.TheVariants.{Refused, Limit, OutOfMemory}
use Rattle.dx_base.specs.First.{IsFirst, IsSound}
use Rattle.llvm_items.specs.Sites.{sites}
use Rattle.llvm_types.specs.Types.{types_of}
use Rattle.llvm_values.specs.Values.{values_of}
use Rattle.llvm_values.specs.Rules.{Broken as BreaksValues}
use Rattle.llvm_bodies.specs.Bodies.{AreBodies}
use Rattle.llvm_bodies.specs.Rules.{Broken as BreaksBodies}
use Rattle.llvm_bodies.specs.Reading.{Tells}
use Rattle.llvm_bodies.specs.declared.line.Body.{Body}
use Rattle.llvm_bodies.specs.declared.facts.ModuleFacts.{ModuleFacts}
use Rattle.llvm_records.specs.Facts.{facts_of}
use Rattle.llvm_records.specs.declared.read.Records.{Records}

-- what the bodies of these items need to know
abbrev pub facts_in : List Item → List ℕ → ModuleFacts
facts_in is fs = facts_of (types_of is fs) (values_of is fs (types_of is fs))

-- A rule is broken at a bit: one of the values, M1 to M6, or one of the bodies, M7 to M11, of which the limits have the numbers 12 to 15.
abbrev pub Broken : List Item → List ℕ → ℕ → ℕ → Type 0
Broken is fs rule bit = BreaksValues is fs rule bit ⊎ BreaksBodies (facts_in is fs) is fs rule bit

-- the values and the bodies that the items state
pub record AreRecords (is : List Item) (fs : List ℕ) (records : Records) : Type 0 where
  pub globals : records.globals ≡ values_of is fs (types_of is fs)
  pub bodies : AreBodies (facts_in is fs) fs (sites is) records.bodies

-- The values and bodies where nothing is broken, or the first rule that is broken or limit that is passed, with its bit.
abbrev pub RecordsAnswer : Result Records Fault → List Item → List ℕ → Type 0
RecordsAnswer (Ok records) is fs = AreRecords is fs records × IsSound (Broken is fs)
RecordsAnswer (Err e) is fs = Tells (IsFirst (Broken is fs)) e

-- ---- of the parts

-- Of a fault of the values and the answer on the bodies: the one that comes first. At one bit that of the values does, whose numbers are smaller.
abbrev pub first_told : Fault → Result (List Body) Fault → Fault
first_told (Refused rule bit) (Ok bodies) = Refused rule bit
first_told (Refused rule bit) (Err (Refused other at)) = if nat_lt at bit then Refused other at else Refused rule bit
first_told (Refused rule bit) (Err (Limit which at)) = if nat_lt at bit then Limit which at else Refused rule bit
first_told (Refused rule bit) (Err OutOfMemory) = OutOfMemory
first_told (Limit which bit) bodies = Limit which bit
first_told OutOfMemory bodies = OutOfMemory
