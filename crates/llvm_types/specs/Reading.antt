-- What the reader of the types has read and answers.
use Rattle.std.specs.Prelude.{ℕ, ◌≡◌, ◌<◌, List, [], ◌∷◌, ◌++◌, ◌||◌, Bool, if◌then◌else◌, Result, Ok, Err}
use Rattle.std.specs.List.{list_any}
use Rattle.llvm_items.specs.Sites.{Site, sites, enters, code_of, fields_of}
use Rattle.bitstream_spelling.specs.Framed.{bit_of, open_after, open_behind}
use Rattle.bitstream_spelling.specs.declared.item.Item.{Item}
use Rattle.dx_base.specs.declared.fault.Fault.{Fault}
use Rattle.dx_base.specs.declared.fault.Fault.TheVariants.{Refused, OutOfMemory}
use Rattle.dx_base.specs.declared.fault.Rule.TheVariants.{Y}
use Rattle.dx_base.specs.First.{IsFirst, IsSound}
use Rattle.dx_base.specs.Sentences.{first_that_holds}
use Rattle.llvm_types.specs.Types.{type_of, types_of, is_numbered}
use Rattle.llvm_types.specs.Rules.{Broken, tests}
use Rattle.llvm_types.specs.declared.kind.Types.{Types}
use Rattle.llvm_types.specs.declared.kind.LlvmType.{LlvmType}
use Rattle.llvm_types.specs.declared.read.Reader.{Reader}

-- The types by number where nothing is broken, or the first rule that is broken with its bit.
abbrev pub TypesAnswer : Result Types Fault → List Item → List ℕ → Type 0
TypesAnswer (Ok types) is fs = (types.list ≡ types_of is fs) × IsSound (Broken is fs)
TypesAnswer (Err (Refused (Y rule) bit)) is fs = IsFirst (Broken is fs) rule bit
TypesAnswer (Err OutOfMemory) is fs = Unit {0}
TypesAnswer (Err e) is fs = ⊥

-- the list of types behind an item
abbrev pub list_after : List ℕ → List LlvmType → Site → List LlvmType
list_after fs list s = if is_numbered s then list ++ type_of (code_of s.item) (fields_of fs s.item) ∷ [] else list

-- what was read of some items
pub record HasRead (is : List Item) (fs around : List ℕ) (begun : Bool) (list : List LlvmType) : Type 0 where
  pub open_is : around ≡ open_behind [] is
  pub begun_is : begun ≡ list_any (enters 17) (sites is)
  pub list_is : list ≡ types_of is fs

-- one item more was read
pub record IsNext (old new : Reader) (fs : List ℕ) (item : Item) : Type 0 where
  pub around : new.around ≡ open_after old.around item
  pub begun : new.begun ≡ (old.begun || enters 17 (record { around = old.around; item = item }))
  pub list : new.list ≡ list_after fs old.list (record { around = old.around; item = item })

-- the number of the first rule that is broken at an item, 0 where none is
abbrev pub rule_at : Reader → List ℕ → ℕ → Item → ℕ
rule_at reader fs count item = first_that_holds (tests fs count reader.begun (record { around = reader.around; item = item }))

abbrev pub StepAnswer : Result (Unit {0}) Fault → Reader → Reader → List ℕ → ℕ → Item → Type 0
StepAnswer (Ok u) old new fs count item = (rule_at old fs count item ≡ 0) × IsNext old new fs item
StepAnswer (Err (Refused (Y rule) bit)) old new fs count item = (rule_at old fs count item ≡ rule) × (0 < rule) × (bit ≡ bit_of item)
StepAnswer (Err OutOfMemory) old new fs count item = Unit {0}
StepAnswer (Err e) old new fs count item = ⊥

-- the type of an item is kept, and nothing else is changed
pub record IsKept (old new : Reader) (fs : List ℕ) (item : Item) : Type 0 where
  pub list : new.list ≡ list_after fs old.list (record { around = old.around; item = item })
  pub around : new.around ≡ old.around
  pub begun : new.begun ≡ old.begun
