-- What the reader of the metadata has read and answers.
use Rattle.std.specs.Prelude.{ℕ, ◌≡◌, ◌==◌, ◌<◌, List, [], ◌∷◌, ◌++◌, unwrap_or, Result, Ok, Err, Option, Some, None, is_some, if◌then◌else◌}
use Rattle.llvm_items.specs.Sites.{Site, sites, code_of, fields_of, bit_at, ends_module}
use Rattle.bitstream_spelling.specs.Framed.{bit_of, open_after, open_behind}
use Rattle.bitstream_spelling.specs.declared.item.Item.{Item}
use Rattle.dx_base.specs.declared.fault.Fault.{Fault}
use Rattle.dx_base.specs.declared.fault.Fault.TheVariants.{Refused, OutOfMemory}
use Rattle.dx_base.specs.declared.fault.Rule.TheVariants.{N}
use Rattle.dx_base.specs.First.{IsFirst, IsSound}
use Rattle.dx_base.specs.Sentences.{first_that_holds}
use Rattle.llvm_nodes.specs.Metadata.{item_of, items_of, bits_of, named_of, named_at, name_after, name_behind, end_from, is_numbered, is_named, chars, takes_number, IsMeta}
use Rattle.llvm_nodes.specs.Rules.{Broken, tests}
use Rattle.llvm_nodes.specs.declared.item.Meta.{Meta}
use Rattle.llvm_nodes.specs.declared.item.MetaItem.{MetaItem}
use Rattle.llvm_nodes.specs.declared.item.Named.{Named}
use Rattle.llvm_nodes.specs.declared.read.Reader.{Reader}
use Rattle.llvm_nodes.specs.declared.table.Counts.{Counts}

-- The metadata where nothing is broken, or the first rule that is broken with its bit.
abbrev pub MetaAnswer : Result Meta Fault → List Item → List ℕ → ℕ → ℕ → Type 0
MetaAnswer (Ok meta) is fs types values = IsMeta meta is fs × IsSound (Broken is fs types values)
MetaAnswer (Err (Refused (N rule) bit)) is fs types values = IsFirst (Broken is fs types values) rule bit
MetaAnswer (Err OutOfMemory) is fs types values = Unit {0}
MetaAnswer (Err e) is fs types values = ⊥

-- the lists behind an item
abbrev pub items_after : List ℕ → List MetaItem → Site → List MetaItem
items_after fs list s = if is_numbered s then list ++ item_of (code_of s.item) (fields_of fs s.item) ∷ [] else list

abbrev pub bits_after : List ℕ → Site → List ℕ
bits_after bits s = if is_numbered s then bits ++ bit_at s ∷ [] else bits

abbrev pub named_after : List ℕ → Option (List ℕ) → List Named → Site → List Named
named_after fs name list s = if is_named s then list ++ named_at fs name s ∷ [] else list

abbrev pub end_after : ℕ → Site → ℕ
end_after bit s = if ends_module s then bit_at s else bit

-- what was read of some items
pub record HasRead (is : List Item) (fs : List ℕ) (r : Reader) : Type 0 where
  pub open_is : r.around ≡ open_behind [] is
  pub name_is : r.name ≡ name_behind fs None (sites is)
  pub list_is : r.list ≡ items_of is fs
  pub bits_is : r.bits ≡ bits_of is
  pub named_is : r.named ≡ named_of is fs
  pub end_is : r.end ≡ end_from 0 (sites is)

-- an item was read, and only the open blocks are those before it
pub record IsKept (old new : Reader) (fs : List ℕ) (s : Site) : Type 0 where
  pub around : new.around ≡ old.around
  pub name : new.name ≡ name_after fs old.name s
  pub list : new.list ≡ items_after fs old.list s
  pub bits : new.bits ≡ bits_after old.bits s
  pub named : new.named ≡ named_after fs old.name old.named s
  pub end : new.end ≡ end_after old.end s

-- one item more was read
pub record IsNext (old new : Reader) (fs : List ℕ) (item : Item) : Type 0 where
  pub around : new.around ≡ open_after old.around item
  pub name : new.name ≡ name_after fs old.name (record { around = old.around; item = item })
  pub list : new.list ≡ items_after fs old.list (record { around = old.around; item = item })
  pub bits : new.bits ≡ bits_after old.bits (record { around = old.around; item = item })
  pub named : new.named ≡ named_after fs old.name old.named (record { around = old.around; item = item })
  pub end : new.end ≡ end_after old.end (record { around = old.around; item = item })

-- a record that takes a number was read
pub record HasItem (old new : Reader) (kept : MetaItem) (bit : ℕ) : Type 0 where
  pub around : new.around ≡ old.around
  pub list : new.list ≡ old.list ++ kept ∷ []
  pub bits : new.bits ≡ old.bits ++ bit ∷ []
  pub named : new.named ≡ old.named
  pub end : new.end ≡ old.end

-- a NAMED_NODE was read
pub record HasNamed (old new : Reader) (fields : List ℕ) (bit : ℕ) : Type 0 where
  pub around : new.around ≡ old.around
  pub name : new.name ≡ None
  pub list : new.list ≡ old.list
  pub bits : new.bits ≡ old.bits
  pub named : new.named ≡ old.named ++ record { name = unwrap_or old.name []; nodes = fields; bit = bit } ∷ []
  pub end : new.end ≡ old.end

-- a record of a block of metadata was read
pub record HasRecord (old new : Reader) (code : ℕ) (fields : List ℕ) (bit : ℕ) : Type 0 where
  pub around : new.around ≡ old.around
  pub name : new.name ≡ (if code == 4 then Some (chars fields) else None)
  pub list : new.list ≡ (if takes_number code then old.list ++ item_of code fields ∷ [] else old.list)
  pub bits : new.bits ≡ (if takes_number code then old.bits ++ bit ∷ [] else old.bits)
  pub named : new.named ≡ (if code == 10 then old.named ++ record { name = unwrap_or old.name []; nodes = fields; bit = bit } ∷ [] else old.named)
  pub end : new.end ≡ old.end

-- the number of the first rule that is broken at an item, 0 where none is
abbrev pub rule_at : Reader → List ℕ → Counts → List Item → Item → ℕ
rule_at reader fs counts behind item =
    first_that_holds (tests fs counts.records counts.types counts.values (is_some reader.name) behind (record { around = reader.around; item = item }))

abbrev pub StepAnswer : Result (Unit {0}) Fault → Reader → Reader → List ℕ → Counts → List Item → Item → Type 0
StepAnswer (Ok u) old new fs counts behind item = (rule_at old fs counts behind item ≡ 0) × IsNext old new fs item
StepAnswer (Err (Refused (N rule) bit)) old new fs counts behind item = (rule_at old fs counts behind item ≡ rule) × (0 < rule) × (bit ≡ bit_of item)
StepAnswer (Err OutOfMemory) old new fs counts behind item = Unit {0}
StepAnswer (Err e) old new fs counts behind item = ⊥
