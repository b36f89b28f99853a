-- What the reading of a bitstream answers.
use Rattle.std.specs.Prelude.{ℕ, ◌≡◌, ◌≤◌, List, Result, Ok, Err}
use Rattle.dx_base.specs.First.{IsFirst, IsSound}
use Rattle.dx_base.specs.declared.fault.Fault.{Fault}
use Rattle.dx_base.specs.declared.fault.Fault.TheVariants.{Refused, Limit, OutOfMemory}
use Rattle.dx_base.specs.declared.fault.Rule.TheVariants.{B}
use Rattle.dx_base.specs.declared.fault.Which.TheVariants.{Records, Fields}
use Rattle.bitstream_spelling.specs.Rules.{IsWhole, IsBroken}
use Rattle.bitstream_spelling.specs.declared.item.Item.{Item}
use Rattle.bitstream_spelling.specs.declared.item.Items.{Items}

-- the bits spell no items within the limits
pub record NoItems (bytes : List ℕ) (start end : ℕ) : Type 0 where
  pub none : (list : List Item) (fields : List ℕ) → IsWhole bytes start end list fields → ⊥

-- the bits spell no other items
pub record IsOnly (bytes : List ℕ) (start end : ℕ) (items : Items) : Type 0 where
  pub only : (list : List Item) (fields : List ℕ) → IsWhole bytes start end list fields → (list ≡ items.list) × (fields ≡ items.fields)

-- Ok: the items that the bits spell, where no rule is broken and no limit is passed. Else the first broken rule or passed limit, or want of memory.
abbrev pub ItemsAnswer : Result Items Fault → List ℕ → ℕ → ℕ → Type 0
ItemsAnswer (Ok items) bytes start end = IsWhole bytes start end items.list items.fields × IsSound (IsBroken bytes start end)
ItemsAnswer (Err (Refused (B n) bit)) bytes start end = (n ≤ 8) × IsFirst (IsBroken bytes start end) n bit × NoItems bytes start end
ItemsAnswer (Err (Refused _ bit)) bytes start end = ⊥
ItemsAnswer (Err (Limit Records bit)) bytes start end = IsFirst (IsBroken bytes start end) 9 bit × NoItems bytes start end
ItemsAnswer (Err (Limit Fields bit)) bytes start end = IsFirst (IsBroken bytes start end) 10 bit × NoItems bytes start end
ItemsAnswer (Err (Limit _ bit)) bytes start end = ⊥
ItemsAnswer (Err OutOfMemory) bytes start end = Unit {0}
