-- The laws that a reader stands on.
use Rattle.std.specs.Prelude.{ℕ, ◌≡◌, ◌≤◌, ◌^◌, List}
use Rattle.dx_base.specs.First.{IsFirst, IsSound}
use Rattle.bitstream_spelling.specs.Layout.{Shape}
use Rattle.bitstream_spelling.specs.Spelling.{Place, Lays}
use Rattle.bitstream_spelling.specs.Rules.{HasMagic, IsWhole, IsOpen, PassesEnd, Within, Breaks, IsBroken}
use Rattle.bitstream_spelling.specs.Framed.{IsFramed}
use Rattle.bitstream_spelling.specs.declared.item.Item.{Item}

-- bits spell at most one list of items and fields
abbrev pub OneSpelling : Type 0
OneSpelling = (bytes : List ℕ) (start end : ℕ) (is js : List Item) (fs gs : List ℕ) → IsWhole bytes start end is fs → IsWhole bytes start end js gs → (is ≡ js) × (fs ≡ gs)

-- where bits spell items within the limits, nothing is broken
abbrev pub WholeIsSound : Type 0
WholeIsSound = (bytes : List ℕ) (start end : ℕ) (is : List Item) (fs : List ℕ) → IsWhole bytes start end is fs → IsSound (IsBroken bytes start end)

-- where the magic is missing, that is the first
abbrev pub FirstWithoutMagic : Type 0
FirstWithoutMagic = (bytes : List ℕ) (start end : ℕ) → (HasMagic bytes start end → ⊥) → IsFirst (IsBroken bytes start end) 1 start

-- where what stands behind a front passes the end, that is the first
abbrev pub FirstWhereShort : Type 0
FirstWhereShort = (bytes : List ℕ) (start end : ℕ) (p : Place) (is : List Item) (fs : List ℕ) → IsOpen bytes start end p is fs → PassesEnd bytes start end p → IsFirst (IsBroken bytes start end) 2 p.at

-- where what stands behind a front breaks a rule or passes a limit, and no other of smaller number, that is the first
abbrev pub FirstByRule : Type 0
FirstByRule = (bytes : List ℕ) (start end : ℕ) (p : Place) (is : List Item) (fs : List ℕ) (shape : Shape) (after rule bit : ℕ) → IsOpen bytes start end p is fs → Lays bytes start p shape after → Within end p shape after
    → Breaks p is fs shape after rule bit → ((r b : ℕ) → Breaks p is fs shape after r b → (bit ≡ b) × (rule ≤ r)) → IsFirst (IsBroken bytes start end) rule bit

-- the items of a bitstream of at most 2 ^ 32 bytes are framed
abbrev pub WholeIsFramed : Type 0
WholeIsFramed = (bytes : List ℕ) (start end : ℕ) (is : List Item) (fs : List ℕ) → end ≤ 2 ^ 35 → IsWhole bytes start end is fs → IsFramed is fs
