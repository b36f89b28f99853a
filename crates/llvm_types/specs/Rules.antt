-- The rules of the types, Y1 to Y4: which of them is broken, at which bit. Where several are, the one of least bit counts, and at one bit the one of
-- least number.
use Rattle.std.specs.Prelude.{ℕ, ◌&&◌, ◌||◌, List, [], ◌∷◌, length, Bool, not, nat_lt}
use Rattle.std.specs.List.{list_any, list_all}
use Rattle.llvm_items.specs.Sites.{Site, sites, is_record_of, enters, ends_module, code_of, fields_of, bit_at}
use Rattle.bitstream_spelling.specs.declared.item.Item.{Item}
use Rattle.dx_base.specs.First.{IsBroken}
use Rattle.dx_base.specs.Sentences.{Stated}
use Rattle.llvm_types.specs.Types.{is_listed, least_of, type_numbers, numbered}

-- Y1: the module ends and has no block 17, or one is entered and another stands before it; `begun` says that one stands before.
abbrev pub y1 : Bool → Site → Bool
y1 begun s = (ends_module s && not begun) || (enters 17 s && begun)

-- Y2: the code of a record in the block is not listed.
abbrev pub y2 : Site → Bool
y2 s = is_record_of 17 s && not (is_listed (code_of s.item))

-- Y3: a field of the table is missing.
abbrev pub y3 : List ℕ → Site → Bool
y3 fs s = is_record_of 17 s && nat_lt (length (fields_of fs s.item)) (least_of (code_of s.item))

-- Y4: a type number is not below `count`.
abbrev pub y4 : List ℕ → ℕ → Site → Bool
y4 fs count s = is_record_of 17 s && not (list_all (λ t. nat_lt t count) (type_numbers (code_of s.item) (fields_of fs s.item)))

abbrev pub tests : List ℕ → ℕ → Bool → Site → List Bool
tests fs count begun s = y1 begun s ∷ y2 s ∷ y3 fs s ∷ y4 fs count s ∷ []

-- the sentences at a place behind these sites
abbrev pub sentences : List ℕ → ℕ → List Site → Site → List Bool
sentences fs count before s = tests fs count (list_any (enters 17) before) s

-- A rule is broken at a bit of a file's items. The count is that of all records of the file that take a number.
abbrev pub Broken : List Item → List ℕ → ℕ → ℕ → Type 0
Broken is fs rule bit = IsBroken bit_at (Stated (sentences fs (length (numbered is)))) (sites is) rule bit
