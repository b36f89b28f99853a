-- Which items stand in which bits (LLVM 3.7 bitcode file format, "Blocks", "Data Records", "Abbreviations" and "Standard Blocks").
use Rattle.std.specs.Prelude.{ℕ, zero, suc, ◌≡◌, ◌+◌, ◌*◌, List, [], ◌∷◌, ◌++◌, length, Option, Some, None, Bool, false, ◌||◌, ◌&&◌, eqb, if◌then◌else◌, slice_get, map, filter}
use Rattle.dx_base.specs.Bits.{num, IsVbr}
use Rattle.bitstream_spelling.specs.Layout.{Abbreviation, aligned, AreSpelled, IsPlain, AreWritten, Shape, closes, enters, defines, plain, by, unknown}
use Rattle.bitstream_spelling.specs.declared.item.Item.{Item}
use Rattle.bitstream_spelling.specs.declared.item.Item.TheVariants.{Enter, Record, Skip, End}

-- what stands behind the id of a block's entry
pub record IsEntry (bytes : List ℕ) (start i id width words after : ℕ) : Type 0 where
  pub next : ℕ
  pub ends : ℕ
  pub is_id : IsVbr bytes 8 i id next
  pub is_width : IsVbr bytes 4 next width ends
  pub is_words : words ≡ num bytes (aligned start ends) 32
  pub is_after : after ≡ aligned start ends + 32

-- A block that is being read; the top has no id.
pub record Block : Type 0 where
  pub id : Option ℕ
  pub width : ℕ
  pub forms : List Abbreviation
  pub named : Option ℕ
  pub words : ℕ
  pub bit : ℕ
  pub content : ℕ

-- A place in the bits: the block around it, the blocks around that one from the inside out, the abbreviations that BLOCKINFO gave with
-- their blocks, the number of operands of all definitions before it, and whether the first block 8 has ended.
pub record Place : Type 0 where
  pub at : ℕ
  pub here : Block
  pub around : List Block
  pub given : List (ℕ × Abbreviation)
  pub operands : ℕ
  pub over : Bool

-- which blocks are read in which
abbrev pub reads : Option ℕ → ℕ → Bool
reads None id = eqb id 0 || eqb id 8
reads (Some outer) id = (eqb outer 8 && (eqb id 0 || eqb id 11 || eqb id 12 || eqb id 14 || eqb id 15 || eqb id 17)) || (eqb outer 12 && eqb id 11)

-- the abbreviations that BLOCKINFO gave to a block, in order
abbrev pub given_to : ℕ → List (ℕ × Abbreviation) → List Abbreviation
given_to id given = map (λ g. g.1) (filter (λ g. eqb g.0 id) given)

module _ (bytes : List ℕ) (start : ℕ) where
  -- what stands at a place, and the bit after it
  abbrev pub Lays : Place → Shape → ℕ → Type 0
  Lays p closes after = (num bytes p.at p.here.width ≡ 0) × (after ≡ aligned start (p.at + p.here.width))
  Lays p (enters id width words) after = (num bytes p.at p.here.width ≡ 1) × IsEntry bytes start (p.at + p.here.width) id width words after
  Lays p (defines ops) after = (next : ℕ) × (num bytes p.at p.here.width ≡ 2) × IsVbr bytes 5 (p.at + p.here.width) (length ops) next × AreWritten bytes start next ops after
  Lays p (plain code fields) after = (num bytes p.at p.here.width ≡ 3) × IsPlain bytes start (p.at + p.here.width) code fields after
  Lays p (by k values) after = (num bytes p.at p.here.width ≡ 4 + k)
      × ((form : Abbreviation) × (slice_get p.here.forms k ≡ Some form) × AreSpelled bytes start form (p.at + p.here.width) values after)
  Lays p (unknown k) after = (num bytes p.at p.here.width ≡ 4 + k) × (slice_get p.here.forms k ≡ None) × (after ≡ p.at + p.here.width)

-- the first bit after an item, a skipped block's content with it
abbrev pub reach : Place → Shape → ℕ → ℕ
reach p (enters id width words) after = if reads p.here.id id then after else after + 32 * words
reach p _ after = after

abbrev pub entered : Place → ℕ → ℕ → ℕ → ℕ → Place
entered p id width words after = record p {
  at = after;
  here = record { id = Some id; width = width; forms = given_to id p.given; named = None; words = words; bit = p.at; content = after };
  around = p.here ∷ p.around;
}

-- the block 8 at the top ends the reading
abbrev pub ends_all : Option ℕ → List Block → Bool
ends_all (Some id) [] = eqb id 8
ends_all _ _ = false

abbrev pub left : Place → ℕ → List Block → Place
left p after [] = record p { at = after }
left p after (outer ∷ rest) = record p { at = after; here = outer; around = rest; over = ends_all p.here.id rest }

abbrev pub defined : Place → Abbreviation → ℕ → Place
defined p ops after = elim p.here.named [
  | Some id ↦ record p { at = after; given = p.given ++ (id, ops) ∷ []; operands = p.operands + length ops }
  | None ↦ record p { at = after; here = record p.here { forms = p.here.forms ++ ops ∷ [] }; operands = p.operands + length ops }
]

-- a record of BLOCKINFO with code 1 names a block
abbrev pub names : Option ℕ → ℕ → Bool
names None code = false
names (Some zero) code = eqb code 1
names (Some (suc _)) code = false

abbrev pub naming : Block → List ℕ → Block
naming b (code ∷ id ∷ _) = if names b.id code then record b { named = Some id } else b
naming b _ = b

-- the place after what stands there
abbrev pub next : Place → Shape → ℕ → Place
next p closes after = left p after p.around
next p (enters id width words) after = if reads p.here.id id then entered p id width words after else record p { at = after + 32 * words }
next p (defines ops) after = defined p ops after
next p (plain code fields) after = record p { at = after; here = naming p.here (code ∷ fields) }
next p (by k values) after = record p { at = after; here = naming p.here values }
next p (unknown k) after = record p { at = after }

abbrev pub rest_of : List ℕ → List ℕ
rest_of [] = []
rest_of (x ∷ xs) = xs

abbrev pub first_of_all : List ℕ → ℕ
first_of_all [] = 0
first_of_all (x ∷ xs) = x

-- the item that a shape spells, where `before` fields stand before it
abbrev pub item : Place → Shape → ℕ → List Item
item p closes before = End p.at ∷ []
item p (enters id width words) before = if reads p.here.id id then Enter id width p.at ∷ [] else Skip id words p.at ∷ []
item p (defines ops) before = []
item p (plain code fields) before = Record code before (length fields) p.at ∷ []
item p (by k values) before = Record (first_of_all values) before (length (rest_of values)) p.at ∷ []
item p (unknown k) before = []

abbrev pub fields : Shape → List ℕ
fields (plain code row) = row
fields (by k values) = rest_of values
fields _ = []

-- the operands of a definition
abbrev pub operands : Shape → ℕ
operands (defines ops) = length ops
operands _ = 0
