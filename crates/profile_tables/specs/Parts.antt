-- The parts that a body takes of the values of its loads, and the branches between its blocks.
use Rattle.std.specs.Prelude.{ℕ, ◌+◌, ◌==◌, ◌&&◌, ◌||◌, List, [], ◌∷◌, length, drop, Bool, true, false, nat_lt, if◌then◌else◌}
use Rattle.std.specs.List.{list_any}
use Rattle.llvm_bodies.specs.declared.line.Line.{Line}
use Rattle.profile_lines.specs.Calls.{operand, plain}
use Rattle.profile_tables.specs.EntryBody.{EntryBody}
use Rattle.profile_tables.specs.declared.masks.Taken.{Taken}

-- ---- parts

-- an EXTRACTVAL of this part of a value
abbrev pub takes : ℕ → ℕ → Line → Bool
takes v part line = line.code == 26 && operand line 0 == v && length line.plain == 1 && plain line 0 == part

abbrev pub bit_if : Bool → ℕ → ℕ
bit_if true bit = bit
bit_if false bit = 0

-- the parts 0 to 3 that some lines take of a value
abbrev pub taken_of : List Line → ℕ → Taken
taken_of lines v = record {
  x = list_any (takes v 0) lines;
  y = list_any (takes v 1) lines;
  z = list_any (takes v 2) lines;
  w = list_any (takes v 3) lines;
}

abbrev pub mask_in : Taken → ℕ
mask_in t = bit_if t.x 1 + bit_if t.y 2 + bit_if t.z 4 + bit_if t.w 8

-- The mask of the parts 0 to 3 that some EXTRACTVAL of the function takes of a value of the body.
unfoldable pub mask_of : EntryBody → ℕ → ℕ
mask_of x v = if nat_lt v x.values then mask_in (taken_of x.lines v) else 0

-- ---- pairs

-- the numbers two by two
abbrev pub pairs_of : List ℕ → List (ℕ × ℕ)
pairs_of [] = []
pairs_of (a ∷ []) = []
pairs_of (a ∷ b ∷ rest) = (a, b) ∷ pairs_of rest

-- a PHI has pairs of a value and a block; a SWITCH has its value, its default block, and pairs of a case and a block
abbrev pub cases_of : Line → List (ℕ × ℕ)
cases_of line = pairs_of (drop 2 line.numbers)

abbrev pub entries_of : Line → List (ℕ × ℕ)
entries_of line = pairs_of line.numbers

-- ---- branches

abbrev pub goes_to : ℕ → List (ℕ × ℕ) → Bool
goes_to block pairs = list_any (λ p. p.1 == block) pairs

-- A BR has one block, or two and a condition. A SWITCH has its default block and those of its cases.
abbrev pub has_target : ℕ → Line → Bool
has_target block line =
    if line.code == 11 then (if length line.numbers == 1 then operand line 0 == block else (operand line 0 == block || operand line 1 == block))
    else if line.code == 12 then (operand line 1 == block || goes_to block (cases_of line))
    else false

abbrev pub leads : ℕ → ℕ → Line → Bool
leads from block line = line.block == from && has_target block line

-- a branch edge goes from one block to another
abbrev pub is_predecessor : EntryBody → ℕ → ℕ → Bool
is_predecessor x block from = list_any (leads from block) x.lines
