-- Edges in cells, and the lists of cells that links make: one for each source, and one for each target.
--
-- Each link leads to an earlier cell. So a list is told by its members alone: it starts at the greatest of them, and each leads to the greatest below it.
use Rattle.std.specs.Prelude.{◌≡◌, ℕ, ◌<◌, ◌≤◌, ◌+◌, Bool, true, false, not, ◌&&◌, eqb, List, length, get_or, Option, Some, None}
use Rattle.flow_graph.specs.declared.cells.Cell.{Cell}

abbrev pub no_cell : Cell
no_cell = record { from = 0; to = 0; used = false; next_from = None; next_to = None }

abbrev pub cell_at : List Cell → ℕ → Cell
cell_at cells c = get_or cells c no_cell

-- the cell is an edge from a
abbrev pub leaves : List Cell → ℕ → ℕ → Bool
leaves cells a c = (cell_at cells c).used && eqb (cell_at cells c).from a

-- the cell is an edge to b
abbrev pub enters : List Cell → ℕ → ℕ → Bool
enters cells b c = (cell_at cells c).used && eqb (cell_at cells c).to b

-- the greatest number below n that passes
abbrev pub IsLast : (ℕ → Bool) → ℕ → Option ℕ → Type 0
IsLast p n None = (x : ℕ) → x < n → p x ≡ false
IsLast p n (Some r) = (r < n) × (p r ≡ true) × ((x : ℕ) → r < x → x < n → p x ≡ false)

-- the least number above c and below n that passes
abbrev pub IsAbove : (ℕ → Bool) → ℕ → ℕ → Option ℕ → Type 0
IsAbove p n c None = (x : ℕ) → c < x → x < n → p x ≡ false
IsAbove p n c (Some r) = (c < r) × (r < n) × (p r ≡ true) × ((x : ℕ) → c < x → x < r → p x ≡ false)

-- the least number from u on and below n that passes
abbrev pub IsFrom : (ℕ → Bool) → ℕ → ℕ → Option ℕ → Type 0
IsFrom p n u None = (x : ℕ) → u ≤ x → x < n → p x ≡ false
IsFrom p n u (Some r) = (u ≤ r) × (r < n) × (p r ≡ true) × ((x : ℕ) → u ≤ x → x < r → p x ≡ false)

-- how many numbers a walk along falling places may still visit
abbrev pub left : Option ℕ → ℕ
left None = 0
left (Some c) = c + 1

-- lists of numbers below n, one for each key: the first of each is its greatest member, and each leads to the one before it
pub record Linked (n keys : ℕ) (member : ℕ → ℕ → Bool) (first next : ℕ → Option ℕ) : Type 0 where
  pub heads : (a : ℕ) → a < keys → IsLast (member a) n (first a)
  pub nexts : (a c : ℕ) → c < n → member a c ≡ true → IsLast (member a) c (next c)

-- the members but c
abbrev pub without : ℕ → (ℕ → ℕ → Bool) → ℕ → ℕ → Bool
without c member a x = member a x && not (eqb x c)

abbrev pub first_of : List (Option ℕ) → ℕ → Option ℕ
first_of first a = get_or first a None

abbrev pub next_from_of : List Cell → ℕ → Option ℕ
next_from_of cells c = (cell_at cells c).next_from

abbrev pub next_to_of : List Cell → ℕ → Option ℕ
next_to_of cells c = (cell_at cells c).next_to

-- the lists of sources
abbrev pub FromLists : List Cell → List (Option ℕ) → Type 0
FromLists cells first = Linked (length cells) (length first) (leaves cells) (first_of first) (next_from_of cells)

abbrev pub FromListsBut : ℕ → List Cell → List (Option ℕ) → Type 0
FromListsBut c cells first = Linked (length cells) (length first) (without c (leaves cells)) (first_of first) (next_from_of cells)

-- the lists of targets
abbrev pub ToLists : List Cell → List (Option ℕ) → Type 0
ToLists cells first = Linked (length cells) (length first) (enters cells) (first_of first) (next_to_of cells)

abbrev pub ToListsBut : ℕ → List Cell → List (Option ℕ) → Type 0
ToListsBut c cells first = Linked (length cells) (length first) (without c (enters cells)) (first_of first) (next_to_of cells)

-- an edge from x to y: some cell is one
abbrev pub Joining : List Cell → ℕ → ℕ → Type 0
Joining cells x y = (c : ℕ) × (c < length cells) × (leaves cells x c ≡ true) × ((cell_at cells c).to ≡ y)

-- both kinds of lists state the same edges, and no edge stands in two cells
pub record Sound (cells : List Cell) (first_from first_to : List (Option ℕ)) : Type 0 where
  pub from_lists : FromLists cells first_from
  pub to_lists : ToLists cells first_to
  pub from_fits : (c : ℕ) → (cell_at cells c).used ≡ true → (cell_at cells c).from < length first_from
  pub to_fits : (c : ℕ) → (cell_at cells c).used ≡ true → (cell_at cells c).to < length first_to
  pub single : (a c d : ℕ) → leaves cells a c ≡ true → leaves cells a d ≡ true → (cell_at cells c).to ≡ (cell_at cells d).to → c ≡ d
