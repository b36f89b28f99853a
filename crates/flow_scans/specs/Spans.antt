-- Spans of blocks, as a list in any order: they may cross each other, be empty, or end before they begin.
use Rattle.std.specs.Prelude.{ℕ, ◌≡◌, ◌+◌, ◌-◌, ◌^◌, ◌<◌, ◌≤◌, List, length, slice_index, Contains, slice_set}
use Rattle.flow_scans.specs.declared.span.Span.{Span}

-- the list has a span from a first number to an end
abbrev pub Has : List Span → ℕ → ℕ → Type 0
Has spans first end = Contains spans (record { first = first; end = end })

-- all numbers are below the count
pub record Below (count : ℕ) (spans : List Span) : Type 0 where
  pub first : (f e : ℕ) → Has spans f e → f < count
  pub end : (f e : ℕ) → Has spans f e → e < count

-- the least first number of the spans with this end, or the greatest number where there is none
pub record IsLeastFirst (spans : List Span) (end found : ℕ) : Type 0 where
  pub least : (f : ℕ) → Has spans f end → found ≤ f
  pub attained : found < 2 ^ 32 - 1 → Has spans found end

-- the greatest end of the spans with this first number, or 0 where there is none
pub record IsGreatestEnd (spans : List Span) (first found : ℕ) : Type 0 where
  pub greatest : (e : ℕ) → Has spans first e → e ≤ found
  pub attained : 0 < found → Has spans first found

abbrev pub AreLeastFirsts : List Span → ℕ → List ℕ → Type 0
AreLeastFirsts spans count table = (e : ℕ) → e < count → IsLeastFirst spans e (slice_index table e)

abbrev pub AreGreatestEnds : List Span → ℕ → List ℕ → Type 0
AreGreatestEnds spans count table = (f : ℕ) → f < count → IsGreatestEnd spans f (slice_index table f)

-- Of the spans that begin at least so far before q and end behind q, the least end, or the count where there is none.
pub record IsFirstEnd (spans : List Span) (gap count q found : ℕ) : Type 0 where
  pub behind : q < found
  pub within : found ≤ count
  pub attained : found < count → (f : ℕ) × Has spans f found × (f + gap ≤ q)
  pub least : (f e : ℕ) → Has spans f e → f + gap ≤ q → q < e → found ≤ e

-- Of the spans that begin at least so far before q and end behind q, the last one's first number, and one more. It is 0 where there is none.
pub record IsLastOver (spans : List Span) (gap q found : ℕ) : Type 0 where
  pub attained : (f : ℕ) → found ≡ f + 1 → (e : ℕ) × Has spans f e × (f + gap ≤ q) × (q < e)
  pub last : (f e : ℕ) → Has spans f e → f + gap ≤ q → q < e → f < found

abbrev pub AreFirstEnds : List Span → ℕ → ℕ → List ℕ → Type 0
AreFirstEnds spans gap count table = (q : ℕ) → q < count → IsFirstEnd spans gap count q (slice_index table q)

abbrev pub AreLastOvers : List Span → ℕ → ℕ → List ℕ → Type 0
AreLastOvers spans gap count table = (q : ℕ) → q < count → IsLastOver spans gap q (slice_index table q)

-- the same over tables

-- the first end behind q in a table of least first numbers
pub record FirstBehind (near : List ℕ) (gap q found : ℕ) : Type 0 where
  pub behind : q < found
  pub within : found ≤ length near
  pub early : found < length near → slice_index near found + gap ≤ q
  pub none : (e : ℕ) → q < e → e < found → q < slice_index near e + gap

abbrev pub FirstsBehind : List ℕ → ℕ → ℕ → List ℕ → Type 0
FirstsBehind near gap from out = (q : ℕ) → from ≤ q → q < length near → FirstBehind near gap q (slice_index out q)

-- the last first number before q in a table of greatest ends
pub record LastBefore (far : List ℕ) (q found : ℕ) : Type 0 where
  pub before : found ≤ q
  pub over : (f : ℕ) → found ≡ f + 1 → q < slice_index far f
  pub none : (f : ℕ) → found ≤ f → f < q → slice_index far f ≤ q

abbrev pub LastsBefore : List ℕ → ℕ → List ℕ → Type 0
LastsBefore far to out = (q : ℕ) → q < to → LastBefore far q (slice_index out q)

-- a table of least first numbers or of greatest ends after one more span
pub record LowerStep (old new : List ℕ) (span : Span) : Type 0 where
  pub written : span.first < slice_index old span.end → new ≡ slice_set old span.end span.first
  pub kept : slice_index old span.end ≤ span.first → new ≡ old

pub record UpperStep (old new : List ℕ) (span : Span) : Type 0 where
  pub written : slice_index old span.first < span.end → new ≡ slice_set old span.first span.end
  pub kept : span.end ≤ slice_index old span.first → new ≡ old

-- the last first number at or before q in a table of greatest ends
pub record LastHolding (far : List ℕ) (q found : ℕ) : Type 0 where
  pub before : found ≤ q + 1
  pub over : (f : ℕ) → found ≡ f + 1 → q < slice_index far f
  pub none : (f : ℕ) → found ≤ f → f < q + 1 → slice_index far f ≤ q

abbrev pub LastsHolding : List ℕ → ℕ → List ℕ → Type 0
LastsHolding far to out = (q : ℕ) → q < to → LastHolding far q (slice_index out q)
