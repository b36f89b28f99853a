-- The spans that the checker lists, and what its tables tell of them.
use Rattle.std.specs.Prelude.{ℕ, ◌∷◌, ◌++◌, [], Option, Some, None, ◌≡◌, ◌+◌, ◌-◌, ◌^◌, ◌<◌, ◌≤◌, List, length, slice_index, Contains, ◌⊎◌}
use Rattle.flow_scans.specs.declared.span.Span.{Span}
use Rattle.flow_scans.specs.Spans.{Has}
use Rattle.flow_rules.specs.Blocks.{BasicBlock}
use Rattle.flow_rules.specs.declared.block.Merge.{Merge}
use Rattle.flow_rules.specs.declared.block.Terminator.TheVariants.{Return}
use Rattle.flow_rules.specs.declared.tables.EdgeTables.{EdgeTables}
use Rattle.flow_rules.specs.declared.tables.RowTables.{RowTables}
use Rattle.flow_rules.specs.declared.tables.ConstructTables.{ConstructTables}
use Rattle.flow_rules.specs.declared.tables.Tables.{Tables}
use Rattle.flow_rules.specs.declared.lists.Family.{Family}
use Rattle.flow_rules.specs.declared.lists.Family.TheVariants.{Edges, Headers, Backs, Returns, Nested, Rows, Lefts, Bodies, CaseFroms}
use Rattle.flow_rules.specs.declared.lists.Family.TheVariants.{Loops as AllLoops, Switches as AllSwitches}
use Rattle.flow_rules.specs.Flow.{At, Header, Selects, Loops, Switches, StructuralEdge, BackEdge, CaseStart, IsCase}

-- the list has exactly the spans of which P tells
pub record Lists (P : ℕ → ℕ → Type 0) (spans : List Span) : Type 0 where
  pub sound : (f e : ℕ) → Has spans f e → P f e
  pub complete : (f e : ℕ) → P f e → Has spans f e

-- the same of the spans of the first so many blocks
pub record ListsTo (P : ℕ → ℕ → ℕ → Type 0) (count : ℕ) (spans : List Span) : Type 0 where
  pub sound : (f e : ℕ) → Has spans f e → (p : ℕ) × (p < count) × P p f e
  pub complete : (p f e : ℕ) → p < count → P p f e → Has spans f e

-- more spans were added, exactly those of which P tells
pub record Extends (P : ℕ → ℕ → Type 0) (old new : List Span) : Type 0 where
  pub kept : (f e : ℕ) → Has old f e → Has new f e
  pub added : (f e : ℕ) → P f e → Has new f e
  pub only : (f e : ℕ) → Has new f e → Has old f e ⊎ P f e

-- the least first number of a span with this end, or the greatest number where there is none
pub record LeastFirst (P : ℕ → ℕ → Type 0) (end found : ℕ) : Type 0 where
  pub least : (f : ℕ) → P f end → found ≤ f
  pub attained : found < 2 ^ 32 - 1 → P found end

-- the greatest end of a span with this first number, or 0 where there is none
pub record GreatestEnd (P : ℕ → ℕ → Type 0) (first found : ℕ) : Type 0 where
  pub greatest : (e : ℕ) → P first e → e ≤ found
  pub attained : 0 < found → P first found

-- of the spans that begin at least so far before q and end behind q, the least end; the count or more where there is none
pub record FirstEnd (P : ℕ → ℕ → Type 0) (gap count q found : ℕ) : Type 0 where
  pub behind : q < found
  pub attained : found < count → (f : ℕ) × P f found × (f + gap ≤ q)
  pub least : (f e : ℕ) → P f e → f + gap ≤ q → q < e → found ≤ e

-- of the spans that begin at least so far before q and end behind q, one more than the last first number; 0 where there is none
pub record LastOver (P : ℕ → ℕ → Type 0) (gap q found : ℕ) : Type 0 where
  pub attained : (f : ℕ) → found ≡ f + 1 → (e : ℕ) × P f e × (f + gap ≤ q) × (q < e)
  pub last : (f e : ℕ) → P f e → f + gap ≤ q → q < e → f < found

-- the list with a span more, where there is one
abbrev pub with_span : List Span → Option Span → List Span
with_span spans None = spans
with_span spans (Some s) = spans ++ s ∷ []

-- the one span of which P tells, or none
abbrev pub IsSpanOf : Option Span → (ℕ → ℕ → Type 0) → Type 0
IsSpanOf None P = (f e : ℕ) → P f e → ⊥
IsSpanOf (Some s) P = P s.first s.end × ((f e : ℕ) → P f e → (s.first ≡ f) × (s.end ≡ e))

-- from a block to each target
pub record TargetOf (p : ℕ) (targets : List ℕ) (f e : ℕ) : Type 0 where
  pub target : Contains targets e
  pub first_is : f ≡ p

-- from a block to each target that does not stand behind it, and the other way round
pub record BackTarget (p : ℕ) (targets : List ℕ) (f e : ℕ) : Type 0 where
  pub target : Contains targets e
  pub back : e ≤ p
  pub first_is : f ≡ p

pub record BackSource (p : ℕ) (targets : List ℕ) (f e : ℕ) : Type 0 where
  pub target : Contains targets f
  pub back : f ≤ p
  pub end_is : e ≡ p

-- the numbers of a list that lie between two others
pub record IsBetween (targets : List ℕ) (low high : ℕ) (found : List ℕ) : Type 0 where
  pub sound : (t : ℕ) → Contains found t → Contains targets t × (low < t) × (t < high)
  pub complete : (t : ℕ) → Contains targets t → low < t → t < high → Contains found t

-- one number more is taken where it lies between
pub record BetweenStep (low high target : ℕ) (old new : List ℕ) : Type 0 where
  pub out_low : target ≤ low → new ≡ old
  pub out_high : high ≤ target → new ≡ old
  pub taken : low < target → target < high → new ≡ old ++ target ∷ []

-- the same, in order
pub record Between (targets : List ℕ) (low high : ℕ) (found : List ℕ) : Type 0 where
  pub are : IsBetween targets low high found
  pub rises : (i j : ℕ) → i < j → j < length found → slice_index found i ≤ slice_index found j

-- from the number at a place to the next one, or to the last end where none follows, if that is greater
pub record CaseAt (starts : List ℕ) (last at f e : ℕ) : Type 0 where
  pub first_is : slice_index starts at ≡ f
  pub some : f < e
  pub inner : at + 1 < length starts → slice_index starts (at + 1) ≡ e
  pub outer : length starts ≤ at + 1 → last ≡ e

-- the same from one of the first so many numbers
pub record CasesTo (starts : List ℕ) (last count f e : ℕ) : Type 0 where
  pub at : ℕ
  pub before : at < count
  pub is : CaseAt starts last at f e

-- from the first of the numbers to each
pub record FromSpan (starts : List ℕ) (f e : ℕ) : Type 0 where
  pub within : 0 < length starts
  pub first_is : slice_index starts 0 ≡ f
  pub start : Contains starts e

-- the span of some block
abbrev pub SpanOf : (ℕ → ℕ → ℕ → Type 0) → ℕ → ℕ → Type 0
SpanOf P f e = (p : ℕ) × P p f e

pub record LeastTable (P : ℕ → ℕ → Type 0) (count : ℕ) (table : List ℕ) : Type 0 where
  pub counted : length table ≡ count
  pub each : (e : ℕ) → e < count → LeastFirst P e (slice_index table e)

pub record GreatestTable (P : ℕ → ℕ → Type 0) (count : ℕ) (table : List ℕ) : Type 0 where
  pub counted : length table ≡ count
  pub each : (f : ℕ) → f < count → GreatestEnd P f (slice_index table f)

pub record EndTable (P : ℕ → ℕ → Type 0) (gap count : ℕ) (table : List ℕ) : Type 0 where
  pub counted : length table ≡ count
  pub each : (q : ℕ) → q < count → FirstEnd P gap count q (slice_index table q)

pub record OverTable (P : ℕ → ℕ → Type 0) (gap count : ℕ) (table : List ℕ) : Type 0 where
  pub counted : length table ≡ count
  pub each : (q : ℕ) → q < count → LastOver P gap q (slice_index table q)

-- the greatest of some targets, or 0 where there is none
pub record HighTo (targets : List ℕ) (found : ℕ) : Type 0 where
  pub greatest : (o : ℕ) → Contains targets o → o ≤ found
  pub attained : 0 < found → Contains targets found

-- how far the least of some targets lies below the greatest number, or 0 where there is none
pub record IsLowTo (targets : List ℕ) (found : ℕ) : Type 0 where
  pub least : (o : ℕ) → Contains targets o → 2 ^ 32 - 1 ≤ found + o
  pub attained : 0 < found → (o : ℕ) × Contains targets o × (found + o ≡ 2 ^ 32 - 1)

-- the greatest target, or the greatest number where the block returns
pub data IsHigh (b : BasicBlock) (found : ℕ) : Type 0 where
  high_return : b.terminator ≡ Return → found ≡ 2 ^ 32 - 1 → IsHigh b found
  high_target : (b.terminator ≡ Return → ⊥) → HighTo b.targets found → IsHigh b found

abbrev pub IsLow : BasicBlock → ℕ → Type 0
IsLow b found = IsLowTo b.targets found

module _ (bs : List BasicBlock) where
  -- from a header to its merge block
  pub record HeaderOf (p f e : ℕ) : Type 0 where
    pub by : Merge
    pub header : Header bs p by
    pub first_is : f ≡ p
    pub end_is : e ≡ by.merge_block

  -- from a loop header to its continue target
  pub record BodyOf (p f e : ℕ) : Type 0 where
    pub by : Merge
    pub loops : Loops bs p by e
    pub first_is : f ≡ p

  -- from a loop's continue target to its merge block
  pub record ContinueOf (p f e : ℕ) : Type 0 where
    pub by : Merge
    pub loops : Loops bs p by f
    pub end_is : e ≡ by.merge_block

  -- from a loop header to its merge block
  pub record LoopOf (p f e : ℕ) : Type 0 where
    pub by : Merge
    pub continue_target : ℕ
    pub loops : Loops bs p by continue_target
    pub first_is : f ≡ p
    pub end_is : e ≡ by.merge_block

  -- from a header with a SelectionMerge to its merge block
  pub record SelectionOf (p f e : ℕ) : Type 0 where
    pub by : Merge
    pub selects : Selects bs p by
    pub first_is : f ≡ p
    pub end_is : e ≡ by.merge_block

  -- from a switch's header to its merge block
  pub record SwitchOf (p f e : ℕ) : Type 0 where
    pub by : Merge
    pub switches : Switches bs p by
    pub first_is : f ≡ p
    pub end_is : e ≡ by.merge_block

  -- a case construct
  pub record CaseOf (p f e : ℕ) : Type 0 where
    pub by : Merge
    pub is_case : IsCase bs (record { of = p; by = by; first = f; end = e })

  -- from the first one of a switch's case constructs to the first block of one
  pub record CaseFrom (p f e : ℕ) : Type 0 where
    pub by : Merge
    pub first_start : CaseStart bs p by f
    pub first : (t : ℕ) → CaseStart bs p by t → f ≤ t
    pub start : CaseStart bs p by e

  -- what rows begin at their header or behind it
  pub data NestedOf (p f e : ℕ) : Type 0 where
    nested_header : HeaderOf p f e → NestedOf p f e
    nested_body : BodyOf p f e → NestedOf p f e
    nested_case : CaseOf p f e → NestedOf p f e

  -- all rows
  pub data RowOf (p f e : ℕ) : Type 0 where
    row_nested : NestedOf p f e → RowOf p f e
    row_continue : ContinueOf p f e → RowOf p f e

  -- the constructs that end at their merge block
  pub data LeftOf (p f e : ℕ) : Type 0 where
    left_selection : SelectionOf p f e → LeftOf p f e
    left_continue : ContinueOf p f e → LeftOf p f e

  -- a structural edge
  pub record EdgeOf (p f e : ℕ) : Type 0 where
    pub edge : StructuralEdge bs p e
    pub first_is : f ≡ p

  -- a back edge, and a back edge the other way round
  pub record BackOf (p f e : ℕ) : Type 0 where
    pub edge : BackEdge bs p e
    pub first_is : f ≡ p

  pub record BackTo (p f e : ℕ) : Type 0 where
    pub edge : BackEdge bs p f
    pub end_is : e ≡ p

  -- the spans of a block in a family
  abbrev pub OfFamily : Family → ℕ → ℕ → ℕ → Type 0
  OfFamily Edges p f e = EdgeOf p f e
  OfFamily Headers p f e = HeaderOf p f e
  OfFamily Backs p f e = BackOf p f e
  OfFamily Returns p f e = BackTo p f e
  OfFamily Nested p f e = NestedOf p f e
  OfFamily Rows p f e = RowOf p f e
  OfFamily Lefts p f e = LeftOf p f e
  OfFamily Bodies p f e = BodyOf p f e
  OfFamily AllLoops p f e = LoopOf p f e
  OfFamily AllSwitches p f e = SwitchOf p f e
  OfFamily CaseFroms p f e = CaseFrom p f e

  -- the starts of the case constructs of a block, in order, and the end of the last one
  pub record Starts (p : ℕ) (starts : List ℕ) (last : ℕ) : Type 0 where
    pub sound : (t : ℕ) → Contains starts t → (g : Merge) × CaseStart bs p g t
    pub complete : (g : Merge) (t : ℕ) → CaseStart bs p g t → Contains starts t
    pub rises : (i j : ℕ) → i < j → j < length starts → slice_index starts i ≤ slice_index starts j
    pub last_is : (g : Merge) (t : ℕ) → CaseStart bs p g t → last ≡ g.merge_block

  pub record AreHighs (values : List ℕ) : Type 0 where
    pub counted : length values ≡ length bs
    pub each : (q : ℕ) (b : BasicBlock) → At bs q b → IsHigh b (slice_index values q)

  pub record AreLows (values : List ℕ) : Type 0 where
    pub counted : length values ≡ length bs
    pub each : (q : ℕ) (b : BasicBlock) → At bs q b → IsLow b (slice_index values q)

  pub record AreEdgeTables (t : EdgeTables) : Type 0 where
    pub sources : LeastTable (SpanOf EdgeOf) (length bs) t.sources
    pub first_backs : LeastTable (SpanOf BackOf) (length bs) t.first_backs
    pub last_backs : GreatestTable (SpanOf BackTo) (length bs) t.last_backs
    pub lows : AreLows t.lows
    pub highs : AreHighs t.highs

  pub record AreRowTables (t : RowTables) : Type 0 where
    pub mergers : LeastTable (SpanOf HeaderOf) (length bs) t.mergers
    pub nested_ends : EndTable (SpanOf NestedOf) 1 (length bs) t.nested_ends
    pub row_ends : EndTable (SpanOf RowOf) 1 (length bs) t.row_ends
    pub row_overs : OverTable (SpanOf RowOf) 1 (length bs) t.row_overs
    pub case_froms : LeastTable (SpanOf CaseFrom) (length bs) t.case_froms

  pub record AreConstructTables (t : ConstructTables) : Type 0 where
    pub left_ends : EndTable (SpanOf LeftOf) 0 (length bs) t.left_ends
    pub body_ends : EndTable (SpanOf BodyOf) 0 (length bs) t.body_ends
    pub loops : OverTable (SpanOf LoopOf) 0 (length bs) t.loops
    pub switches : OverTable (SpanOf SwitchOf) 0 (length bs) t.switches

  pub record AreTables (t : Tables) : Type 0 where
    pub sources : LeastTable (SpanOf EdgeOf) (length bs) t.sources
    pub mergers : LeastTable (SpanOf HeaderOf) (length bs) t.mergers
    pub first_backs : LeastTable (SpanOf BackOf) (length bs) t.first_backs
    pub last_backs : GreatestTable (SpanOf BackTo) (length bs) t.last_backs
    pub nested_ends : EndTable (SpanOf NestedOf) 1 (length bs) t.nested_ends
    pub row_ends : EndTable (SpanOf RowOf) 1 (length bs) t.row_ends
    pub row_overs : OverTable (SpanOf RowOf) 1 (length bs) t.row_overs
    pub left_ends : EndTable (SpanOf LeftOf) 0 (length bs) t.left_ends
    pub body_ends : EndTable (SpanOf BodyOf) 0 (length bs) t.body_ends
    pub loops : OverTable (SpanOf LoopOf) 0 (length bs) t.loops
    pub switches : OverTable (SpanOf SwitchOf) 0 (length bs) t.switches
    pub case_froms : LeastTable (SpanOf CaseFrom) (length bs) t.case_froms
    pub lows : AreLows t.lows
    pub highs : AreHighs t.highs
