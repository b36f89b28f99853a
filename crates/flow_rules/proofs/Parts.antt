-- The spans of a block, family by family.
use Rattle.std.proofs.Common.{ℕ, ◌≡◌, ◌<◌, ◌≤◌, ◌+◌, ◌⊎◌, inl, inr, sym, subst, ◌∙◌, arith, List, [], length, get_or, Option}
use Rattle.std.proofs.lemmas.Bool.{cases_lt}
use Rattle.std.specs.List.{Contains}
use Rattle.flow_scans.specs.declared.span.Span.{Span}
use Rattle.flow_rules.specs.Blocks.{BasicBlock}
use Rattle.flow_rules.specs.declared.block.Merge.{Merge}
use Rattle.flow_rules.specs.declared.lists.Family.{Family}
use Rattle.flow_rules.specs.declared.lists.Family.TheVariants.{Edges, Headers, Backs, Returns, Nested, Rows, Lefts, Bodies, Loops as AllLoops, Switches as AllSwitches, CaseFroms}
use Rattle.flow_rules.specs.Flow.{At, Edge, Header, StructuralEdge, by_branch, by_merge, by_continue}
use Rattle.flow_rules.specs.Lists.{Lists, ListsTo, SpanOf, Extends, IsSpanOf, with_span, TargetOf, BackTarget, BackSource, Starts, CasesTo, FromSpan, HeaderOf, BodyOf, ContinueOf, SelectionOf, CaseFrom, NestedOf, nested_header, nested_body, nested_case, RowOf, row_nested, row_continue, LeftOf, left_selection, left_continue, EdgeOf, BackOf, BackTo, OfFamily}
use Rattle.flow_rules.proofs.Blocks.{at_same, at_below}
use Rattle.flow_rules.proofs.Listing.{extends_same, extends_both, extends_span}
use Rattle.flow_rules.proofs.Starts.{case_sound, case_complete, from_sound, from_complete}

module _ (bs : List BasicBlock) (p : ℕ) where
  target_of : (b : BasicBlock) (q : ℕ) → At bs p b → Edge bs p q → Contains b.targets q
  target_of b q at e = subst (λ (d : BasicBlock). Contains d.targets q) (at_same bs p e.block b e.at at) e.target

  pub edges_all : (b : BasicBlock) (old a c new : List Span) (hs bo : Option Span) → At bs p b → Extends (TargetOf p b.targets) old a → c ≡ with_span a hs → IsSpanOf hs (HeaderOf bs p) → new ≡ with_span c bo → IsSpanOf bo (BodyOf bs p) → Extends (EdgeOf bs p) old new
  edges_all b old a c new hs bo at x c_is h new_is d =
      extends_both (λ f e. TargetOf p b.targets f e ⊎ HeaderOf bs p f e) (BodyOf bs p) (EdgeOf bs p) old c new
      (extends_both (TargetOf p b.targets) (HeaderOf bs p) (λ f e. TargetOf p b.targets f e ⊎ HeaderOf bs p f e) old a c x (extends_span (HeaderOf bs p) a c hs c_is h) (λ f e z. inl z) (λ f e z. inr z) (λ f e z. z))
      (extends_span (BodyOf bs p) c new bo new_is d)
      (λ f e z. elim z [
        | inl t ↦ record { edge = by_branch (record { block = b; at = at; target = t.target }); first_is = t.first_is }
        | inr k ↦ record { edge = by_merge k.by k.header (sym k.end_is); first_is = k.first_is }
      ])
      (λ f e z. record { edge = by_continue z.by z.loops; first_is = z.first_is })
      back where
        back : (f e : ℕ) → EdgeOf bs p f e → (TargetOf p b.targets f e ⊎ HeaderOf bs p f e) ⊎ BodyOf bs p f e
        back f e z = go z.edge where
          go : StructuralEdge bs p e → (TargetOf p b.targets f e ⊎ HeaderOf bs p f e) ⊎ BodyOf bs p f e
          go (by_branch k) = inl (inl (record { target = target_of b e at k; first_is = z.first_is }))
          go (by_merge g k is) = inl (inr (record { by = g; header = k; first_is = z.first_is; end_is = sym is }))
          go (by_continue g k) = inr (record { by = g; loops = k; first_is = z.first_is })

  pub backs_all : (b : BasicBlock) (old new : List Span) → At bs p b → Extends (BackTarget p b.targets) old new → Extends (BackOf bs p) old new
  backs_all b old new at x = extends_same (BackTarget p b.targets) (BackOf bs p) old new x
      (λ f e z. record { edge = record { edge = record { block = b; at = at; target = z.target }; back = z.back }; first_is = z.first_is })
      (λ f e z. record { target = target_of b e at z.edge.edge; back = z.edge.back; first_is = z.first_is })

  pub returns_all : (b : BasicBlock) (old new : List Span) → At bs p b → Extends (BackSource p b.targets) old new → Extends (BackTo bs p) old new
  returns_all b old new at x = extends_same (BackSource p b.targets) (BackTo bs p) old new x
      (λ f e z. record { edge = record { edge = record { block = b; at = at; target = z.target }; back = z.back }; end_is = z.end_is })
      (λ f e z. record { target = target_of b f at z.edge.edge; back = z.edge.back; end_is = z.end_is })

  pub nested_all : (old a c new : List Span) (hs bo : Option Span) (xs : List ℕ) (last : ℕ) → a ≡ with_span old hs → IsSpanOf hs (HeaderOf bs p) → c ≡ with_span a bo → IsSpanOf bo (BodyOf bs p) → Starts bs p xs last
      → Extends (CasesTo xs last (length xs)) c new → Extends (NestedOf bs p) old new
  nested_all old a c new hs bo xs last a_is h c_is d starts x =
      extends_both (λ f e. HeaderOf bs p f e ⊎ BodyOf bs p f e) (CasesTo xs last (length xs)) (NestedOf bs p) old c new
      (extends_both (HeaderOf bs p) (BodyOf bs p) (λ f e. HeaderOf bs p f e ⊎ BodyOf bs p f e) old a c (extends_span (HeaderOf bs p) old a hs a_is h) (extends_span (BodyOf bs p) a c bo c_is d) (λ f e z. inl z) (λ f e z. inr z) (λ f e z. z))
      x
      (λ f e z. elim z [ inl k ↦ nested_header k | inr k ↦ nested_body k ])
      (λ f e z. nested_case (case_sound bs p xs last starts f e z))
      back where
        back : (f e : ℕ) → NestedOf bs p f e → (HeaderOf bs p f e ⊎ BodyOf bs p f e) ⊎ CasesTo xs last (length xs) f e
        back f e (nested_header z) = inl (inl z)
        back f e (nested_body z) = inl (inr z)
        back f e (nested_case z) = inr (case_complete bs p xs last starts f e z)

  pub rows_all : (old a new : List Span) (span : Option Span) → Extends (NestedOf bs p) old a → new ≡ with_span a span → IsSpanOf span (ContinueOf bs p) → Extends (RowOf bs p) old new
  rows_all old a new span x is one =
      extends_both (NestedOf bs p) (ContinueOf bs p) (RowOf bs p) old a new x (extends_span (ContinueOf bs p) a new span is one) (λ f e z. row_nested z) (λ f e z. row_continue z) back where
        back : (f e : ℕ) → RowOf bs p f e → NestedOf bs p f e ⊎ ContinueOf bs p f e
        back f e (row_nested z) = inl z
        back f e (row_continue z) = inr z

  pub lefts_all : (old a new : List Span) (ss cs : Option Span) → a ≡ with_span old ss → IsSpanOf ss (SelectionOf bs p) → new ≡ with_span a cs → IsSpanOf cs (ContinueOf bs p) → Extends (LeftOf bs p) old new
  lefts_all old a new ss cs a_is s new_is k =
      extends_both (SelectionOf bs p) (ContinueOf bs p) (LeftOf bs p) old a new (extends_span (SelectionOf bs p) old a ss a_is s) (extends_span (ContinueOf bs p) a new cs new_is k) (λ f e z. left_selection z) (λ f e z. left_continue z) back where
        back : (f e : ℕ) → LeftOf bs p f e → SelectionOf bs p f e ⊎ ContinueOf bs p f e
        back f e (left_selection z) = inl z
        back f e (left_continue z) = inr z

  pub froms_all : (old new : List Span) (xs : List ℕ) (last : ℕ) → Starts bs p xs last → Extends (FromSpan xs) old new → Extends (CaseFrom bs p) old new
  froms_all old new xs last starts x = extends_same (FromSpan xs) (CaseFrom bs p) old new x (from_sound bs p xs last starts) (from_complete bs p xs last starts)

  header_within : (g : Merge) → Header bs p g → p < length bs
  header_within g h = at_below bs p h.block h.at

  edge_within : (q : ℕ) → Edge bs p q → p < length bs
  edge_within q e = at_below bs p e.block e.at

  pub family_within : (family : Family) (f e : ℕ) → OfFamily bs family p f e → p < length bs
  family_within Edges f e z = go z.edge where
    go : StructuralEdge bs p e → p < length bs
    go (by_branch k) = edge_within e k
    go (by_merge g k is) = header_within g k
    go (by_continue g k) = header_within g k.header
  family_within Headers f e z = header_within z.by z.header
  family_within Backs f e z = edge_within e z.edge.edge
  family_within Returns f e z = edge_within f z.edge.edge
  family_within Nested f e (nested_header z) = header_within z.by z.header
  family_within Nested f e (nested_body z) = header_within z.by z.loops.header
  family_within Nested f e (nested_case z) = header_within z.by z.is_case.start.switches.selects.header
  family_within Rows f e (row_nested (nested_header z)) = header_within z.by z.header
  family_within Rows f e (row_nested (nested_body z)) = header_within z.by z.loops.header
  family_within Rows f e (row_nested (nested_case z)) = header_within z.by z.is_case.start.switches.selects.header
  family_within Rows f e (row_continue z) = header_within z.by z.loops.header
  family_within Lefts f e (left_selection z) = header_within z.by z.selects.header
  family_within Lefts f e (left_continue z) = header_within z.by z.loops.header
  family_within Bodies f e z = header_within z.by z.loops.header
  family_within AllLoops f e z = header_within z.by z.loops.header
  family_within AllSwitches f e z = header_within z.by z.switches.selects.header
  family_within CaseFroms f e z = header_within z.by z.start.switches.selects.header

pub froms_of : (xs : List ℕ) (first : ℕ) (old new : List Span) → 0 < length xs → get_or xs 0 0 ≡ first → Extends (TargetOf first xs) old new → Extends (FromSpan xs) old new
froms_of xs first old new some is x = extends_same (TargetOf first xs) (FromSpan xs) old new x
    (λ f e z. record { within = some; first_is = is ∙ sym z.first_is; start = z.target })
    (λ f e z. record { target = z.start; first_is = sym z.first_is ∙ is })

pub lists_none : (P : ℕ → ℕ → ℕ → Type 0) (spans : List Span) → spans ≡ [] → ListsTo P 0 spans
lists_none P spans is = rw is (record { sound = λ f e (k, below, same). absurd (omega arith); complete = λ p f e h. absurd (omega arith) })

pub lists_more : (P : ℕ → ℕ → ℕ → Type 0) (k : ℕ) (old new : List Span) → ListsTo P k old → Extends (P k) old new → ListsTo P (k + 1) new
lists_more P k old new z x = record {
  sound = λ f e h. elim (x.only f e h) [
    | inl o ↦ (let (p, low, has) = z.sound f e o in (p, omega arith, has))
    | inr n ↦ (k, omega arith, n)
  ];
  complete = λ p f e h has. elim (cases_lt p k) [
    | inl low ↦ x.kept f e (z.complete p f e low has)
    | inr high ↦ x.added f e (let same : p ≡ k = omega arith in subst (λ (n : ℕ). P n f e) same has)
  ];
}

pub lists_all : (bs : List BasicBlock) (family : Family) (k : ℕ) (spans : List Span) → length bs ≤ k → ListsTo (OfFamily bs family) k spans → Lists (SpanOf (OfFamily bs family)) spans
lists_all bs family k spans all z = record {
  sound = λ f e h. (let (p, low, has) = z.sound f e h in (p, has));
  complete = λ f e (p, has). z.complete p f e (let w = family_within bs p family f e has in omega arith) has;
}
