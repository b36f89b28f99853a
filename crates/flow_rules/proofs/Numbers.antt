-- The tables tell of the blocks what they tell of the lists of spans.
use Rattle.std.proofs.Common.{ℕ, ◌≡◌, ◌<◌, ◌+◌, ◌-◌, ◌^◌, max, inl, inr, refl, sym, ap, subst, ◌∙◌, arith, List, [], ◌∷◌, ◌++◌, length, get_or, take, length-append}
use Rattle.std.proofs.lemmas.Bool.{cases_lt}
use Rattle.std.proofs.lemmas.Grind.{common_steps}
use Rattle.std.specs.List.{Contains}
use Rattle.std.specs.Ordering.{ord_max, nat_cmp}
use Rattle.flow_scans.specs.declared.span.Span.{Span}
use Rattle.flow_scans.specs.Spans.{Below, IsLeastFirst, IsGreatestEnd, IsFirstEnd, IsLastOver, AreLeastFirsts, AreGreatestEnds, AreFirstEnds, AreLastOvers}
use Rattle.flow_rules.specs.Blocks.{BasicBlock}
use Rattle.flow_rules.specs.declared.block.Merge.{Merge}
use Rattle.flow_rules.specs.declared.lists.Family.{Family}
use Rattle.flow_rules.specs.declared.lists.Family.TheVariants.{Edges, Headers, Backs, Returns, Nested, Rows, Lefts, Bodies, Loops as AllLoops, Switches as AllSwitches, CaseFroms}
use Rattle.flow_rules.specs.Flow.{At, Header, by_branch, by_merge, by_continue}
use Rattle.flow_rules.specs.Rules.{IsNumbered}
use Rattle.flow_rules.specs.Lists.{Lists, SpanOf, LeastFirst, GreatestEnd, FirstEnd, LastOver, LeastTable, GreatestTable, EndTable, OverTable, HeaderOf, BodyOf, ContinueOf, CaseOf, NestedOf, nested_header, nested_body, nested_case, row_nested, row_continue, left_selection, left_continue, OfFamily, HighTo, IsLowTo}
use Rattle.flow_rules.proofs.Blocks.{at_same}
use Rattle.flow_rules.proofs.Listing.{taken_none, taken_cases, taken_old, taken_new}
use Rattle.flow_rules.proofs.Parts.{family_within}

pub record Both (count f e : ℕ) : Type 0 where
  pub first : f < count
  pub end : e < count

module _ (bs : List BasicBlock) (n : IsNumbered bs) where
  merge_below : (h : ℕ) (g : Merge) → Header bs h g → g.merge_block < length bs
  merge_below h g k = n.targets h g.merge_block (by_merge g k refl)

  header_numbers : (p f e : ℕ) → HeaderOf bs p f e → Both (length bs) f e
  header_numbers p f e z = record { first = (let w = family_within bs p Headers f e z in omega (arith, z.first_is)); end = omega (arith, z.end_is, merge_below p z.by z.header) }

  body_numbers : (p f e : ℕ) → BodyOf bs p f e → Both (length bs) f e
  body_numbers p f e z = record { first = (let w = family_within bs p Bodies f e z in omega (arith, z.first_is)); end = n.targets p e (by_continue z.by z.loops) }

  case_numbers : (p f e : ℕ) → CaseOf bs p f e → Both (length bs) f e
  case_numbers p f e z = record {
    first = n.targets p f (by_branch z.is_case.start.edge);
    end = elim z.is_case.end_is [ inl s ↦ n.targets p e (by_branch s.edge) | inr m ↦ omega (arith, merge_below p z.by z.is_case.start.switches.selects.header) ];
  }

  continue_numbers : (p f e : ℕ) → ContinueOf bs p f e → Both (length bs) f e
  continue_numbers p f e z = record { first = n.targets p f (by_continue z.by z.loops); end = omega (arith, z.end_is, merge_below p z.by z.loops.header) }

  nested_numbers : (p f e : ℕ) → NestedOf bs p f e → Both (length bs) f e
  nested_numbers p f e (nested_header z) = header_numbers p f e z
  nested_numbers p f e (nested_body z) = body_numbers p f e z
  nested_numbers p f e (nested_case z) = case_numbers p f e z

  pub numbers : (family : Family) (p f e : ℕ) → OfFamily bs family p f e → Both (length bs) f e
  numbers Edges p f e z = record { first = (let w = family_within bs p Edges f e z in omega (arith, z.first_is)); end = n.targets p e z.edge }
  numbers Headers p f e z = header_numbers p f e z
  numbers Backs p f e z = record { first = (let w = family_within bs p Backs f e z in omega (arith, z.first_is)); end = n.targets p e (by_branch z.edge.edge) }
  numbers Returns p f e z = record { first = n.targets p f (by_branch z.edge.edge); end = (let w = family_within bs p Returns f e z in omega (arith, z.end_is)) }
  numbers Nested p f e z = nested_numbers p f e z
  numbers Rows p f e (row_nested z) = nested_numbers p f e z
  numbers Rows p f e (row_continue z) = continue_numbers p f e z
  numbers Lefts p f e (left_selection z) = header_numbers p f e (record { by = z.by; header = z.selects.header; first_is = z.first_is; end_is = z.end_is })
  numbers Lefts p f e (left_continue z) = continue_numbers p f e z
  numbers Bodies p f e z = body_numbers p f e z
  numbers AllLoops p f e z = header_numbers p f e (record { by = z.by; header = z.loops.header; first_is = z.first_is; end_is = z.end_is })
  numbers AllSwitches p f e z = header_numbers p f e (record { by = z.by; header = z.switches.selects.header; first_is = z.first_is; end_is = z.end_is })
  numbers CaseFroms p f e z = record { first = n.targets p f (by_branch z.first_start.edge); end = n.targets p e (by_branch z.start.edge) }

  pub below_of : (family : Family) (spans : List Span) → Lists (SpanOf (OfFamily bs family)) spans → Below (length bs) spans
  below_of family spans l = record {
    first = λ f e h. (let (p, z) = l.sound f e h in (numbers family p f e z).first);
    end = λ f e h. (let (p, z) = l.sound f e h in (numbers family p f e z).end);
  }

module _ (P : ℕ → ℕ → Type 0) (spans : List Span) (l : Lists P spans) where
  pub least_of : (e v : ℕ) → IsLeastFirst spans e v → LeastFirst P e v
  least_of e v z = record { least = λ f p. z.least f (l.complete f e p); attained = λ h. l.sound v e (z.attained h) }

  pub greatest_of : (f v : ℕ) → IsGreatestEnd spans f v → GreatestEnd P f v
  greatest_of f v z = record { greatest = λ e p. z.greatest e (l.complete f e p); attained = λ h. l.sound f v (z.attained h) }

  pub first_end_of : (gap count q v : ℕ) → IsFirstEnd spans gap count q v → FirstEnd P gap count q v
  first_end_of gap count q v z = record {
    behind = z.behind;
    attained = λ h. (let (f, has, early) = z.attained h in (f, l.sound f v has, early));
    least = λ f e p early over. z.least f e (l.complete f e p) early over;
  }

  pub last_over_of : (gap q v : ℕ) → IsLastOver spans gap q v → LastOver P gap q v
  last_over_of gap q v z = record {
    attained = λ f is. (let (e, has, early, over) = z.attained f is in (e, l.sound f e has, early, over));
    last = λ f e p early over. z.last f e (l.complete f e p) early over;
  }

  module _ (count : ℕ) (slice : List Span) (table : List ℕ) (same : slice ≡ spans) (len : length table ≡ count) where
    pub least_table_of : AreLeastFirsts slice count table → LeastTable P count table
    least_table_of each = record { counted = len; each = λ e h. least_of e (get_or table e 0) (subst (λ (s : List Span). IsLeastFirst s e (get_or table e 0)) same (each e h)) }

    pub greatest_table_of : AreGreatestEnds slice count table → GreatestTable P count table
    greatest_table_of each = record { counted = len; each = λ e h. greatest_of e (get_or table e 0) (subst (λ (s : List Span). IsGreatestEnd s e (get_or table e 0)) same (each e h)) }

  pub end_table_of : (gap count : ℕ) (slice : List Span) (table : List ℕ) → slice ≡ spans → length table ≡ count → AreFirstEnds slice gap count table → EndTable P gap count table
  end_table_of gap count slice table same len each =
      record { counted = len; each = λ e h. first_end_of gap count e (get_or table e 0) (subst (λ (s : List Span). IsFirstEnd s gap count e (get_or table e 0)) same (each e h)) }

  pub over_table_of : (gap count : ℕ) (slice : List Span) (table : List ℕ) → slice ≡ spans → length table ≡ count → AreLastOvers slice gap count table → OverTable P gap count table
  over_table_of gap count slice table same len each =
      record { counted = len; each = λ e h. last_over_of gap e (get_or table e 0) (subst (λ (s : List Span). IsLastOver s gap e (get_or table e 0)) same (each e h)) }

-- ---- the greatest and the least target
pub nat_max : (a b : ℕ) → ord_max nat_cmp a b ≡ max a b
nat_max a b = grind (arith, common_steps)

pub high_none : (ts : List ℕ) → HighTo (take 0 ts) 0
high_none ts = record { greatest = λ o h. absurd (taken_none ts o h); attained = λ h. absurd (omega arith) }

pub high_more : (ts : List ℕ) (i t old new : ℕ) → i < length ts → t ≡ get_or ts i 0 → new ≡ max old t → HighTo (take i ts) old → HighTo (take (i + 1) ts) new
high_more ts i t old new inside t_is is z = record {
  greatest = λ o h. elim (taken_cases ts i o inside h) [ inl k ↦ omega (arith, z.greatest o k) | inr k ↦ omega arith ];
  attained = λ some. elim (cases_lt t old) [
    | inl less ↦ (let same : old ≡ new = omega arith in subst (λ (x : ℕ). Contains (take (i + 1) ts) x) same (taken_old ts i old inside (z.attained (omega arith))))
    | inr most ↦ (let same : get_or ts i 0 ≡ new = omega arith in subst (λ (x : ℕ). Contains (take (i + 1) ts) x) same (taken_new ts i inside))
  ];
}

pub low_none : (ts : List ℕ) → IsLowTo (take 0 ts) 0
low_none ts = record { least = λ o h. absurd (taken_none ts o h); attained = λ h. absurd (omega arith) }

pub low_more : (ts : List ℕ) (i t old new : ℕ) → i < length ts → t ≡ get_or ts i 0 → t < 2 ^ 32 → new ≡ max old (2 ^ 32 - 1 - t) → IsLowTo (take i ts) old → IsLowTo (take (i + 1) ts) new
low_more ts i t old new inside t_is small is z = record {
  least = λ o h. elim (taken_cases ts i o inside h) [ inl k ↦ omega (arith, z.least o k) | inr k ↦ omega arith ];
  attained = λ some. elim (cases_lt (2 ^ 32 - 1 - t) old) [
    | inl less ↦ (let (o, k, e) = z.attained (omega arith) in (o, taken_old ts i o inside k, omega arith))
    | inr most ↦ (get_or ts i 0, taken_new ts i inside, omega arith)
  ];
}

pub values_more : (P : BasicBlock → ℕ → Type 0) (bs : List BasicBlock) (k v : ℕ) (b : BasicBlock) (old new : List ℕ) → At bs k b → P b v → length old ≡ k → new ≡ old ++ v ∷ []
    → ((q : ℕ) (d : BasicBlock) → q < k → At bs q d → P d (get_or old q 0)) → (length new ≡ k + 1) × ((q : ℕ) (d : BasicBlock) → q < k + 1 → At bs q d → P d (get_or new q 0))
values_more P bs k v b old new at here len is before = (
  ap (λ (l : List ℕ). length l) is ∙ omega (arith, length-append old (v ∷ [])),
  λ q d h k_at. subst (λ (l : List ℕ). P d (get_or l q 0)) (sym is) (elim (cases_lt q k) [
    | inl low ↦ subst (λ (x : ℕ). P d x) (sym (pushed_old old v q (omega arith))) (before q d low k_at)
    | inr high ↦
        let same : k ≡ q = omega arith in
        let one : b ≡ d = at_same bs q b d (subst (λ (x : ℕ). At bs x b) same at) k_at in
        subst (λ (x : BasicBlock). P x (get_or (old ++ v ∷ []) q 0)) one (subst (λ (x : ℕ). P b (get_or (old ++ v ∷ []) x 0)) (len ∙ same) (subst (λ (x : ℕ). P b x) (sym (pushed_new old v)) here))
  ]),
) where
  pushed_old : (xs : List ℕ) (v k : ℕ) → k < length xs → get_or (xs ++ v ∷ []) k 0 ≡ get_or xs k 0
  pushed_old xs v k h = grind (arith, common_steps)

  pushed_new : (xs : List ℕ) (v : ℕ) → get_or (xs ++ v ∷ []) (length xs) 0 ≡ v
  pushed_new xs v = grind (arith, common_steps)
