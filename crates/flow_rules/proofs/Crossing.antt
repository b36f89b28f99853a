-- Where nothing is broken before a header, its rows cross one of an earlier header exactly where it ends behind the least end of a row that is open there.
use Rattle.std.proofs.Common.{ℕ, ◌≡◌, ◌<◌, ◌≤◌, ◌+◌, inl, inr, refl, sym, ap, subst, arith, List}
use Rattle.std.proofs.lemmas.Bool.{cases_lt}
use Rattle.flow_rules.specs.Blocks.{BasicBlock}
use Rattle.flow_rules.specs.declared.block.Merge.{Merge}
use Rattle.flow_rules.specs.declared.block.MergeKind.{MergeKind}
use Rattle.flow_rules.specs.declared.block.MergeKind.TheVariants.{Selection, Loop}
use Rattle.flow_rules.specs.Flow.{Row, In, Edge, Header, Loops, selection, loop_construct, continue_construct, IsRow, is_construct, is_loop, is_case}
use Rattle.flow_rules.specs.Rules.{by_target, s9, BreaksMerge, s7, Cross, IsClear}
use Rattle.flow_rules.specs.Lists.{FirstEnd, SpanOf, NestedOf, nested_header, nested_body, nested_case}
use Rattle.flow_rules.proofs.Blocks.{is_less, is_same, is_more, compared}

-- a row with given numbers
pub record RowWith (bs : List BasicBlock) (h f e : ℕ) : Type 0 where
  pub row : Row
  pub is_row : IsRow bs row
  pub of_is : row.of ≡ h
  pub first_is : row.first ≡ f
  pub end_is : row.end ≡ e

abbrev pub whole : ℕ → Merge → Row
whole k g = record { of = k; by = g; first = k; end = g.merge_block }

-- the rows of a header lie between it and its merge block
pub record IsNarrow (bs : List BasicBlock) (k : ℕ) (g : Merge) : Type 0 where
  pub ahead : k < g.merge_block
  pub behind : (c : ℕ) → Loops bs k g c → k ≤ c
  pub before : (c : ℕ) → Loops bs k g c → c < g.merge_block

module _ (bs : List BasicBlock) where
  pub header_row : (k : ℕ) (g : Merge) → Header bs k g → IsRow bs (whole k g)
  header_row k g h = by_kind g.kind refl where
    by_kind : (m : MergeKind) → g.kind ≡ m → IsRow bs (whole k g)
    by_kind Selection e = is_construct (selection (record { header = h; kind = e }) refl refl)
    by_kind (Loop c) e = is_loop (record { continue_target = c; loops = record { header = h; kind = e }; first_is = refl; end_is = refl })

  pub nested_row : (h f e : ℕ) → NestedOf bs h f e → RowWith bs h f e × (h ≤ f)
  nested_row h f e (nested_header z) = (record { row = whole h z.by; is_row = header_row h z.by z.header; of_is = refl; first_is = sym z.first_is; end_is = sym z.end_is }, omega (arith, z.first_is))
  nested_row h f e (nested_body z) =
      (record { row = record { of = h; by = z.by; first = h; end = e }; is_row = is_construct (loop_construct e z.loops refl refl); of_is = refl; first_is = sym z.first_is; end_is = refl }, omega (arith, z.first_is))
  nested_row h f e (nested_case z) =
      (record { row = record { of = h; by = z.by; first = f; end = e }; is_row = is_case z.is_case; of_is = refl; first_is = refl; end_is = refl }, omega (arith, z.is_case.start.behind))

  pub crossing_found : (count k v : ℕ) (g : Merge) → Header bs k g → FirstEnd (SpanOf (NestedOf bs)) 1 count k v → v < g.merge_block → g.merge_block < count → BreaksMerge bs k g 7
  crossing_found count k v g head z low high = go (z.attained (omega arith)) where
    go : (f : ℕ) × ((h : ℕ) × NestedOf bs h f v) × (f + 1 ≤ k) → BreaksMerge bs k g 7
    go (f, (h, n), early) =
        let (w, order) = nested_row h f v n in
        let over : k < v = z.behind in
        s7 w.row (whole k g) w.is_row (header_row k g head) (omega (arith, w.of_is)) refl refl (record {
          common = k;
          in_first = record { from = omega (arith, w.first_is); before = omega (arith, w.end_is) };
          in_second = record { from = omega arith; before = omega arith };
          first_only = f;
          of_first = record { from = omega (arith, w.first_is); before = omega (arith, w.end_is) };
          not_second = λ i. (let from = i.from in omega arith);
          second_only = v;
          of_second = record { from = omega arith; before = omega arith };
          not_first = λ i. (let before = i.before in omega (arith, w.end_is));
        })

  -- an edge into the middle of the rows of a later header
  pub entering : (k h t : ℕ) (g : Merge) → IsClear bs k → Header bs k g → h < k → Edge bs h t → k < t → t < g.merge_block → ⊥
  entering k h t g clear head early edge behind before =
      clear.ends h edge.block 9 early edge.at (by_target t edge (s9 (whole k g) (header_row k g head) (λ i. (let from = i.from in omega arith)) (record { from = omega arith; before = before }) (λ e. omega arith)))

  -- r has all blocks of the rows of k
  record Covers (r : Row) (k m : ℕ) : Type 0 where
    from : r.first ≤ k
    to : m ≤ r.end

  -- the rows of k lie in the whole
  row_within : (k : ℕ) (g : Merge) → IsNarrow bs k g → (s : Row) → IsRow bs s → s.of ≡ k → s.by ≡ g → (k ≤ s.first) × (s.end ≤ g.merge_block)
  row_within k g n s is a b = go s is (subst (λ (x : ℕ). IsNarrow bs x s.by) (sym a) (subst (λ (x : Merge). IsNarrow bs k x) (sym b) n)) a (ap (λ (x : Merge). x.merge_block) b) where
    go : (r : Row) → IsRow bs r → IsNarrow bs r.of r.by → r.of ≡ k → r.by.merge_block ≡ g.merge_block → (k ≤ r.first) × (r.end ≤ g.merge_block)
    go r (is_construct (selection sel f e)) w same end = (omega arith, omega arith)
    go r (is_construct (loop_construct c l f e)) w same end = (omega arith, omega (arith, w.before c l))
    go r (is_construct (continue_construct c l f e)) w same end = (omega (arith, w.behind c l), omega arith)
    go r (is_loop l) w same end = (omega (arith, l.first_is), omega (arith, l.end_is))
    go r (is_case c) w same end = (let h : r.of < r.first = c.start.behind in omega arith, elim c.end_is [ inl t ↦ (let h : r.end < r.by.merge_block = t.before in omega arith) | inr e ↦ omega arith ])

  module _ (count k v : ℕ) (g : Merge) (clear : IsClear bs k) (head : Header bs k g) (z : FirstEnd (SpanOf (NestedOf bs)) 1 count k v) (fits : g.merge_block ≤ v) where
    open_end : (h f e : ℕ) → NestedOf bs h f e → f < k → k < e → g.merge_block ≤ e
    open_end h f e n early over = omega (arith, z.least f e (h, n) (omega arith) over)

    covered : (r : Row) (x : ℕ) → IsRow bs r → r.of < k → In r x → k ≤ x → x < g.merge_block → Covers r k g.merge_block
    covered r x (is_construct (selection s f e)) early i low high =
        let from = i.from in let before = i.before in
        record { from = omega arith; to = omega (arith, open_end r.of r.of r.by.merge_block (nested_header (record { by = r.by; header = s.header; first_is = refl; end_is = refl })) early (omega arith)) }
    covered r x (is_construct (loop_construct c l f e)) early i low high =
        let before = i.before in
        record { from = omega arith; to = omega (arith, e, open_end r.of r.of c (nested_body (record { by = r.by; loops = l; first_is = refl })) early (omega arith)) }
    covered r x (is_construct (continue_construct c l f e)) early i low high =
        let from = i.from in let before = i.before in
        let whole_end : g.merge_block ≤ r.by.merge_block = open_end r.of r.of r.by.merge_block (nested_header (record { by = r.by; header = l.header; first_is = refl; end_is = refl })) early (omega arith) in
        elim (cases_lt k c) [
          | inl later ↦ absurd (omega (arith, open_end r.of r.of c (nested_body (record { by = r.by; loops = l; first_is = refl })) early later))
          | inr earlier ↦ record { from = omega arith; to = omega arith }
        ]
    covered r x (is_loop l) early i low high =
        let from = i.from in let before = i.before in
        let f = l.first_is in let e = l.end_is in
        record { from = omega arith; to = omega (arith, open_end r.of r.of r.by.merge_block (nested_header (record { by = r.by; header = l.loops.header; first_is = refl; end_is = refl })) early (omega arith)) }
    covered r x (is_case c) early i low high =
        let from = i.from in let before = i.before in
        elim (compared r.first k) [
          | is_less h ↦ record { from = omega arith; to = open_end r.of r.first r.end (nested_case (record { by = r.by; is_case = c })) h (omega arith) }
          | is_more h ↦ absurd (entering k r.of r.first g clear head early c.start.edge h (omega arith))
          | is_same h ↦ record {
            from = omega arith;
            to = elim c.end_is [
              | inl t ↦ elim (cases_lt r.end g.merge_block) [
                | inl inner ↦ absurd (entering k r.of r.end g clear head early t.edge (let b = c.behind in omega arith) inner)
                | inr outer ↦ outer
              ]
              | inr e ↦ omega (arith, e, open_end r.of r.of r.by.merge_block (nested_header (record { by = r.by; header = c.start.switches.selects.header; first_is = refl; end_is = refl })) early (omega arith))
            ];
          }
        ]

    pub crossing_none : IsNarrow bs k g → (r s : Row) → IsRow bs r → IsRow bs s → r.of < s.of → s.of ≡ k → s.by ≡ g → Cross r s → ⊥
    crossing_none narrow r s ir is order of_is by_is x =
        let (low, high) = row_within k g narrow s is of_is by_is in
        let from = x.in_second.from in
        let before = x.in_second.before in
        let c = covered r x.common ir (omega arith) x.in_first (omega arith) (omega arith) in
        x.not_first (record { from = (let a = c.from in let b = x.of_second.from in omega arith); before = (let a = c.to in let b = x.of_second.before in omega arith) })
