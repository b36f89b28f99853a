-- What the tables decide at labels and merge instructions.
use Rattle.std.proofs.Common.{ℕ, zero, suc, ◌≡◌, ◌≢◌, ◌<◌, ◌≤◌, ◌+◌, ◌-◌, ◌^◌, ◌⊎◌, inl, inr, refl, sym, ap, subst, ◌∙◌, arith, List, [], ◌∷◌, length, get_or, slice_get, Some, Bool, true, false, ltb, leb, IsTrue, ◌↔◌}
use Rattle.std.proofs.lemmas.Bool.{cases_lt, ltb-true, ltb-false, leb-true, leb-false}
use Rattle.std.specs.List.{Contains}
use Rattle.flow_scans.specs.Ranges.{Exceeds}
use Rattle.flow_rules.specs.Blocks.{BasicBlock}
use Rattle.flow_rules.specs.declared.block.Merge.{Merge}
use Rattle.flow_rules.specs.declared.lists.Family.TheVariants.{Edges, Backs}
use Rattle.flow_rules.specs.Flow.{Row, In, At, Header, Loops, StructuralEdge, BackEdge, SoleBack}
use Rattle.flow_rules.specs.Rules.{Strays, Merges, by_stray, by_header, Escapes, by_return, by_edge, BreaksLabel, s12_unreached, s12_first, BreaksMerge, s2_stray, s3, s4, s5_before, s5_behind, s7, s8_outside, s8_leaves, IsClear, AreInOrder}
use Rattle.flow_rules.specs.Lists.{SpanOf, LeastFirst, GreatestEnd, FirstEnd, EdgeOf, HeaderOf, BackOf, BackTo, NestedOf, IsHigh, high_return, high_target, AreHighs, AreLows}
use Rattle.flow_rules.specs.Answers.{Tells, IsTidy, SomeEscapes}
use Rattle.flow_rules.proofs.Blocks.{header_same, loops_same, is_less, is_same, is_more, compared}
use Rattle.flow_rules.proofs.Parts.{family_within}
use Rattle.flow_rules.proofs.Crossing.{IsNarrow, crossing_found, crossing_none}

tells_of : (P : Type 0) (t : Bool) → (t ≡ true → P) → (t ≡ false → P → ⊥) → Tells t P
tells_of P true holds fails = holds refl
tells_of P false holds fails = fails refl

pub tells_lt : (P : Type 0) (a b : ℕ) → (a < b → P) → (b ≤ a → P → ⊥) → Tells (ltb a b) P
tells_lt P a b holds fails = tells_of P (ltb a b) (λ e. holds (ltb-true a b e)) (λ e. fails (ltb-false a b e))

pub tells_le : (P : Type 0) (a b : ℕ) → (a ≤ b → P) → (b < a → P → ⊥) → Tells (leb a b) P
tells_le P a b holds fails = tells_of P (leb a b) (λ e. holds (leb-true a b e)) (λ e. fails (leb-false a b e))

pub tells_iff : (P Q : Type 0) (t : Bool) → IsTrue t ↔ Q → (Q → P) → (P → Q) → Tells t P
tells_iff P Q t iff to from = tells_of P t (λ e. to (iff.0 e)) (λ e p. (let h = iff.1 (from p) in cc))

pub false_iff : (Q : Type 0) (t : Bool) → IsTrue t ↔ Q → t ≡ false → Q → ⊥
false_iff Q t iff e q = (let h = iff.1 q in cc)

pub true_tells : (P : Type 0) (t : Bool) → Tells t P → t ≡ true → P
true_tells P true tells e = tells
true_tells P false tells e = cc

pub false_tells : (P : Type 0) (t : Bool) → Tells t P → t ≡ false → P → ⊥
false_tells P true tells e = cc
false_tells P false tells e = tells

pub tells_like : (P Q : Type 0) (t : Bool) → Tells t Q → (Q → P) → (P → Q) → Tells t P
tells_like P Q true tells to from = to tells
tells_like P Q false tells to from = λ p. tells (from p)

module _ (bs : List BasicBlock) (small : length bs < 2 ^ 32) where
  edge_before : (p q : ℕ) → StructuralEdge bs p q → p < length bs
  edge_before p q e = family_within bs p Edges p q (record { edge = e; first_is = refl })

  -- ---- S12
  pub first_label : (p v : ℕ) → p ≡ 0 → LeastFirst (SpanOf (EdgeOf bs)) p v → Tells (ltb v (2 ^ 32 - 1)) (BreaksLabel bs p 12)
  first_label p v zero_is z = tells_lt (BreaksLabel bs p 12) v (2 ^ 32 - 1) (λ low. holds (z.attained low)) fails where
    holds : SpanOf (EdgeOf bs) v p → BreaksLabel bs p 12
    holds (q, e) = s12_first q zero_is e.edge

    fails : 2 ^ 32 - 1 ≤ v → BreaksLabel bs p 12 → ⊥
    fails high (s12_unreached some none) = omega arith
    fails high (s12_first q is e) = omega (arith, z.least q (q, record { edge = e; first_is = refl }), edge_before q p e)

  pub other_label : (p v : ℕ) → 0 < p → p < length bs → LeastFirst (SpanOf (EdgeOf bs)) p v → Tells (leb p v) (BreaksLabel bs p 12)
  other_label p v some within z = tells_le (BreaksLabel bs p 12) p v holds fails where
    holds : p ≤ v → BreaksLabel bs p 12
    holds high = s12_unreached some (λ q low e. omega (arith, z.least q (q, record { edge = e; first_is = refl })))

    fails : v < p → BreaksLabel bs p 12 → ⊥
    fails low (s12_unreached h none) = go (z.attained (omega arith)) where
      go : SpanOf (EdgeOf bs) v p → ⊥
      go (q, e) = none q (omega (arith, e.first_is)) e.edge
    fails low (s12_first q is e) = omega arith

  -- ---- S3
  pub shared_merge : (p v : ℕ) (g : Merge) → AreInOrder bs → Header bs p g → IsClear bs p → IsTidy bs p → p < length bs → LeastFirst (SpanOf (HeaderOf bs)) g.merge_block v → Tells (ltb v p) (BreaksMerge bs p g 3)
  shared_merge p v g order head clear tidy within z = tells_lt (BreaksMerge bs p g 3) v p holds fails where
    before : (q : ℕ) (e : Merge) → Header bs q e → q < p → e.word < g.word
    before q e h low =
        let a = order.merge_before q h.block e h.at h.merge in
        let b = order.blocks_rise q p h.block head.block h.at head.at low in
        let c = order.merge_behind p head.block g head.at head.merge in
        omega arith

    holds : v < p → BreaksMerge bs p g 3
    holds low = go (z.attained (omega arith)) where
      go : SpanOf (HeaderOf bs) v g.merge_block → BreaksMerge bs p g 3
      go (q, h) = s3 q h.by (by_header h.header) (before q h.by h.header (omega (arith, h.first_is))) (sym h.end_is)

    fails : p ≤ v → BreaksMerge bs p g 3 → ⊥
    fails high (s3 q e m word same) = elim (compared q p) [
      | is_less low ↦ earlier low m
      | is_same is ↦ here is m
      | is_more later ↦ omega (arith, behind later m)
    ] where
      earlier : q < p → Merges bs q e → ⊥
      earlier low (by_stray s) = clear.merges q e 2 low (by_stray s) (s2_stray s)
      earlier low (by_header h) = omega (arith, z.least q (q, record { by = e; header = h; first_is = refl; end_is = sym same }))

      here : q ≡ p → Merges bs q e → ⊥
      here is (by_stray s) = tidy.none e (subst (λ (x : ℕ). Strays bs x e) is s)
      here is (by_header h) = (let one = ap (λ (m : Merge). m.word) (header_same bs p e g (subst (λ (x : ℕ). Header bs x e) is h) head) in omega arith)

      behind : p < q → Merges bs q e → g.word < e.word
      behind later (by_stray s) =
          let a = order.merge_before p head.block g head.at head.merge in
          let b = order.blocks_rise p q head.block s.block head.at s.at later in
          let c = order.strays_behind q s.block e s.at s.stray in
          omega arith
      behind later (by_header h) =
          let a = order.merge_before p head.block g head.at head.merge in
          let b = order.blocks_rise p q head.block h.block head.at h.at later in
          let c = order.merge_behind q h.block e h.at h.merge in
          omega arith

  -- ---- S6
  module _ (p a z : ℕ) (la : LeastFirst (SpanOf (BackOf bs)) p a) (gz : GreatestEnd (SpanOf (BackTo bs)) p z) where
    back_low : (b : ℕ) → BackEdge bs b p → a ≤ b
    back_low b e = la.least b (b, record { edge = e; first_is = refl })

    back_high : (b : ℕ) → BackEdge bs b p → b ≤ z
    back_high b e = gz.greatest b (b, record { edge = e; end_is = refl })

    back_small : (b : ℕ) → BackEdge bs b p → b < 2 ^ 32 - 1
    back_small b e = omega (arith, family_within bs b Backs b p (record { edge = e; first_is = refl }))

    pub sole_found : a < 2 ^ 32 - 1 → a ≡ z → SoleBack bs p a
    sole_found low same = go (la.attained low) where
      go : SpanOf (BackOf bs) a p → SoleBack bs p a
      go (b, e) = record { back = subst (λ (x : ℕ). BackEdge bs x p) (sym e.first_is) e.edge; only = λ r k. omega (arith, back_low r k, back_high r k) }

    pub sole_none : (a < 2 ^ 32 - 1 → a ≡ z → ⊥) → (b : ℕ) → SoleBack bs p b → ⊥
    sole_none other b s = other low (at_first (la.attained low)) where
      low : a < 2 ^ 32 - 1
      low = omega (arith, back_low b s.back, back_small b s.back)

      at_first : SpanOf (BackOf bs) a p → a ≡ z
      at_first (q, e) = elim (cases_lt 0 z) [
        | inl some ↦ at_last (gz.attained some)
        | inr none ↦ omega (arith, back_low b s.back, back_high b s.back)
      ] where
        first : a ≡ b
        first = e.first_is ∙ s.only q e.edge

        at_last : SpanOf (BackTo bs) p z → a ≡ z
        at_last (r, k) = first ∙ sym (s.only r k.edge) ∙ sym k.end_is

  -- ---- S7
  pub crosses_at : (p v : ℕ) (g : Merge) → Header bs p g → IsClear bs p → FirstEnd (SpanOf (NestedOf bs)) 1 (length bs) p v → g.merge_block < length bs → (BreaksMerge bs p g 4 → ⊥) → (BreaksMerge bs p g 5 → ⊥)
      → Tells (ltb v g.merge_block) (BreaksMerge bs p g 7)
  crosses_at p v g head clear z within not_4 not_5 = tells_lt (BreaksMerge bs p g 7) v g.merge_block (λ low. crossing_found bs (length bs) p v g head z low within) fails where
    narrow : IsNarrow bs p g
    narrow = record {
      ahead = elim (cases_lt p g.merge_block) [ inl h ↦ h | inr h ↦ absurd (not_4 (s4 head h)) ];
      behind = λ c l. elim (cases_lt c p) [ inl h ↦ absurd (not_5 (s5_before c l h)) | inr h ↦ h ];
      before = λ c l. elim (cases_lt c g.merge_block) [ inl h ↦ h | inr h ↦ absurd (not_5 (s5_behind c l h)) ];
    }

    fails : g.merge_block ≤ v → BreaksMerge bs p g 7 → ⊥
    fails high (s7 r s ir is order of_is by_is x) = crossing_none bs (length bs) p v g clear head z high narrow r s ir is order of_is by_is x

  -- ---- S8
  abbrev Escaping : ℕ → Merge → ℕ → ℕ → ℕ → ℕ → Type 0
  Escaping of by first end from to = SomeEscapes bs (record { of = of; by = by; first = first; end = end }) from to

  module _ (of : ℕ) (by : Merge) (first end from to : ℕ) (some : first < end) (fits : end < 2 ^ 32) (inside : to ≤ length bs) (lows highs : List ℕ) (al : AreLows bs lows) (ah : AreHighs bs highs) where
    block_at : (k : ℕ) → k < length bs → (b : BasicBlock) × At bs k b
    block_at k h = go bs k h where
      go : (xs : List BasicBlock) (k : ℕ) → k < length xs → (b : BasicBlock) × (slice_get xs k ≡ Some b)
      go [] k h = absurd (omega arith)
      go (x ∷ xs) zero h = (x, refl)
      go (x ∷ xs) (suc k) h = go xs k (omega arith)

    pub escapes_low : Exceeds lows from to (2 ^ 32 - 1 - first) → Escaping of by first end from to
    escapes_low x = go (block_at x.at (let b = x.before in omega arith)) where
      go : (b : BasicBlock) × At bs x.at b → Escaping of by first end from to
      go (b, at) = (
          let low = al.each x.at b at in
          let above = x.above in
          let (o, has, is) = low.attained (omega arith) in
          record { at = x.at; behind = x.behind; before = x.before; escapes = by_edge o (record { block = b; at = at; target = has }) (λ i. (let f = i.from in omega arith)) }
          )

    pub escapes_high : Exceeds highs from to (end - 1) → Escaping of by first end from to
    escapes_high x = go (block_at x.at (let b = x.before in omega arith)) where
      go : (b : BasicBlock) × At bs x.at b → Escaping of by first end from to
      go (b, at) = by_high (ah.each x.at b at) where
        by_high : IsHigh b (get_or highs x.at 0) → Escaping of by first end from to
        by_high (high_return r is) = record { at = x.at; behind = x.behind; before = x.before; escapes = by_return b at r }
        by_high (high_target r h) =
            let above = x.above in
            record { at = x.at; behind = x.behind; before = x.before; escapes = by_edge _ (record { block = b; at = at; target = h.attained (omega arith) }) (λ i. (let f = i.before in omega arith)) }

    pub escapes_found : Escaping of by first end from to → Exceeds lows from to (2 ^ 32 - 1 - first) ⊎ Exceeds highs from to (end - 1)
    escapes_found x = go x.escapes where
      go : Escapes bs (record { of = of; by = by; first = first; end = end }) x.at → Exceeds lows from to (2 ^ 32 - 1 - first) ⊎ Exceeds highs from to (end - 1)
      go (by_return b at r) = inr (record { at = x.at; behind = x.behind; before = x.before; above = by_high (ah.each x.at b at) }) where
        by_high : IsHigh b (get_or highs x.at 0) → end - 1 < get_or highs x.at 0
        by_high (high_return r is) = omega arith
        by_high (high_target other h) = absurd (other r)
      go (by_edge o e out) = elim (cases_lt o first) [
        | inl low ↦ inl (record {
          at = x.at;
          behind = x.behind;
          before = x.before;
          above = (
              let at_low = al.each x.at e.block e.at in
              omega (arith, at_low.least o e.target)
              );
        })
        | inr behind ↦ elim (cases_lt o end) [
          | inl before ↦ absurd (out (record { from = behind; before = before }))
          | inr high ↦ inr (record { at = x.at; behind = x.behind; before = x.before; above = by_high (ah.each x.at e.block e.at) o e.target high })
        ]
      ] where
        by_high : IsHigh e.block (get_or highs x.at 0) → (o : ℕ) → Contains e.block.targets o → end ≤ o → end - 1 < get_or highs x.at 0
        by_high (high_return r is) o has high = omega arith
        by_high (high_target other h) o has high = omega (arith, h.greatest o has)

    -- where no target is too low
    pub escapes_rest : (low high : Bool) → IsTrue low ↔ Exceeds lows from to (2 ^ 32 - 1 - first) → IsTrue high ↔ Exceeds highs from to (end - 1) → low ≡ false → Tells high (Escaping of by first end from to)
    escapes_rest low high li hi e = tells_iff (Escaping of by first end from to) (Exceeds highs from to (end - 1)) high hi escapes_high (λ x. elim (escapes_found x) [
      | inl l ↦ absurd (false_iff (Exceeds lows from to (2 ^ 32 - 1 - first)) low li e l)
      | inr h ↦ h
    ])

  module _ (p c b : ℕ) (g : Merge) (loops : Loops bs p g c) (some : c < g.merge_block) (sole : SoleBack bs p b) where
    pub outside_low : b < c → BreaksMerge bs p g 8
    outside_low h = s8_outside _ c b loops refl sole (λ i. (let f = i.from in omega arith))

    pub outside_high : g.merge_block ≤ b → BreaksMerge bs p g 8
    outside_high h = s8_outside _ c b loops refl sole (λ i. (let f = i.before in omega arith))

    pub leaves_before : c ≤ b → b < g.merge_block → Escaping p g c g.merge_block c b → BreaksMerge bs p g 8
    leaves_before low high x = s8_leaves _ c b x.at loops refl sole (record { from = x.behind; before = (let h = x.before in omega arith) }) (λ e. (let h = x.before in omega arith)) x.escapes

    pub leaves_behind : c ≤ b → b < g.merge_block → Escaping p g c g.merge_block (b + 1) g.merge_block → BreaksMerge bs p g 8
    leaves_behind low high x = s8_leaves _ c b x.at loops refl sole (record { from = (let h = x.behind in omega arith); before = x.before }) (λ e. (let h = x.behind in omega arith)) x.escapes

    pub stays : c ≤ b → b < g.merge_block → (Escaping p g c g.merge_block c b → ⊥) → (Escaping p g c g.merge_block (b + 1) g.merge_block → ⊥) → BreaksMerge bs p g 8 → ⊥
    stays low high left right (s8_outside r d e l is k out) =
        let same_b : e ≡ b = sole.only e k.back in
        let same_c : d ≡ c = loops_same bs p g g d c l loops in
        out (subst (λ (x : Row). In x e) (sym is) (record { from = omega arith; before = omega arith }))
    stays low high left right (s8_leaves r d e q l is k i other x) =
        let same_b : e ≡ b = sole.only e k.back in
        let same_c : d ≡ c = loops_same bs p g g d c l loops in
        let row = is ∙ ap (λ (n : ℕ). record { of = p; by = g; first = n; end = g.merge_block }) same_c in
        go (subst (λ (y : Row). In y q) row i) (subst (λ (y : Row). Escapes bs y q) row x) (λ h. other (h ∙ sym same_b)) where
          whole_row : Row
          whole_row = record { of = p; by = g; first = c; end = g.merge_block }

          go : In (record { of = p; by = g; first = c; end = g.merge_block }) q → Escapes bs (record { of = p; by = g; first = c; end = g.merge_block }) q → q ≢ b → ⊥
          go j y ne = elim (cases_lt q b) [
            | inl h ↦ left (record { at = q; behind = j.from; before = h; escapes = y })
            | inr h ↦ right (record { at = q; behind = omega arith; before = j.before; escapes = y })
          ]

    pub leaves_tell : c ≤ b → b < g.merge_block → (t : Bool) → (Escaping p g c g.merge_block c b → ⊥) → Tells t (Escaping p g c g.merge_block (b + 1) g.merge_block) → Tells t (BreaksMerge bs p g 8)
    leaves_tell low high true left tells = leaves_behind low high tells
    leaves_tell low high false left tells = stays low high left tells
