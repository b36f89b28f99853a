-- The least rule that is broken at a branch edge, where nothing is broken before.
use Rattle.std.proofs.Common.{ℕ, ◌≡◌, ◌≢◌, ◌<◌, ◌≤◌, ◌+◌, ◌-◌, ◌^◌, ◌⊎◌, inl, inr, refl, sym, subst, ◌∙◌, arith, List, length, get_or, take, Option, Some, None, leb, min}
use Rattle.std.proofs.lemmas.Bool.{cases_lt, cases_eq}
use Rattle.std.proofs.lemmas.List.{take_all}
use Rattle.std.specs.List.{Contains}
use Rattle.flow_scans.specs.declared.span.Span.{Span}
use Rattle.flow_rules.specs.Blocks.{BasicBlock}
use Rattle.flow_rules.specs.declared.block.Merge.{Merge}
use Rattle.flow_rules.specs.declared.tables.Tables.{Tables}
use Rattle.flow_rules.specs.Flow.{At, Edge, Header, SoleBack}
use Rattle.flow_rules.specs.Rules.{BreaksEdge, s6_target, s9, s10, s11, BreaksMerge, s6, BreaksEnd, s1_none, s1_equal, by_target, MayLeave, IsClear, IsMergeClear, by_header}
use Rattle.flow_rules.specs.Lists.{SpanOf, LastOver, LeastFirst, FirstEnd, LoopOf, BodyOf, LeftOf, RowOf, CaseFrom, IsSpanOf, AreTables}
use Rattle.flow_rules.specs.Answers.{Tells, RuleAnswer, NoneBelow, BreaksSome, lesser_of}
use Rattle.flow_rules.proofs.Blocks.{at_same, at_below}
use Rattle.flow_rules.proofs.Deciding.{sole_found, sole_none, tells_le}
use Rattle.flow_rules.proofs.Merging.{none_more, answer_some, answer_none}
use Rattle.flow_rules.proofs.Leaving.{forward_enters, forward_stays, back_enters, back_stays}
use Rattle.flow_rules.proofs.Breaking.{AreHeadsClear, back_within, back_allowed, back_leaves, forward_holds, forward_leaves_end, forward_leaves_body}
use Rattle.flow_rules.proofs.Cases.{crosses_cases, keeps_case, back_keeps_case}
use Rattle.flow_rules.proofs.Listing.{taken_none, taken_cases, taken_old, taken_new}
use Rattle.flow_rules.proofs.Ends.{listed_edge}

module _ (bs : List BasicBlock) (p q : ℕ) where
  pub edge_first : NoneBelow (BreaksEdge bs p q) 6
  edge_first = record { none = go } where
    go : (k : ℕ) → k < 6 → BreaksEdge bs p q k → ⊥
    go k h (s6_target l n) = omega arith
    go k h (s9 r is o i n) = omega arith
    go k h (s10 r is i o n m) = omega arith
    go k h (s11 r t ir it s o i e) = omega arith

  pub edge_last : (k : ℕ) → BreaksEdge bs p q k → k < 12
  edge_last k (s6_target l n) = omega arith
  edge_last k (s9 r is o i n) = omega arith
  edge_last k (s10 r is i o n m) = omega arith
  edge_last k (s11 r t ir it s o i e) = omega arith

  pub edge_gap : (BreaksEdge bs p q 6 → ⊥) → NoneBelow (BreaksEdge bs p q) 9
  edge_gap none = record { none = go } where
    go : (k : ℕ) → k < 9 → BreaksEdge bs p q k → ⊥
    go k h (s6_target l n) = none (s6_target l n)
    go k h (s9 r is o i n) = omega arith
    go k h (s10 r is i o n m) = omega arith
    go k h (s11 r t ir it s o i e) = omega arith

  module _ (small : length bs < 2 ^ 32) (t : Tables) (ts : AreTables bs t) (edge : Edge bs p q) (clear : IsClear bs p) (mclear : IsMergeClear bs p) where
    pub within : p < length bs
    within = at_below bs p edge.block edge.at

    heads : AreHeadsClear bs p
    heads = record { heads = go } where
      go : (h : ℕ) (g : Merge) (rule : ℕ) → h ≤ p → Header bs h g → BreaksMerge bs h g rule → ⊥
      go h g rule low head b = elim (cases_lt h p) [
        | inl less ↦ clear.merges h g rule less (by_header head) b
        | inr most ↦ (
            let same : h ≡ p = omega arith in
            mclear.merges g rule (by_header (subst (λ (x : ℕ). Header bs x g) same head)) (subst (λ (x : ℕ). BreaksMerge bs x g rule) same b)
            )
      ]

    -- ---- back edges
    module _ (back : q ≤ p) where
      pub no_loop : IsSpanOf None (LoopOf bs q) → RuleAnswer (Some 6) (BreaksEdge bs p q)
      no_loop none = answer_some (BreaksEdge bs p q) 6 edge_first (s6_target back (λ g c l. none q g.merge_block (record { by = g; continue_target = c; loops = l; first_is = refl; end_is = refl })))

      module _ (s : Span) (one : IsSpanOf (Some s) (LoopOf bs q)) where
        loop : LoopOf bs q s.first s.end
        loop = one.0

        back_gap : NoneBelow (BreaksEdge bs p q) 9
        back_gap = edge_gap go where
          go : BreaksEdge bs p q 6 → ⊥
          go (s6_target l n) = n loop.by loop.continue_target loop.loops

        sole : SoleBack bs q p
        sole = go (cases_lt a (2 ^ 32 - 1)) (cases_eq a z) where
          q_in : q < length bs
          q_in = at_below bs q loop.loops.header.block loop.loops.header.at

          a : ℕ
          a = get_or t.first_backs q 0

          z : ℕ
          z = get_or t.last_backs q 0

          none : (a < 2 ^ 32 - 1 → a ≡ z → ⊥) → ⊥
          none other = heads.heads q loop.by 6 back loop.loops.header (s6 loop.continue_target loop.loops (sole_none bs small q a z (ts.first_backs.each q q_in) (ts.last_backs.each q q_in) other))

          at_p : (b : ℕ) → SoleBack bs q b → SoleBack bs q p
          at_p b k = subst (λ (x : ℕ). SoleBack bs q x) (sym (k.only p (record { edge = edge; back = back }))) k

          go : (a < 2 ^ 32 - 1) ⊎ (2 ^ 32 - 1 ≤ a) → (a ≡ z) ⊎ (a ≡ z → ⊥) → SoleBack bs q p
          go (inl low) (inl same) = at_p a (sole_found bs small q a z (ts.first_backs.each q q_in) (ts.last_backs.each q q_in) low same)
          go (inl low) (inr other) = absurd (none (λ l. other))
          go (inr high) e = absurd (none (λ l s. omega arith))

        module _ (v : ℕ) (zv : FirstEnd (SpanOf (RowOf bs)) 1 (length bs) q v) where
          pub back_enters_row : v ≤ p → RuleAnswer (Some 9) (BreaksEdge bs p q)
          back_enters_row near = answer_some (BreaksEdge bs p q) 9 back_gap (back_enters bs (length bs) p q v back within zv near)

          back_10 : p < v → NoneBelow (BreaksEdge bs p q) 10
          back_10 far = none_more (BreaksEdge bs p q) 9 back_gap go where
            go : BreaksEdge bs p q 9 → ⊥
            go (s9 r is out inside other) = back_stays bs (length bs) p q v back zv far r is out inside other

          module _ (far : p < v) (lv : ℕ) (zl : LastOver (SpanOf (LoopOf bs)) 0 p lv) where
            pub back_leaves_loop : lv ≢ q + 1 → RuleAnswer (Some 10) (BreaksEdge bs p q)
            back_leaves_loop other = answer_some (BreaksEdge bs p q) 10 (back_10 far) (back_leaves bs p heads lv zl q loop.continue_target loop.by back loop.loops sole other)

            pub back_fine : lv ≡ q + 1 → RuleAnswer None (BreaksEdge bs p q)
            back_fine same = answer_none (BreaksEdge bs p q) 12 (none_more (BreaksEdge bs p q) 11 (none_more (BreaksEdge bs p q) 10 (back_10 far) not_10) not_11) edge_last where
              not_10 : BreaksEdge bs p q 10 → ⊥
              not_10 (s10 r is i out other none) = none (back_allowed bs p heads lv zl q loop.continue_target loop.by back loop.loops sole same)

              not_11 : BreaksEdge bs p q 11 → ⊥
              not_11 (s11 r c ir ic of other i to) =
                  back_keeps_case bs p q loop.continue_target loop.by clear back loop.loops (back_within bs p heads q loop.continue_target p loop.by back loop.loops sole).1 r c ir ic of other i to

    -- ---- forward edges
    module _ (ahead : p < q) (below : q < length bs) where
      forward_gap : NoneBelow (BreaksEdge bs p q) 9
      forward_gap = edge_gap go where
        go : BreaksEdge bs p q 6 → ⊥
        go (s6_target l n) = omega arith

      module _ (v : ℕ) (zv : LastOver (SpanOf (RowOf bs)) 1 q v) where
        pub forward_enters_row : p + 1 < v → RuleAnswer (Some 9) (BreaksEdge bs p q)
        forward_enters_row far = answer_some (BreaksEdge bs p q) 9 forward_gap (forward_enters bs p q v ahead zv far)

        forward_10 : v ≤ p + 1 → NoneBelow (BreaksEdge bs p q) 10
        forward_10 near = none_more (BreaksEdge bs p q) 9 forward_gap go where
          go : BreaksEdge bs p q 9 → ⊥
          go (s9 r is out inside other) = forward_stays bs p q v ahead zv near r is out inside other

        module _ (near : v ≤ p + 1) where
          pub forward_breaks : BreaksEdge bs p q 10 → RuleAnswer (Some 10) (BreaksEdge bs p q)
          forward_breaks b = answer_some (BreaksEdge bs p q) 10 (forward_10 near) b

          module _ (not_10 : BreaksEdge bs p q 10 → ⊥) (c : ℕ) (zc : LeastFirst (SpanOf (CaseFrom bs)) q c) where
            forward_11 : NoneBelow (BreaksEdge bs p q) 11
            forward_11 = none_more (BreaksEdge bs p q) 10 (forward_10 near) not_10

            pub forward_crosses : c ≤ p → RuleAnswer (Some 11) (BreaksEdge bs p q)
            forward_crosses low = answer_some (BreaksEdge bs p q) 11 forward_11 (crosses_cases bs p q c ahead (let w = within in omega arith) zc low)

            pub forward_fine : p < c → RuleAnswer None (BreaksEdge bs p q)
            forward_fine high = answer_none (BreaksEdge bs p q) 12 (none_more (BreaksEdge bs p q) 11 forward_11 not_11) edge_last where
              not_11 : BreaksEdge bs p q 11 → ⊥
              not_11 (s11 r d ir id of other i to) = keeps_case bs p q c zc high r d ir id of i to

      -- ---- S10
      pub allowed_10 : MayLeave bs p q → BreaksEdge bs p q 10 → ⊥
      allowed_10 may (s10 r is i out other none) = none may

      module _ (lv me mc : ℕ) (zl : LastOver (SpanOf (LoopOf bs)) 0 p lv) (ze : FirstEnd (SpanOf (LeftOf bs)) 0 (length bs) p me) (zc : FirstEnd (SpanOf (BodyOf bs)) 0 (length bs) p mc) (none : MayLeave bs p q → ⊥) where
        pub left_10 : me < q → BreaksEdge bs p q 10
        left_10 far = forward_leaves_end bs p heads lv zl (length bs) q me mc ahead below ze zc far none

        pub body_10 : q ≤ me → Tells (leb mc q) (BreaksEdge bs p q 10)
        body_10 near = tells_le (BreaksEdge bs p q 10) mc q (λ far. forward_leaves_body bs p heads lv zl (length bs) q me mc ahead below ze zc far none) go where
          go : q < mc → BreaksEdge bs p q 10 → ⊥
          go fits (s10 r is i out other n) = forward_holds bs p heads lv zl (length bs) q me mc ahead below ze zc near fits r is i out other

-- ---- all edges of a block
module _ (bs : List BasicBlock) (p : ℕ) where
  pub some_none : (ts : List ℕ) → RuleAnswer None (BreaksSome bs p (take 0 ts))
  some_none ts = λ k b. taken_none ts b.target b.listed

  pub some_more : (ts : List ℕ) (i t : ℕ) (old next : Option ℕ) → i < length ts → t ≡ get_or ts i 0 → RuleAnswer old (BreaksSome bs p (take i ts)) → RuleAnswer next (BreaksEdge bs p t) → RuleAnswer (lesser_of old next) (BreaksSome bs p (take (i + 1) ts))
  some_more ts i t old next inside t_is = go old next where
    old_in : (k : ℕ) → BreaksSome bs p (take i ts) k → BreaksSome bs p (take (i + 1) ts) k
    old_in k b = record { target = b.target; listed = taken_old ts i b.target inside b.listed; breaks = b.breaks }

    new_in : (k : ℕ) → BreaksEdge bs p t k → BreaksSome bs p (take (i + 1) ts) k
    new_in k b = record { target = t; listed = subst (λ (x : ℕ). Contains (take (i + 1) ts) x) (sym t_is) (taken_new ts i inside); breaks = b }

    either : (k : ℕ) → BreaksSome bs p (take (i + 1) ts) k → BreaksSome bs p (take i ts) k ⊎ BreaksEdge bs p t k
    either k b = elim (taken_cases ts i b.target inside b.listed) [
      | inl h ↦ inl (record { target = b.target; listed = h; breaks = b.breaks })
      | inr e ↦ inr (subst (λ (x : ℕ). BreaksEdge bs p x k) (sym (t_is ∙ e)) b.breaks)
    ]

    go : (old next : Option ℕ) → RuleAnswer old (BreaksSome bs p (take i ts)) → RuleAnswer next (BreaksEdge bs p t) → RuleAnswer (lesser_of old next) (BreaksSome bs p (take (i + 1) ts))
    go None None a b = λ k h. elim (either k h) [ inl o ↦ a k o | inr n ↦ b k n ]
    go None (Some n) a b = (new_in n b.0, λ k h. elim (either k h) [ inl o ↦ absurd (a k o) | inr m ↦ b.1 k m ])
    go (Some o) None a b = (old_in o a.0, λ k h. elim (either k h) [ inl m ↦ a.1 k m | inr n ↦ absurd (b k n) ])
    go (Some o) (Some n) a b = (
      elim (cases_lt o n) [
        | inl less ↦ (let same : o ≡ min o n = omega arith in subst (λ (x : ℕ). BreaksSome bs p (take (i + 1) ts) x) same (old_in o a.0))
        | inr most ↦ (let same : n ≡ min o n = omega arith in subst (λ (x : ℕ). BreaksSome bs p (take (i + 1) ts) x) same (new_in n b.0))
      ],
      λ k h. elim (either k h) [ inl m ↦ (let l = a.1 k m in omega arith) | inr m ↦ (let l = b.1 k m in omega arith) ],
    )

  pub some_all : (ts : List ℕ) (i : ℕ) (answer : Option ℕ) → length ts ≤ i → RuleAnswer answer (BreaksSome bs p (take i ts)) → RuleAnswer answer (BreaksSome bs p ts)
  some_all ts i answer all a = subst (λ (xs : List ℕ). RuleAnswer answer (BreaksSome bs p xs)) (take_all i ts all) a

  pub end_answer : (b : BasicBlock) (answer : Option ℕ) → At bs p b → (BreaksEnd bs p b 1 → ⊥) → RuleAnswer answer (BreaksSome bs p b.targets) → RuleAnswer answer (BreaksEnd bs p b)
  end_answer b answer at none a = go answer a where
    some_of : (k : ℕ) → BreaksEnd bs p b k → BreaksSome bs p b.targets k
    some_of k (s1_none f m n) = absurd (none (s1_none f m n))
    some_of k (s1_equal q t s) = absurd (none (s1_equal q t s))
    some_of k (by_target q e x) = record { target = q; listed = subst (λ (d : BasicBlock). Contains d.targets q) (at_same bs p e.block b e.at at) e.target; breaks = x }

    go : (answer : Option ℕ) → RuleAnswer answer (BreaksSome bs p b.targets) → RuleAnswer answer (BreaksEnd bs p b)
    go None a = λ k h. a k (some_of k h)
    go (Some n) a = (by_target a.0.target (listed_edge bs p a.0.target b at a.0.listed) a.0.breaks, λ k h. a.1 k (some_of k h))

  pub end_first : (b : BasicBlock) → (k : ℕ) → BreaksEnd bs p b k → 1 ≤ k
  end_first b k (s1_none f m n) = omega arith
  end_first b k (s1_equal q t s) = omega arith
  end_first b k (by_target q e x) = elim (cases_lt k 6) [ inl low ↦ absurd ((edge_first bs p q).none k low x) | inr high ↦ omega arith ]
