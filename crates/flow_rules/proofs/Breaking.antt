-- Which branch edges leave a construct to a block to which they may not, where nothing is broken before.
use Rattle.std.proofs.Common.{ℕ, zero, suc, ◌≡◌, ◌≢◌, ◌<◌, ◌≤◌, ◌+◌, ◌⊎◌, inl, inr, refl, sym, subst, ◌∙◌, arith, List}
use Rattle.std.proofs.lemmas.Bool.{cases_lt}
use Rattle.flow_rules.specs.Blocks.{BasicBlock}
use Rattle.flow_rules.specs.declared.block.Merge.{Merge}
use Rattle.flow_rules.specs.Flow.{Row, In, Header, Loops, SoleBack, IsConstruct, selection, loop_construct, continue_construct, IsRow, is_construct, is_loop, InnermostLoop}
use Rattle.flow_rules.specs.Rules.{BreaksEdge, s10, BreaksMerge, s5_before, s5_behind, s7, s8_outside, MayLeave, to_loop_merge, to_continue, to_switch_merge, to_header}
use Rattle.flow_rules.specs.Lists.{FirstEnd, LastOver, SpanOf, BodyOf, LoopOf, LeftOf, left_selection, left_continue}
use Rattle.flow_rules.proofs.Blocks.{merge_same}
use Rattle.flow_rules.proofs.Crossing.{whole}
use Rattle.flow_rules.proofs.Leaving.{InnerAt, inner_at, inner_is}

module _ (bs : List BasicBlock) where
  -- nothing is broken at the headers up to block p
  pub record AreHeadsClear (p : ℕ) : Type 0 where
    pub heads : (h : ℕ) (g : Merge) (rule : ℕ) → h ≤ p → Header bs h g → BreaksMerge bs h g rule → ⊥

  module _ (p : ℕ) (clear : AreHeadsClear p) where
    pub loop_behind : (h c : ℕ) (g : Merge) → h ≤ p → Loops bs h g c → h ≤ c
    loop_behind h c g low l = elim (cases_lt c h) [ inl e ↦ absurd (clear.heads h g 5 low l.header (s5_before c l e)) | inr e ↦ e ]

    pub loop_before : (h c : ℕ) (g : Merge) → h ≤ p → Loops bs h g c → c < g.merge_block
    loop_before h c g low l = elim (cases_lt c g.merge_block) [ inl e ↦ e | inr e ↦ absurd (clear.heads h g 5 low l.header (s5_behind c l e)) ]

    -- the one back-edge block of a loop lies in its continue construct
    pub back_within : (h c b : ℕ) (g : Merge) → h ≤ p → Loops bs h g c → SoleBack bs h b → (c ≤ b) × (b < g.merge_block)
    back_within h c b g low l sole = (elim (cases_lt b c) [ inl e ↦ absurd (out (λ i. (let a = i.from in omega arith))) | inr e ↦ e ], elim (cases_lt b g.merge_block) [ inl e ↦ e | inr e ↦ absurd (out (λ i. (let a = i.before in omega arith))) ]) where
      out : (In (record { of = h; by = g; first = c; end = g.merge_block }) b → ⊥) → ⊥
      out none = clear.heads h g 8 low l.header (s8_outside _ c b l refl sole none)

    -- a later header's row that shares a block with an earlier one's and does not end behind it
    nested : (r s : Row) (x : ℕ) (g : Merge) → IsRow bs r → IsRow bs s → r.of < s.of → s.of ≤ p → Header bs s.of g → s.by ≡ g → In r x → In s x → r.first < s.first → s.end ≤ r.end
    nested r s x g ir is order low head by a b early = elim (cases_lt r.end s.end) [
      | inr h ↦ h
      | inl h ↦
          let af = a.from in let ab = a.before in let bf = b.from in let bb = b.before in
          absurd (clear.heads s.of g 7 low head (s7 r s ir is order refl by (record {
            common = x;
            in_first = a;
            in_second = b;
            first_only = r.first;
            of_first = record { from = omega arith; before = omega arith };
            not_second = λ i. (let q = i.from in omega arith);
            second_only = r.end;
            of_second = record { from = omega arith; before = h };
            not_first = λ i. (let q = i.before in omega arith);
          })))
    ]

    module _ (lv : ℕ) (zl : LastOver (SpanOf (LoopOf bs)) 0 p lv) where
      -- ---- back edges
      module _ (q c : ℕ) (g : Merge) (back : q ≤ p) (loops : Loops bs q g c) (sole : SoleBack bs q p) where
        held : p < g.merge_block
        held = (back_within q c p g back loops sole).1

        inside : q < lv
        inside = zl.last q g.merge_block (q, record { by = g; continue_target = c; loops = loops; first_is = refl; end_is = refl }) (omega arith) held

        pub back_allowed : lv ≡ q + 1 → MayLeave bs p q
        back_allowed is =
            let at = inner_at bs p lv zl q is in
            to_header at.row at.inner (sym at.of_is) (subst (λ (x : ℕ). SoleBack bs x p) (sym at.of_is) sole)

        -- an edge to the header of another loop than the innermost leaves that one
        pub back_leaves : lv ≢ q + 1 → BreaksEdge bs p q 10
        back_leaves other = go lv refl where
          go : (v : ℕ) → lv ≡ v → BreaksEdge bs p q 10
          go zero is = absurd (let i = inside in omega arith)
          go (suc l) is = leaves (inner_at bs p lv zl l (omega arith)) where
            leaves : InnerAt bs p lv zl l → BreaksEdge bs p q 10
            leaves at = elim (cases_lt p at.inner.loop.continue_target) [
              | inl h ↦ s10 (record { of = r.of; by = r.by; first = r.of; end = d }) (is_construct_body) (record { from = low; before = h }) (λ i. (let a = i.from in let o = later in omega arith)) not_merge none
              | inr h ↦ s10 (record { of = r.of; by = r.by; first = d; end = r.by.merge_block }) (is_construct_continue) (record { from = h; before = over }) (λ i. (let a = i.from in let o = later in let k = body in omega arith)) not_merge none
            ] where
              r : Row
              r = at.row

              d : ℕ
              d = at.inner.loop.continue_target

              low : r.of ≤ p
              low = let a = at.inner.holds.from in let f = at.inner.loop.first_is in omega arith

              over : p < r.by.merge_block
              over = let a = at.inner.holds.before in let e = at.inner.loop.end_is in omega arith

              later : q < r.of
              later = let i = inside in let o = at.of_is in omega arith

              body : r.of ≤ d
              body = loop_behind r.of d r.by low at.inner.loop.loops

              not_merge : q ≢ r.by.merge_block
              not_merge e = let o = over in omega arith

              is_construct_body : IsConstruct bs (record { of = r.of; by = r.by; first = r.of; end = d })
              is_construct_body = loop_construct d at.inner.loop.loops refl refl

              is_construct_continue : IsConstruct bs (record { of = r.of; by = r.by; first = d; end = r.by.merge_block })
              is_construct_continue = continue_construct d at.inner.loop.loops refl refl

              same : (m : Row) → InnermostLoop bs p m → m.of ≡ r.of
              same m i = let a = inner_is bs p lv zl m i in let o = at.of_is in omega arith

              none : MayLeave bs p q → ⊥
              none (to_loop_merge m i e) = let a = i.holds.before in let f = i.loop.end_is in omega arith
              none (to_continue m i e) =
                  let a = i.holds.from in let f = i.loop.first_is in
                  let order : m.of ≤ i.loop.continue_target = loop_behind m.of i.loop.continue_target m.by (omega arith) i.loop.loops in
                  let o = later in
                  omega (arith, same m i)
              none (to_switch_merge s i e) = let a = i.holds.before in let f = i.switch.end_is in omega arith
              none (to_header m i e one) = let o = later in omega (arith, same m i)

      -- ---- forward edges
      module _ (count q me mc : ℕ) (ahead : p < q) (below : q < count) (ze : FirstEnd (SpanOf (LeftOf bs)) 0 count p me) (zc : FirstEnd (SpanOf (BodyOf bs)) 0 count p mc) where
        left_of : (r : Row) → IsConstruct bs r → In r p → (In r q → ⊥) → q ≢ r.by.merge_block → (me < q) ⊎ (mc ≤ q)
        left_of r (selection s f e) i out other =
            let from = i.from in let before = i.before in
            inl (elim (cases_lt q r.end) [
              | inl h ↦ absurd (out (record { from = omega arith; before = h }))
              | inr h ↦ omega (arith, ze.least r.of r.by.merge_block (r.of, left_selection (record { by = r.by; selects = s; first_is = refl; end_is = refl })) (omega arith) (omega arith))
            ])
        left_of r (continue_construct c l f e) i out other =
            let from = i.from in let before = i.before in
            inl (elim (cases_lt q r.end) [
              | inl h ↦ absurd (out (record { from = omega arith; before = h }))
              | inr h ↦ omega (arith, ze.least c r.by.merge_block (r.of, left_continue (record { by = r.by; loops = l; end_is = refl })) (omega arith) (omega arith))
            ])
        left_of r (loop_construct c l f e) i out other =
            let from = i.from in let before = i.before in
            inr (elim (cases_lt q r.end) [
              | inl h ↦ absurd (out (record { from = omega arith; before = h }))
              | inr h ↦ omega (arith, zc.least r.of c (r.of, record { by = r.by; loops = l; first_is = refl }) (omega arith) (omega arith))
            ])

        -- no construct is left
        pub forward_holds : q ≤ me → q < mc → (r : Row) → IsConstruct bs r → In r p → (In r q → ⊥) → q ≢ r.by.merge_block → ⊥
        forward_holds a c r is i out other = elim (left_of r is i out other) [ inl h ↦ omega arith | inr h ↦ omega arith ]

        pub forward_leaves_end : me < q → (MayLeave bs p q → ⊥) → BreaksEdge bs p q 10
        forward_leaves_end far none = go (ze.attained (omega arith)) where
          go : (f : ℕ) × ((h : ℕ) × LeftOf bs h f me) × (f + 0 ≤ p) → BreaksEdge bs p q 10
          go (f, (h, left_selection z), early) =
              let over : p < me = ze.behind in
              s10 (whole h z.by) (selection z.selects refl refl) (record { from = omega (arith, z.first_is); before = omega (arith, z.end_is) }) (λ i. (let a = i.before in omega (arith, z.end_is))) (λ e. omega (arith, z.end_is)) none
          go (f, (h, left_continue z), early) =
              let over : p < me = ze.behind in
              s10 (record { of = h; by = z.by; first = f; end = z.by.merge_block }) (continue_construct f z.loops refl refl) (record { from = omega arith; before = omega (arith, z.end_is) })
              (λ i. (let a = i.before in omega (arith, z.end_is))) (λ e. omega (arith, z.end_is)) none

        pub forward_leaves_body : mc ≤ q → (MayLeave bs p q → ⊥) → BreaksEdge bs p q 10
        forward_leaves_body far none = go (zc.attained (omega arith)) where
          go : (f : ℕ) × ((h : ℕ) × BodyOf bs h f mc) × (f + 0 ≤ p) → BreaksEdge bs p q 10
          go (f, (h, z), early) = elim (cases_lt q m) [
            | inl less ↦ at_body (λ e. omega arith)
            | inr most ↦ elim (cases_lt m q) [
              | inl more ↦ at_body (λ e. omega arith)
              | inr same ↦ inner lv refl (omega arith)
            ]
          ] where
            m : ℕ
            m = z.by.merge_block

            low : h ≤ p
            low = omega (arith, z.first_is)

            over : p < mc
            over = zc.behind

            at_body : q ≢ m → BreaksEdge bs p q 10
            at_body other = s10 (record { of = h; by = z.by; first = h; end = mc }) (loop_construct mc z.loops refl refl) (record { from = low; before = over }) (λ i. (let a = i.before in omega arith)) other none

            wide : mc < m
            wide = loop_before h mc z.by low z.loops

            held : h < lv
            held = let o = over in let w = wide in zl.last h m (h, record { by = z.by; continue_target = mc; loops = z.loops; first_is = refl; end_is = refl }) (let l = low in omega arith) (omega arith)

            inner : (v : ℕ) → lv ≡ v → m ≡ q → BreaksEdge bs p q 10
            inner zero is same = absurd (let i = held in omega arith)
            inner (suc l) is same = leaves (inner_at bs p lv zl l (omega arith)) where
              leaves : InnerAt bs p lv zl l → BreaksEdge bs p q 10
              leaves at = elim (cases_lt h r.of) [
                | inr equal ↦ absurd (none (to_loop_merge r at.inner (sym same ∙ one (let i = held in let o = at.of_is in omega arith))))
                | inl later ↦ elim (cases_lt p d) [
                  | inl early ↦ absurd (let a = ends later in let w = narrow in omega (arith, zc.least r.of d (r.of, record { by = r.by; loops = at.inner.loop.loops; first_is = refl }) (let o = below_p in omega arith) early))
                  | inr late ↦
                      let a = ends later in let w = wide in
                      s10 (record { of = r.of; by = r.by; first = d; end = r.by.merge_block }) (continue_construct d at.inner.loop.loops refl refl) (record { from = late; before = over_p })
                      (λ i. (let k = i.before in omega arith)) (λ e. omega arith) none
                ]
              ] where
                r : Row
                r = at.row

                d : ℕ
                d = at.inner.loop.continue_target

                below_p : r.of ≤ p
                below_p = let a = at.inner.holds.from in let f = at.inner.loop.first_is in omega arith

                over_p : p < r.by.merge_block
                over_p = let a = at.inner.holds.before in let e = at.inner.loop.end_is in omega arith

                narrow : d < r.by.merge_block
                narrow = loop_before r.of d r.by below_p at.inner.loop.loops

                one : h ≡ r.of → m ≡ r.by.merge_block
                one e = merge_same bs r.of z.by r.by (subst (λ (x : ℕ). Header bs x z.by) e z.loops.header) at.inner.loop.loops.header

                -- the inner loop lies in the body of the outer one
                ends : h < r.of → r.by.merge_block ≤ mc
                ends later = nested (record { of = h; by = z.by; first = h; end = mc }) (whole r.of r.by) p r.by (is_construct (loop_construct mc z.loops refl refl))
                    (is_loop (record { continue_target = d; loops = at.inner.loop.loops; first_is = refl; end_is = refl })) later below_p at.inner.loop.loops.header refl
                    (record { from = low; before = over }) (record { from = below_p; before = over_p }) later
